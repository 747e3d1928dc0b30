-- A loop that takes operations or tasks one by one leaves what the definition gives: what is left to do from where it stands is
-- what the whole gives from the start.
use mathlib.Core.Path.{◌≡◌, sym, ap, ◌∙◌}
use mathlib.Core.List.{List}
use Prim.Native.Nat.{ℕ, ◌+◌, ◌<◌, ◌≤◌}
use lib.ListN.{drop}
use Rattle.layout.specs.Flow.{Operation, Task}
use Rattle.layout.specs.Lists.{each}
use Rattle.layout.proofs.Modes.{each-drop, each-drop-all}
use Rattle.steps.specs.Operations.{Effect, operated}
use Rattle.steps.specs.Plain.{after_operations, after_tasks}

module _ (does : Effect) (n : ℕ) where
  pub operation_next : (f : ℕ → Operation) (i : ℕ) (whole cells : List ℕ) → i < n → whole ≡ after_operations does (drop i (each n f)) cells
      → whole ≡ after_operations does (drop (i + 1) (each n f)) (operated does (f i) cells)
  unfolding after_operations
  operation_next f i whole cells h e = e ∙ ap (λ (os : List Operation). after_operations does os cells) (each-drop n f i h)

  pub operations_end : (f : ℕ → Operation) (i : ℕ) (whole cells : List ℕ) → n ≤ i → whole ≡ after_operations does (drop i (each n f)) cells
      → cells ≡ whole
  unfolding after_operations
  operations_end f i whole cells h e = sym (e ∙ ap (λ (os : List Operation). after_operations does os cells) (each-drop-all n f i h))

  pub task_next : (f : ℕ → Task) (i : ℕ) (whole cells : List ℕ) → i < n → whole ≡ after_tasks does (drop i (each n f)) cells
      → whole ≡ after_tasks does (drop (i + 1) (each n f)) (after_operations does (f i).operations cells)
  unfolding after_tasks
  task_next f i whole cells h e = e ∙ ap (λ (ts : List Task). after_tasks does ts cells) (each-drop n f i h)

  pub tasks_end : (f : ℕ → Task) (i : ℕ) (whole cells : List ℕ) → n ≤ i → whole ≡ after_tasks does (drop i (each n f)) cells → cells ≡ whole
  unfolding after_tasks
  tasks_end f i whole cells h e = sym (e ∙ ap (λ (ts : List Task). after_tasks does ts cells) (each-drop-all n f i h))
