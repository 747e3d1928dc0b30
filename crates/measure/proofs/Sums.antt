-- A running sum over accesses or tasks, and what is left, is the whole.
use mathlib.Core.Path.{◌≡◌, sym, ap, ◌∙◌}
use mathlib.Core.Bool.{Bool, cond}
use mathlib.Core.List.{List}
use Prim.Native.Nat.{ℕ, ◌+◌, ◌-◌, ◌<◌, ◌≤◌}
use native.Mathlib.Omega.{arith}
use lib.ListN.{drop, get_or, length}
use Rattle.layout.specs.Flow.{Access, Task}
use Rattle.layout.specs.Lists.{each}
use Rattle.layout.specs.Row.{task_of, operation_at}
use Rattle.layout.specs.File.{row_at, tasks_in}
use Rattle.layout.proofs.Lists.{each-length}
use Rattle.layout.proofs.Modes.{each-drop, each-drop-all}
use Rattle.steps.specs.Step.{writes}
use Rattle.steps.specs.Run.{access_steps, total_of}

module _ (n : ℕ) (f : ℕ → Access) where
  -- one access more
  pub access_next : (j steps more whole : ℕ) (write : Bool) → j < n → write ≡ writes (f j) → more ≡ steps + cond write 4 2
      → whole ≡ steps + access_steps (drop j (each n f))
      → whole ≡ more + access_steps (drop (j + 1) (each n f))
  unfolding access_steps
  access_next j steps more whole write h e m w =
      let left : access_steps (drop j (each n f)) ≡ cond write 4 2 + access_steps (drop (j + 1) (each n f)) =
      ap access_steps (each-drop n f j h) ∙ ap (λ (b : Bool). cond b 4 2 + access_steps (drop (j + 1) (each n f))) (sym e) in
      omega arith

  pub access_end : (j steps whole : ℕ) → n ≤ j → whole ≡ steps + access_steps (drop j (each n f)) → steps ≡ whole
  unfolding access_steps
  access_end j steps whole h w = omega (arith, ap access_steps (each-drop-all n f j h))

module _ (workers n : ℕ) (f : ℕ → Task) where
  -- one task more
  task_next : (i sum more whole : ℕ) → i < n
      → more ≡ sum + (access_steps (f i).accesses + length (f i).operations + (workers - 1))
      → whole ≡ sum + total_of workers (drop i (each n f))
      → whole ≡ more + total_of workers (drop (i + 1) (each n f))
  unfolding total_of
  task_next i sum more whole h m w = omega (arith, ap (total_of workers) (each-drop n f i h))

  pub task_end : (i sum whole : ℕ) → n ≤ i → whole ≡ sum + total_of workers (drop i (each n f)) → sum ≡ whole
  unfolding total_of
  task_end i sum whole h w = omega (arith, ap (total_of workers) (each-drop-all n f i h))

-- a task's row counts for what the task does
row_counts : (steps operations others : ℕ) (part row : List ℕ) → part ≡ row → steps ≡ access_steps (task_of part).accesses
    → operations ≡ get_or part 2 0
    → steps + operations + others ≡ access_steps (task_of row).accesses + length (task_of row).operations + others
unfolding task_of
row_counts steps operations others part row e a o =
    ap (λ (n : ℕ). n + operations + others) (a ∙ ap (λ (r : List ℕ). access_steps (task_of r).accesses) e)
    ∙ ap (λ (n : ℕ). access_steps (task_of row).accesses + n + others)
    (o ∙ ap (λ (r : List ℕ). get_or r 2 0) e ∙ sym (each-length (get_or row 2 0) (operation_at row)))

-- with the steps of one task more
pub row_next : (file row : List ℕ) (workers tasks done sum steps operations : ℕ) → done < tasks → row ≡ row_at file (done + 1)
    → steps ≡ access_steps (task_of row).accesses
    → operations ≡ get_or row 2 0
    → total_of workers (tasks_in file tasks) ≡ sum + total_of workers (drop done (tasks_in file tasks))
    → total_of workers (tasks_in file tasks)
    ≡ sum + (steps + operations + (workers - 1)) + total_of workers (drop (done + 1) (tasks_in file tasks))
row_next file row workers tasks done sum steps operations h e a o =
    task_next workers tasks (λ i. task_of (row_at file (i + 1))) done sum _ _ h
    (ap (λ (n : ℕ). sum + n) (row_counts steps operations (workers - 1) row (row_at file (done + 1)) e a o))
