-- An operation makes the same of cells that hold the same where it reads them, the plain run keeps the number of cells, and one
-- operation or one task more acts on what the ones before it left: each operation replaces one cell of the list that it is handed.
use mathlib.Core.Path.{◌≡◌, refl, sym, ap, ◌∙◌}
use mathlib.Core.Bool.{Bool, true, false}
use mathlib.Core.List.{List, [], ◌∷◌, ◌++◌}
use Prim.Native.Nat.{ℕ, ◌<◌}
use borrow.Author.Tests.{eqb-true, eqb-false}
use lib.ListN.{length, get_or, length-set}
use lib.Seq.{get_or-set_same, get_or-set_other}
use lib.Dec.{eqb}
use Rattle.layout.specs.Flow.{Operation, Task}
use Rattle.layout.specs.Row.{reads_a, reads_b}
use Rattle.steps.specs.Operations.{Effect, operated}
use Rattle.steps.specs.Plain.{after_operations, after_tasks}
use Rattle.steps.specs.Conflict.{ReadsOnlyA, ReadsOnlyB}

pub either_way : {X : Type 0} (test : Bool) → (test ≡ true → X) → (test ≡ false → X) → X
either_way true holds fails = holds refl
either_way false holds fails = fails refl

module _ (does : Effect) where
  -- what an operation makes is the same of two values of a, or of b, that are the same where its code reads it
  pub same_of_a : ReadsOnlyA does → (o : Operation) (a a' b : ℕ) → (reads_a o.code ≡ true → a ≡ a') → does o a b ≡ does o a' b
  same_of_a reads_only o a a' b same =
      either_way (reads_a o.code) (λ reads. ap (λ (x : ℕ). does o x b) (same reads)) (reads_only.but_a o a a' b)

  pub same_of_b : ReadsOnlyB does → (o : Operation) (a b b' : ℕ) → (reads_b o.code ≡ true → b ≡ b') → does o a b ≡ does o a b'
  same_of_b reads_only o a b b' same = either_way (reads_b o.code) (λ reads. ap (does o a) (same reads)) (reads_only.but_b o a b b')

  -- an operation that finds the same in a, and in b if it reads it, leaves the same in every cell that held the same
  pub operated_same : (reads_only : ReadsOnlyB does) (o : Operation) (cells cells' : List ℕ) → o.a < length cells → o.a < length cells'
      → get_or cells o.a 0 ≡ get_or cells' o.a 0
      → (reads_b o.code ≡ true → get_or cells o.b 0 ≡ get_or cells' o.b 0)
      → (c : ℕ) → get_or cells c 0 ≡ get_or cells' c 0 → get_or (operated does o cells) c 0 ≡ get_or (operated does o cells') c 0
  operated_same reads_only o cells cells' l l' same_a same_b c same =
      either_way (eqb c o.a)
      (λ e. rw (eqb-true c o.a e) (get_or-set_same cells o.a _ 0 l ∙ same_value ∙ sym (get_or-set_same cells' o.a _ 0 l')))
      (λ e. get_or-set_other cells o.a c _ 0 (eqb-false c o.a e) ∙ same
      ∙ sym (get_or-set_other cells' o.a c _ 0 (eqb-false c o.a e)))
    where
      same_value : does o (get_or cells o.a 0) (get_or cells o.b 0) ≡ does o (get_or cells' o.a 0) (get_or cells' o.b 0)
      same_value = rw same_a (same_of_b reads_only o _ _ _ same_b)

  pub operations_length : (operations : List Operation) (cells : List ℕ) → length (after_operations does operations cells) ≡ length cells
  unfolding after_operations
  operations_length [] cells = refl
  operations_length (o ∷ operations) cells = operations_length operations (operated does o cells) ∙ simp length-set

  pub operations_more : (operations : List Operation) (o : Operation) (cells : List ℕ)
      → after_operations does (operations ++ (o ∷ [])) cells ≡ operated does o (after_operations does operations cells)
  unfolding after_operations
  operations_more [] o cells = refl
  operations_more (x ∷ operations) o cells = operations_more operations o (operated does x cells)

  pub tasks_length : (tasks : List Task) (cells : List ℕ) → length (after_tasks does tasks cells) ≡ length cells
  unfolding after_tasks
  tasks_length [] cells = refl
  tasks_length (task ∷ tasks) cells =
      tasks_length tasks (after_operations does task.operations cells) ∙ operations_length task.operations cells

  pub tasks_more : (tasks : List Task) (task : Task) (cells : List ℕ)
      → after_tasks does (tasks ++ (task ∷ [])) cells ≡ after_operations does task.operations (after_tasks does tasks cells)
  unfolding after_tasks
  tasks_more [] task cells = refl
  tasks_more (x ∷ tasks) task cells = tasks_more tasks task (after_operations does x.operations cells)
