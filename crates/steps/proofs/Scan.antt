-- What the last begun task that writes a cell left there is what the plain run has there at that point of that task, where the
-- writers before it are complete: the plain run changes a cell only in the tasks that declare it written.
use mathlib.Core.Path.{◌≡◌, refl, sym, ap, ◌∙◌}
use mathlib.Core.Bool.{Bool, true, false, cond, ◌&&◌, false≢true}
use mathlib.Core.List.{List}
use Prim.Native.Nat.{ℕ, zero, suc, ◌≤◌, ◌<◌}
use native.Mathlib.Omega.{arith}
use native.Mathlib.Decide.{le_ind}
use borrow.Author.Tests.{ltb-false}
use lib.ListN.{length, get_or, take}
use lib.Seq.{take-suc, take-length, get_or-set_other}
use lib.Dec.{ltb}
use Rattle.layout.specs.Flow.{Task}
use Rattle.steps.specs.Operations.{Effect, operated}
use Rattle.steps.specs.Plain.{after_operations, after_tasks}
use Rattle.steps.specs.Conflict.{no_task, task_at, no_operation, operation_of, declares_written, AllKeep}
use Rattle.steps.proofs.Plain.{either_way, operations_length, operations_more, tasks_length, tasks_more}

-- how many operations of each task have been made
abbrev pub MadeSoFar : Type 0
MadeSoFar = ℕ → ℕ

-- how many operations a task has
abbrev pub operations_in : List Task → ℕ → ℕ
operations_in tasks j = length (task_at tasks j).operations

-- the tasks before j that write the cell are complete
abbrev pub WritersComplete : List Task → MadeSoFar → ℕ → ℕ → Type 0
WritersComplete tasks made c j = (i : ℕ) → i < j → declares_written (task_at tasks i) c ≡ true → made i ≡ operations_in tasks i

-- those from j up to m that do have not begun
abbrev pub WritersIdle : List Task → MadeSoFar → ℕ → ℕ → ℕ → Type 0
WritersIdle tasks made c j m = (i : ℕ) → j ≤ i → i < m → declares_written (task_at tasks i) c ≡ true → made i ≡ 0

module _ (does : Effect) (tasks : List Task) (start : List ℕ) where
  -- ---- the plain run in the midst of a task

  -- the cells after the tasks before j and some operations of j
  unfoldable pub plain_at : ℕ → ℕ → List ℕ
  plain_at j made = after_operations does (take made (task_at tasks j).operations) (after_tasks does (take j tasks) start)

  abbrev pub plain_cell : ℕ → ℕ → ℕ → ℕ
  plain_cell j made c = get_or (plain_at j made) c 0

  pub plain_length : (j made : ℕ) → length (plain_at j made) ≡ length start
  unfolding plain_at
  plain_length j made = operations_length does (take made (task_at tasks j).operations) _ ∙ tasks_length does (take j tasks) start

  pub plain_more : (j made : ℕ) → made < operations_in tasks j
      → plain_at j (suc made) ≡ operated does (operation_of (task_at tasks j) made) (plain_at j made)
  unfolding plain_at
  plain_more j made h =
      rw (take-suc (task_at tasks j).operations made no_operation h)
      (operations_more does (take made (task_at tasks j).operations) (operation_of (task_at tasks j) made) _)

  plain_start : plain_at 0 0 ≡ start
  unfolding plain_at after_operations after_tasks
  plain_start = refl

  pub plain_next : (j : ℕ) → j < length tasks → plain_at j (operations_in tasks j) ≡ plain_at (suc j) 0
  unfolding plain_at after_operations
  plain_next j h =
      rw (take-suc tasks j no_task h, take-length (task_at tasks j).operations)
      (sym (tasks_more does (take j tasks) (task_at tasks j) start))

  pub plain_end : plain_at (length tasks) 0 ≡ after_tasks does tasks start
  unfolding plain_at after_operations
  plain_end = rw take-length

  -- ---- the scan

  -- what the last of the first j tasks that writes a cell and has begun has left there
  pub canon : MadeSoFar → ℕ → ℕ → ℕ
  canon made c zero = get_or start c 0
  canon made c (suc j) = cond (declares_written (task_at tasks j) c && ltb 0 (made j)) (plain_cell j (made j) c) (canon made c j)

  -- a task that doesn't write the cell, or has not begun, is passed over
  canon_over : (made : MadeSoFar) (c j : ℕ) → (declares_written (task_at tasks j) c ≡ true → made j ≡ 0)
      → canon made c (suc j) ≡ canon made c j
  unfolding canon
  canon_over made c j idle = go (declares_written (task_at tasks j) c) idle
    where
      go : (writes : Bool) → (writes ≡ true → made j ≡ 0)
          → cond (writes && ltb 0 (made j)) (plain_cell j (made j) c) (canon made c j) ≡ canon made c j
      go true idle = rw (idle refl)
      go false idle = refl

  canon_past : (made : MadeSoFar) (c j m : ℕ) → j ≤ m → WritersIdle tasks made c j m → canon made c m ≡ canon made c j
  canon_past made c j =
      le_ind
      (λ (m : ℕ). WritersIdle tasks made c j m → canon made c m ≡ canon made c j)
      (λ idle. refl)
      (λ m h past idle. canon_over made c m (idle m h (omega arith)) ∙ past (λ i l k. idle i l (omega arith)))

  pub canon_start : (c j : ℕ) → canon (λ i. 0) c j ≡ get_or start c 0
  unfolding canon
  canon_start c j = canon_past (λ i. 0) c 0 j (omega arith) (λ i l k w. refl)

  -- the progress of a task that doesn't write the cell is of no account
  pub canon_same : (made made' : MadeSoFar) (c j : ℕ) → ((i : ℕ) → declares_written (task_at tasks i) c ≡ true → made i ≡ made' i)
      → canon made c j ≡ canon made' c j
  unfolding canon
  canon_same made made' c zero same = refl
  canon_same made made' c (suc j) same = go (declares_written (task_at tasks j) c) (same j) (canon_same made made' c j same)
    where
      go : (writes : Bool) → (writes ≡ true → made j ≡ made' j) → canon made c j ≡ canon made' c j
          → cond (writes && ltb 0 (made j)) (plain_cell j (made j) c) (canon made c j)
          ≡ cond (writes && ltb 0 (made' j)) (plain_cell j (made' j) c) (canon made' c j)
      go true same before = rw (same refl, before)
      go false same before = before

  -- ---- the scan is the plain run

  module _ {workers : ℕ} (keeps : AllKeep workers (length start) tasks) where
    pub plain_kept : (j made c : ℕ) → j < length tasks → made ≤ operations_in tasks j → declares_written (task_at tasks j) c ≡ false
        → plain_cell j made c ≡ plain_cell j 0 c
    plain_kept j zero c h l undeclared = refl
    plain_kept j (suc made) c h l undeclared =
        rw (plain_more j made l) (get_or-set_other (plain_at j made) _ c _ 0 other ∙ plain_kept j made c h (omega arith) undeclared)
      where
        other : c ≡ (operation_of (task_at tasks j) made).a → ⊥
        other e = false≢true (sym undeclared ∙ ap (declares_written (task_at tasks j)) e ∙ (keeps.each_task j h).writes made l)

    module _ (made : MadeSoFar) (within : (i : ℕ) → made i ≤ operations_in tasks i) (c : ℕ) where
      -- a task that finds in the cell what the plain run has there leaves what the plain run does
      canon_at : (j : ℕ) → j < length tasks → canon made c j ≡ plain_cell j 0 c → canon made c (suc j) ≡ plain_cell j (made j) c
      unfolding canon
      canon_at j h before = go (declares_written (task_at tasks j) c) refl (ltb 0 (made j)) refl
        where
          go : (writes : Bool) → declares_written (task_at tasks j) c ≡ writes → (begun : Bool) → ltb 0 (made j) ≡ begun
              → cond (writes && begun) (plain_cell j (made j) c) (canon made c j) ≡ plain_cell j (made j) c
          go true w true b = refl
          go true w false b =
              let none : made j ≡ 0 = omega (arith, ltb-false 0 (made j) b) in
              rw none before
          go false w begun b = before ∙ sym (plain_kept j (made j) c h (within j) w)

      -- where the writers before a task are complete
      pub canon_before : (j : ℕ) → j ≤ length tasks → WritersComplete tasks made c j → canon made c j ≡ plain_cell j 0 c
      unfolding canon
      canon_before zero h complete = rw plain_start
      canon_before (suc j) h complete =
          canon_at j h (canon_before j (omega arith) (λ i l. complete i (omega arith)))
          ∙ either_way (declares_written (task_at tasks j) c) (λ w. rw (complete j (omega arith) w))
          (λ w. plain_kept j (made j) c h (within j) w ∙ sym (plain_kept j (operations_in tasks j) c h (omega arith) w))
          ∙ rw (plain_next j h)

      -- and those after it have not begun
      pub canon_here : (j : ℕ) → j < length tasks → WritersComplete tasks made c j → WritersIdle tasks made c (suc j) (length tasks)
          → canon made c (length tasks) ≡ plain_cell j (made j) c
      canon_here j h complete idle =
          canon_past made c (suc j) (length tasks) h idle ∙ canon_at j h (canon_before j (omega arith) complete)
