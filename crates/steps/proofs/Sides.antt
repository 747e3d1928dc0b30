-- A task's own steps are its waits, then its operations, then its ends, and an access has as many ends as waits. So the place among
-- them tells what is made: all waits from the first operation on, all operations before the first end.
use mathlib.Core.Path.{◌≡◌, refl, sym, ap, ◌∙◌}
use mathlib.Core.Logic.{◌⊎◌, inl, inr}
use mathlib.Core.Bool.{Bool, true, false, cond, false≢true}
use mathlib.Core.List.{List, [], ◌∷◌, ◌++◌, map, append-nil}
use Prim.Native.Nat.{ℕ, ◌+◌, ◌-◌, ◌≤◌, ◌<◌}
use native.Mathlib.Nat.{lt_of_not-le}
use native.Mathlib.Omega.{arith}
use native.Mathlib.Numerals.{add-one}
use borrow.Author.Tests.{ltb-true, ltb-false}
use lib.ListN.{length, get_or, take, drop, length-append, length-map, get_or-append, get_or-map}
use lib.Seq.{take-append_seam, take-append-add, get_or-append-add, drop-cons}
use lib.Dec.{ltb}
use Rattle.layout.specs.Flow.{Access, Operation, Task}
use Rattle.layout.specs.Row.{named_once}
use Rattle.steps.specs.Step.{Try, wait_write, wait_reads, operate, end_read, zero_reads, post_write}
use Rattle.steps.specs.Step.{writes, waits, ends, of_each, own_steps}
use Rattle.steps.specs.Conflict.{no_operation, operation_of}
use Rattle.steps.proofs.Kind.{read, write}
use Rattle.steps.proofs.Passing.{passing, count, passing-append, count_more, count-passing, count_below}
use Rattle.steps.proofs.Naming.{kind_of}
use Rattle.steps.proofs.OnCell.{steps_of, Alike, passing_access, waits_on, ends_on, waited, waits_width}
use Rattle.steps.proofs.OnCell.{operations_off, stage, stage_more, waits_on_lem}

-- the own steps that are waits
abbrev pub wait_steps : Task → ℕ
wait_steps task = length (of_each waits task.accesses)

-- the waits and the operations: from here on stand the ends
abbrev pub ends_from : Task → ℕ
ends_from task = wait_steps task + length task.operations

-- an access has as many ends as waits
ends_width : (accesses : List Access) → length (of_each ends accesses) ≡ length (of_each waits accesses)
unfolding of_each
ends_width [] = refl
ends_width (access ∷ accesses) = simp length-append (omega (arith, go (writes access) access.cell, ends_width accesses))
  where
    go : (writing : Bool) (d : ℕ)
        → length (cond writing (ends_on write d) (ends_on read d)) ≡ length (cond writing (waits_on write d) (waits_on read d))
    go true d = refl
    go false d = refl

-- ---- operations among the own steps

abbrev pub operates : Try → Bool
operates (wait_write c) = false
operates (wait_reads c) = false
operates (operate o) = true
operates (end_read c) = false
operates (zero_reads c) = false
operates (post_write c) = false

none_operates : (first second only : ℕ → Try) → Alike first second only operates (λ d. false) → (accesses : List Access)
    → passing operates (of_each (steps_of first second only) accesses) ≡ []
unfolding passing of_each
none_operates first second only alike [] = refl
none_operates first second only alike (access ∷ accesses) =
    rw (passing-append, passing_access first second only operates _ alike access) (none_operates first second only alike accesses)

no_wait : (accesses : List Access) → passing operates (of_each waits accesses) ≡ []
no_wait = none_operates wait_write wait_reads wait_write (λ d. (refl, refl, refl))

no_end : (accesses : List Access) → passing operates (of_each ends accesses) ≡ []
no_end = none_operates zero_reads post_write end_read (λ d. (refl, refl, refl))

all_operate : (operations : List Operation) → passing operates (map operate operations) ≡ map operate operations
unfolding passing
all_operate [] = refl
all_operate (o ∷ operations) = ap (λ (l : List Try). operate o ∷ l) (all_operate operations)

module _ (task : Task) where
  pub own_length : length (own_steps task) ≡ ends_from task + wait_steps task
  unfolding own_steps
  own_length = simp (length-append, length-map, ends_width) (omega arith)

  first_waits : take (wait_steps task) (own_steps task) ≡ of_each waits task.accesses
  unfolding own_steps
  first_waits = rw take-append_seam

  first_operations : take (ends_from task) (own_steps task) ≡ of_each waits task.accesses ++ map operate task.operations
  unfolding own_steps
  first_operations = rw (take-append-add, ← (length-map task.operations operate), take-append_seam)

  -- ---- where the operations stand

  operation_at : (i : ℕ) → i < length task.operations
      → get_or (own_steps task) (wait_steps task + i) (operate no_operation) ≡ operate (operation_of task i)
  unfolding own_steps
  operation_at i h =
      let within : i < length (map operate task.operations) = rw length-map h in
      rw (get_or-append-add, get_or-append) (get_or-map operate task.operations i no_operation)

  -- between the waits and the ends an operation is next
  pub operation_next : (k : ℕ) → wait_steps task ≤ k → k < ends_from task
      → drop k (own_steps task) ≡ operate (operation_of task (k - wait_steps task)) ∷ drop (k + 1) (own_steps task)
  operation_next k passed more =
      let place : wait_steps task + (k - wait_steps task) ≡ k = omega arith in
      let here = rw place at (operation_at (k - wait_steps task) (omega arith)) in
      rw (add-one, ← here) (drop-cons (own_steps task) k (operate no_operation) (omega (arith, own_length)))

  operate_all : passing operates (own_steps task) ≡ map operate task.operations
  unfolding own_steps
  operate_all = simp (passing-append, no_wait, all_operate, no_end, append-nil)

  operate_waits : count operates (take (wait_steps task) (own_steps task)) ≡ 0
  operate_waits = rw (first_waits, no_wait)

  operate_before : count operates (take (ends_from task) (own_steps task)) ≡ count operates (own_steps task)
  operate_before = rw (first_operations, passing-append, no_wait, all_operate, operate_all)

  -- an operation is next nowhere else
  pub operation_place : (k : ℕ) {o : Operation} {later : List Try} → drop k (own_steps task) ≡ operate o ∷ later
      → (wait_steps task ≤ k) × (k < ends_from task) × (o ≡ operation_of task (k - wait_steps task))
  operation_place k {o} next =
      let more = count-passing operates (own_steps task) k next refl in
      let below = count_below operates (own_steps task) k next refl in
      let after : wait_steps task < k + 1 =
      lt_of_not-le (λ l. omega (arith, operate_waits, count_more operates (own_steps task) (k + 1) (wait_steps task) l)) in
      let before : k < ends_from task =
      lt_of_not-le
      (λ l. omega (arith, operate_before, count_more operates (own_steps task) (ends_from task) k l)) in
      let passed : wait_steps task ≤ k = omega arith in
      let here = operation_next k passed before in
      (passed, before, cc)

  pub other_place : (k : ℕ) {try : Try} {later : List Try} → drop k (own_steps task) ≡ try ∷ later → operates try ≡ false
      → (k < wait_steps task) ⊎ (ends_from task ≤ k)
  other_place k {try} next other =
      go (ltb k (wait_steps task)) refl (ltb k (ends_from task)) refl
    where
      go : (waiting : Bool) → ltb k (wait_steps task) ≡ waiting
          → (before : Bool) → ltb k (ends_from task) ≡ before
          → (k < wait_steps task) ⊎ (ends_from task ≤ k)
      go true e before f = inl (ltb-true _ _ e)
      go false e false f = inr (ltb-false _ _ f)
      go false e true f =
          let here = operation_next k (ltb-false _ _ e) (ltb-true _ _ f) in
          let operation : operates try ≡ true = cc in
          absurd (false≢true (sym other ∙ operation))

  -- ---- the steps on a cell, by the place

  module _ (c : ℕ) (once : named_once task.accesses ≡ true) where
    stage_waits : stage task c (wait_steps task) ≡ waited (kind_of task c)
    unfolding stage
    stage_waits = rw (first_waits, waits_on_lem task c once) (waits_width (kind_of task c) c)

    stage_operations : stage task c (ends_from task) ≡ waited (kind_of task c)
    unfolding stage
    stage_operations =
        rw (first_operations, passing-append, operations_off, append-nil, waits_on_lem task c once) (waits_width (kind_of task c) c)

    -- all waits are made
    pub waits_made : (k : ℕ) → wait_steps task ≤ k → waited (kind_of task c) ≤ stage task c k
    waits_made k h = omega (arith, stage_waits, stage_more task c (wait_steps task) k h)

    -- an end is made only after all operations
    pub ends_after : (k : ℕ) → waited (kind_of task c) < stage task c k → ends_from task < k
    ends_after k h =
        lt_of_not-le (λ l. omega (arith, stage_operations, stage_more task c k (ends_from task) l))
