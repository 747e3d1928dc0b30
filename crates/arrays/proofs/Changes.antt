-- What the code stores at a stage and an index is what the rules change at the own step tried there: a counter stored in the shared
-- row, one noted in the worker's row, or the cells after an operation.
use mathlib.Core.Path.{◌≡◌, refl, sym, ap, ◌∙◌}
use mathlib.Core.Bool.{Bool, true, false, cond}
use mathlib.Core.List.{List, []}
use mathlib.Core.Logic.{◌⊎◌, inl, inr}
use Prim.Native.Nat.{ℕ, ◌+◌, ◌<◌}
use native.Mathlib.Omega.{arith}
use lib.ListN.{get_or, set}
use Rattle.layout.specs.Flow.{most_workers, most_cells, most_accesses, most_operations}
use Rattle.layout.specs.Row.{access_at, operation_at}
use Rattle.steps.specs.Operations.{effect, operated}
use Rattle.steps.specs.Machine as Rules
use Rattle.steps.specs.Machine.{Machine, put, counter, with_shared, with_row}
use Rattle.steps.specs.Step.{end_read, zero_reads, writes, after_read, change}
use Rattle.arrays.specs.declared.Counter.{Counter}
use Rattle.arrays.specs.declared.Stage.{Stage}
use Rattle.arrays.specs.declared.Stage.TheVariants.{WaitWrite, WaitReads, Operate, End, Post}
use Rattle.arrays.specs.Ready.{RowFits}
use Rattle.arrays.specs.Arrays.{counted, nothing, counter_of, Arrays, arrays, machine_of, try_at, Stands, noted, Shape, Changed}
use Rattle.arrays.proofs.Machines.{shared_stored, shared_shape, row_replaced, noted_only}

-- ---- where a worker can stand

-- at an operation the index is an operation's, elsewhere an access's
pub at_operation : (row : List ℕ) (index : ℕ) → Stands row Operate index → index < get_or row 2 0
unfolding Stands
at_operation row index h = h

pub at_access : (row : List ℕ) (stage : Stage) (index : ℕ) → (stage ≡ Operate → ⊥) → Stands row stage index → index < get_or row 1 0
unfolding Stands
at_access row WaitWrite index other h = h
at_access row WaitReads index other h = h.0
at_access row Operate index other h = absurd (other refl)
at_access row End index other h = h
at_access row Post index other h = h.0

-- the numbers of a row that fits are small
pub small_access : (row : List ℕ) (cells : ℕ) (stage : Stage) (index : ℕ) → RowFits row cells → Stands row stage index → (stage ≡ Operate → ⊥)
    → (index < most_accesses) × ((access_at row index).cell < most_cells)
small_access row cells stage index fits stands other =
    let at : index < get_or row 1 0 = at_access row stage index other stands in
    (omega (arith, fits.few_accesses), fits.access_cells index at)

pub small_index : (row : List ℕ) (cells : ℕ) (stage : Stage) (index : ℕ) → RowFits row cells → Stands row stage index → index < most_operations
unfolding Stands
small_index row cells WaitWrite index fits stands = omega (arith, fits.few_accesses)
small_index row cells WaitReads index fits stands = omega (arith, fits.few_accesses)
small_index row cells Operate index fits stands = omega (arith, fits.few_operations)
small_index row cells End index fits stands = omega (arith, fits.few_accesses)
small_index row cells Post index fits stands = omega (arith, fits.few_accesses)

-- ---- what is stored there

module _ (version : ℕ) (row : List ℕ) (w number index : ℕ) (kept : Arrays) (shape : Shape kept.shared kept.private) where
  pub waited : (stage : Stage) → (stage ≡ WaitWrite) ⊎ (stage ≡ WaitReads) → Changed version row w number stage index kept kept
  unfolding try_at change
  waited stage (inl is) = rw is (shape, refl)
  waited stage (inr is) = rw is (shape, refl)

  pub made : Changed version row w number Operate index kept
      (arrays (operated (effect version) (operation_at row index) kept.cells) kept.shared kept.private kept.places)
  unfolding try_at change
  made = (shape, refl)

-- a worker at an access whose cell has a counter
pub record AtAccess (row : List ℕ) (w index : ℕ) (kept : Arrays) : Type 0 where
  pub shape : Shape kept.shared kept.private
  pub worker : w < most_workers
  pub within : (access_at row index).cell < most_cells

module _ {row : List ℕ} {w index : ℕ} {kept : Arrays} (version number : ℕ) (at : AtAccess row w index kept) where
  abbrev m : Machine
  m = machine_of [] kept

  abbrev cell : ℕ
  cell = (access_at row index).cell

  -- the counter there, shared and in the worker's row
  abbrev ours : Counter
  ours = get_or kept.shared cell nothing

  abbrev mine : Rules.Counter
  mine = m.private w cell

  -- a shared counter stored and an access noted
  stored_noted : (now : Counter) (is_write : Bool)
      → Shape (set kept.shared cell now) (noted kept.private w cell is_write number)
      × (machine_of [] (arrays kept.cells (set kept.shared cell now) (noted kept.private w cell is_write number) kept.places)
      ≡ with_row (with_shared m cell (counter_of now)) w (put (m.private w) cell (cond is_write (counter number 0) (after_read mine))))
  stored_noted now is_write =
      let stored = arrays kept.cells (set kept.shared cell now) kept.private kept.places in
      let row' = put (m.private w) cell (cond is_write (counter number 0) (after_read mine)) in
      let only =
      noted_only stored.shared w number at.worker kept.private cell is_write at.within
      (shared_shape kept.shared kept.private cell now at.shape)
      in (
        only.shape,
        row_replaced [] stored (noted kept.private w cell is_write number) w row' only
            ∙ ap (λ (to : Machine). with_row to w row') (shared_stored [] kept cell now (omega (arith, at.shape.shared_size))),
      )

  -- the try of an access's first end
  first_end : (is_write : Bool) → writes (access_at row index) ≡ is_write → cond is_write (zero_reads cell) (end_read cell) ≡ try_at row End index
  unfolding try_at
  first_end is_write t = ap (λ (b : Bool). cond b (zero_reads cell) (end_read cell)) (sym t)

  pub zeroed : writes (access_at row index) ≡ true
      → Changed version row w number End index kept
      (arrays kept.cells (set kept.shared cell (counted ours.last_write 0)) kept.private kept.places)
  unfolding change
  zeroed t = (
    shared_shape kept.shared kept.private cell (counted ours.last_write 0) at.shape,
    shared_stored [] kept cell (counted ours.last_write 0) (omega (arith, at.shape.shared_size))
        ∙ ap (change (effect version) number m w) (first_end true t),
  )

  pub ended : writes (access_at row index) ≡ false
      → Changed version row w number End index kept
      (arrays kept.cells (set kept.shared cell (counted ours.last_write (ours.reads + 1))) (noted kept.private w cell false number) kept.places)
  unfolding change
  ended t =
      let both = stored_noted (counted ours.last_write (ours.reads + 1)) false in
      (both.0, both.1 ∙ ap (change (effect version) number m w) (first_end false t))

  pub posted : Changed version row w number Post index kept
      (arrays kept.cells (set kept.shared cell (counted number ours.reads)) (noted kept.private w cell true number) kept.places)
  unfolding try_at change
  posted = stored_noted (counted number ours.reads) true
