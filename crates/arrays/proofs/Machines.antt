-- A store into the arrays is a replacement in the machine that they stand for: what is stored at an index is found there, and
-- elsewhere what was there before.
use mathlib.Core.Path.{◌≡◌, refl, ap, fun_ext, ◌∙◌}
use mathlib.Core.Bool.{Bool, true, false, cond}
use mathlib.Core.Logic.{◌≢◌}
use mathlib.Core.List.{List, [], ◌∷◌}
use Prim.Native.Nat.{ℕ, suc, ◌+◌, ◌<◌, suc-le-suc}
use native.Mathlib.Omega.{arith}
use Rattle.std.proofs.lemmas.Grind.{common_steps}
use Rattle.std.proofs.lemmas.Bool.Decides.{nat_tests}
use lib.ListN.{length, get_or, set, length-set}
use lib.Seq.{get_or-set_same, get_or-set_other}
use lib.Dec.{eqb}
use Rattle.layout.specs.Flow.{Access, Task, most_workers, most_cells}
use Rattle.steps.specs.Operations.{Effect}
use Rattle.steps.specs.Machine as Rules
use Rattle.steps.specs.Machine.{Machine, put, counter, with_shared, with_row, with_place}
use Rattle.steps.specs.Step.{Try, wait_write, wait_reads, operate, end_read, zero_reads, post_write, writes, outcome, after_read, register_all, change}
use Rattle.arrays.specs.declared.Counter.{Counter}
use Rattle.arrays.specs.declared.Place.{Place}
use Rattle.arrays.specs.Arrays.{counted, nothing, no_place, counter_of, counter_at, place_of, Arrays, arrays, machine_of, noted, noted_all, Shape}

-- ---- a store

-- what is stored at an index is found there, and elsewhere what was there
pub stored_at : {A : Type 0} (l : List A) (i : ℕ) (v d : A) (j : ℕ) → i < length l → get_or (set l i v) j d ≡ cond (eqb j i) v (get_or l j d)
stored_at l i v d j h = grind (arith, common_steps, nat_tests)

-- and so it is of what each element stands for
stored : {A B : Type 0} (f : A → B) (l : List A) (i : ℕ) (v d : A) → i < length l
    → (λ (j : ℕ). f (get_or (set l i v) j d)) ≡ put (λ (j : ℕ). f (get_or l j d)) i (f v)
stored f l i v d h =
    fun_ext
    (λ j.
    ap f (stored_at l i v d j h)
    ∙ elim (eqb j i) as (λ same. f (cond same v (get_or l j d)) ≡ cond same (f v) (f (get_or l j d))) [ true ↦ refl | false ↦ refl ])

-- ---- the machine after a store

module _ (tasks : List Task) (kept : Arrays) where
  abbrev m : Machine
  m = machine_of tasks kept

  pub shared_stored : (cell : ℕ) (now : Counter) → cell < length kept.shared
      → machine_of tasks (arrays kept.cells (set kept.shared cell now) kept.private kept.places)
      ≡ with_shared m cell (counter_of now)
  shared_stored cell now h =
      λ i. record { cells = m.cells; shared = stored counter_of kept.shared cell now nothing h i; private = m.private; places = m.places }

  pub place_stored : (w : ℕ) (now : Place) → w < length kept.places
      → machine_of tasks (arrays kept.cells kept.shared kept.private (set kept.places w now))
      ≡ with_place m w (place_of tasks now)
  place_stored w now h =
      λ i. record { cells = m.cells; shared = m.shared; private = m.private; places = stored (place_of tasks) kept.places w now no_place h i }

-- ---- the counters keep their sizes

pub shared_shape : (shared : List Counter) (private : List (List Counter)) (cell : ℕ) (now : Counter) → Shape shared private
    → Shape (set shared cell now) private
shared_shape shared private cell now shape =
    record { shared_size = length-set shared cell now ∙ shape.shared_size; private_size = shape.private_size; row_size = shape.row_size }

row_shape : (shared : List Counter) (private : List (List Counter)) (w : ℕ) (row : List Counter) → w < most_workers → length row ≡ most_cells
    → Shape shared private
    → Shape shared (set private w row)
row_shape shared private w row h size shape =
    record {
      shared_size = shape.shared_size;
      private_size = length-set private w row ∙ shape.private_size;
      row_size = λ v l. let here = stored_at private w row [] v (omega (arith, shape.private_size)) in grind (arith, nat_tests, shape.row_size v l);
    }

-- ---- accesses noted in a worker's row

-- one worker's row becomes another, and the other rows stay
pub record RowOnly (shared : List Counter) (before after : List (List Counter)) (w : ℕ) (row : ℕ → Rules.Counter) : Type 0 where
  pub shape : Shape shared after
  pub here : counter_at (get_or after w []) ≡ row
  pub elsewhere : (v : ℕ) → v ≢ w → get_or after v [] ≡ get_or before v []

pub row_replaced : (tasks : List Task) (kept : Arrays) (private' : List (List Counter)) (w : ℕ) (row : ℕ → Rules.Counter)
    → RowOnly kept.shared kept.private private' w row
    → machine_of tasks (arrays kept.cells kept.shared private' kept.places) ≡ with_row (machine_of tasks kept) w row
row_replaced tasks kept private' w row only =
    let m = machine_of tasks kept in
    λ i. record { cells = m.cells; shared = m.shared; private = fun_ext (λ v. row_at_lem v) i; places = m.places }
  where
    row_at_lem : (v : ℕ) → counter_at (get_or private' v []) ≡ cond (eqb v w) row (counter_at (get_or kept.private v []))
    row_at_lem v = let here = only.here in let other = only.elsewhere v in grind (arith, nat_tests)

module _ (shared : List Counter) (w number : ℕ) (h : w < most_workers) where
  pub noted_only : (private : List (List Counter)) (cell : ℕ) (is_write : Bool) → cell < most_cells → Shape shared private
      → RowOnly shared private (noted private w cell is_write number) w
      (put (counter_at (get_or private w [])) cell (cond is_write (counter number 0) (after_read (counter_at (get_or private w []) cell))))
  noted_only private cell is_write l shape =
      record {
        shape = row_shape shared private w row' h (length-set row cell (to is_write) ∙ shape.row_size w h) shape;
        here =
            ap counter_at (get_or-set_same private w row' [] (omega (arith, shape.private_size)))
            ∙ stored counter_of row cell (to is_write) nothing (omega (arith, shape.row_size w h))
            ∙ ap (put (counter_at row) cell) (go is_write);
        elsewhere = λ v e. get_or-set_other private w v row' [] e;
      }
    where
      row : List Counter
      row = get_or private w []

      to : Bool → Counter
      to is = cond is (counted number 0) (counted (get_or row cell nothing).last_write ((get_or row cell nothing).reads + 1))

      row' : List Counter
      row' = set row cell (to is_write)

      go : (is : Bool) → counter_of (to is) ≡ cond is (counter number 0) (after_read (counter_at row cell))
      go true = refl
      go false = refl

  pub all_noted_only : (private : List (List Counter)) (accesses : List Access)
      → ((j : ℕ) (none : Access) → j < length accesses → (get_or accesses j none).cell < most_cells)
      → Shape shared private
      → RowOnly shared private (noted_all private w number accesses) w (register_all number accesses (counter_at (get_or private w [])))
  unfolding noted_all register_all
  all_noted_only private [] counted shape = record { shape = shape; here = refl; elsewhere = λ v e. refl }
  all_noted_only private (access ∷ accesses) counted shape =
      let first = noted_only private access.cell (writes access) (counted 0 access (omega arith)) shape in
      let rest =
      all_noted_only (noted private w access.cell (writes access) number) accesses
      (λ j none l. counted (suc j) none (suc-le-suc l))
      first.shape
      in
      record {
        shape = rest.shape;
        here = rest.here ∙ ap (register_all number accesses) first.here;
        elsewhere = λ v e. rest.elsewhere v e ∙ first.elsewhere v e;
      }

-- ---- what does not look at the tasks and the places

-- whether a step is held is told by the counters alone
pub outcome_of_lem : (tasks : List Task) (kept : Arrays) (w : ℕ) (try : Try)
    → outcome (machine_of [] (arrays [] kept.shared kept.private kept.places)) w try ≡ outcome (machine_of tasks kept) w try
unfolding outcome
outcome_of_lem tasks kept w (wait_write c) = refl
outcome_of_lem tasks kept w (wait_reads c) = refl
outcome_of_lem tasks kept w (operate o) = refl
outcome_of_lem tasks kept w (end_read c) = refl
outcome_of_lem tasks kept w (zero_reads c) = refl
outcome_of_lem tasks kept w (post_write c) = refl

abbrev with_places : (ℕ → Rules.Place) → Machine → Machine
with_places places m = record { cells = m.cells; shared = m.shared; private = m.private; places = places }

change_places : (does : Effect) (number : ℕ) (m : Machine) (places : ℕ → Rules.Place) (w : ℕ) (try : Try)
    → with_places places (change does number m w try) ≡ change does number (with_places places m) w try
unfolding change
change_places does number m places w (wait_write c) = refl
change_places does number m places w (wait_reads c) = refl
change_places does number m places w (operate o) = refl
change_places does number m places w (end_read c) = refl
change_places does number m places w (zero_reads c) = refl
change_places does number m places w (post_write c) = refl

-- what is changed is the same under any tasks and places
pub change_of : (tasks : List Task) (kept to : Arrays) → to.places ≡ kept.places → (does : Effect) (number w : ℕ) (try : Try)
    → machine_of [] to ≡ change does number (machine_of [] kept) w try
    → machine_of tasks to ≡ change does number (machine_of tasks kept) w try
change_of tasks kept to same does number w try e =
    let m = machine_of tasks kept in
    ap (λ (places : List Place). machine_of tasks (arrays to.cells to.shared to.private places)) same
    ∙ ap (with_places m.places) e
    ∙ change_places does number (machine_of [] kept) m.places w try
