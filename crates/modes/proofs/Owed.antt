-- Rule 17 by the table of modes: what the table has after all operations of a task, and that no cell of it is owed a write exactly
-- where each cell of mode 2 has been written.
use mathlib.Core.Path.{◌≡◌, refl, sym, ap, ◌∙◌}
use mathlib.Core.Bool.{Bool, true, false, not, cond, ◌&&◌, ◌||◌, or-false}
use mathlib.Core.List.{List, [], ◌∷◌}
use Prim.Native.Nat.{ℕ, ◌<◌}
use native.Mathlib.Omega.{arith}
use borrow.Author.Tests.{eqb-true, eq-eqb, ltb-true}
use lib.Dec.{eqb, ltb}
use Rattle.layout.specs.Lists.{all, any}
use Rattle.layout.specs.Flow.{Access, Operation, Task, most_cells}
use Rattle.layout.specs.Row.{access_in_range, mode_of, names, named_once, written, all_keep_modes, keeps_modes, modes_sound, write_made, writes_made}
use Rattle.layout.proofs.Lists.{and_left, and_right, and_both, or_swap, same_test, all_same, all_pass, all_keeps}
use Rattle.layout.proofs.Modes.{named_as, write_of}
use Rattle.modes.specs.Table.{mode_in, with_mode, table_of, table_after, table_left, owed, none_owed}
use Rattle.modes.proofs.Table.{Table, mode_after, unnamed, table_first, table_operation, table_some}

-- ---- the table after all operations

table_later : (xs : List Access) (earlier later : List Operation) (modes : ℕ) → all_keep_modes xs earlier later ≡ true → Table xs earlier modes
    → (cell : ℕ)
    → mode_in (table_after modes later) cell ≡ cond (eqb (mode_of xs cell) 2 && (written later cell || written earlier cell)) 3 (mode_of xs cell)
unfolding all_keep_modes table_after written any
table_later xs earlier [] modes keep table cell = table.holds cell
table_later xs earlier (o ∷ later) modes keep table cell =
    let here = and_left (keeps_modes xs earlier o) (all_keep_modes xs (o ∷ earlier) later) keep in
    let rest = and_right (keeps_modes xs earlier o) (all_keep_modes xs (o ∷ earlier) later) keep in
    table_later xs (o ∷ earlier) later (with_mode modes o.a 1) rest (table_operation xs earlier o modes here table) cell
    ∙ ap (λ (t : Bool). cond (eqb (mode_of xs cell) 2 && t) 3 (mode_of xs cell))
    (or_swap (eqb o.a cell) (written later cell) (written earlier cell))

-- a table that isn't 0 stays so
pub after_some : (modes : ℕ) (operations : List Operation) → (modes ≡ 0 → ⊥) → table_after modes operations ≡ 0 → ⊥
unfolding table_after
after_some modes [] some none = some none
after_some modes (o ∷ later) some none =
    after_some (with_mode modes o.a 1) later (table_some modes o.a 1 (omega arith)) none

-- ---- rule 17, asked of every cell

-- where no cell is named twice, what it asks of every cell that a flow can have, it asks of every access
to_accesses : (cells : ℕ) (xs : List Access) (operations : List Operation) → all (access_in_range cells) xs ≡ true → named_once xs ≡ true
    → ((cell : ℕ) → cell < cells → write_made operations (named_as xs cell) ≡ true)
    → all (write_made operations) xs ≡ true
unfolding mode_of all named_once
to_accesses cells [] operations within once kept = refl
to_accesses cells (x ∷ xs) operations within once kept =
    and_both (write_made operations x) (all (write_made operations) xs)
    (ap (λ (t : Bool). not (eqb (cond t x.mode (mode_of xs x.cell)) 2) || written operations x.cell) (sym (eq-eqb x.cell x.cell refl))
    ∙ kept x.cell fits)
    (to_accesses cells xs operations later (and_right (not (names xs x.cell)) (named_once xs) once) (λ cell l. go cell l (eqb x.cell cell) refl))
  where
    later : all (access_in_range cells) xs ≡ true
    later = and_right (access_in_range cells x) (all (access_in_range cells) xs) within

    fits : x.cell < cells
    fits = ltb-true x.cell cells (and_left (ltb x.cell cells) _ (and_left (access_in_range cells x) (all (access_in_range cells) xs) within))

    go : (cell : ℕ) → cell < cells → (here : Bool) → eqb x.cell cell ≡ here → write_made operations (named_as xs cell) ≡ true
    go cell l true e =
        ap (λ (mode : ℕ). not (eqb mode 2) || written operations cell)
        (ap (mode_of xs) (sym (eqb-true x.cell cell e))
        ∙ unnamed cells xs x.cell later (and_left (not (names xs x.cell)) (named_once xs) once))
    go cell l false e = ap (λ (t : Bool). not (eqb (cond t x.mode (mode_of xs cell)) 2) || written operations cell) (sym e) ∙ kept cell l

-- a cell that may have been written is owed its write where it has mode 2 and hasn't been
not_owed : (mode : ℕ) (done : Bool) → not (eqb (cond (eqb mode 2 && done) 3 mode) 2) ≡ (not (eqb mode 2) || done)
not_owed mode done = go (eqb mode 2) done refl
  where
    go : (two done : Bool) → eqb mode 2 ≡ two → not (eqb (cond (two && done) 3 mode) 2) ≡ (not two || done)
    go true true e = refl
    go true false e = ap not e
    go false done e = ap not e

-- the table answers as the rule does
pub owed_same : (task : Task) → all (access_in_range most_cells) task.accesses ≡ true → named_once task.accesses ≡ true → modes_sound task ≡ true
    → none_owed (table_left task) ≡ writes_made task
unfolding none_owed written any
owed_same task within once keep =
    all_same (λ cell. not (owed (table_left task) cell)) asked most_cells (λ cell. cell) (λ cell. cell)
    (λ cell. ap (λ (mode : ℕ). not (eqb mode 2)) (left cell) ∙ not_owed (mode_of task.accesses cell) (written task.operations cell))
    ∙ same_test _ _
    (λ t. to_accesses most_cells task.accesses task.operations within once (λ cell l. all_keeps asked most_cells (λ c. c) cell l t))
    (λ t. all_pass asked most_cells (λ cell. cell) (λ cell l. write_of task.accesses task.operations cell t))
  where
    asked : ℕ → Bool
    asked cell = write_made task.operations (named_as task.accesses cell)

    left : (cell : ℕ) → mode_in (table_left task) cell ≡ mode_after task.accesses task.operations cell
    left cell =
        table_later task.accesses [] task.operations (table_of task.accesses) keep (table_first most_cells task.accesses within once) cell
        ∙ ap (λ (t : Bool). cond (eqb (mode_of task.accesses cell) 2 && t) 3 (mode_of task.accesses cell)) (or-false (written task.operations cell))
