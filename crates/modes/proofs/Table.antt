-- Laws of the table of modes: that the table of a task's accesses has each cell's mode, what it has after one operation more, and
-- that a rule asked of the table is the rule asked of the modes.
use mathlib.Core.Path.{◌≡◌, refl, sym, ap, ◌∙◌}
use mathlib.Core.Bool.{Bool, true, false, not, cond, ◌&&◌, ◌||◌, or-true, or-false}
use mathlib.Core.List.{List, [], ◌∷◌}
use Prim.Native.Nat.{ℕ, ◌*◌, ◌%◌, ◌^◌, ◌≤◌, ◌<◌}
use native.Mathlib.Nat.{mul-pos, zero-div}
use native.Mathlib.Omega.{arith}
use borrow.Author.Tests.{eqb-true, not-true, not-false}
use lib.Bits.{bit_or, or_add_and, and_le_l}
use lib.Pow.{pow_pos}
use lib.Dec.{eqb}
use Rattle.layout.specs.Lists.{all, any}
use Rattle.layout.specs.Flow.{Access, Operation}
use Rattle.layout.specs.Row.{access_in_range, mode_of, names, named_once, written, may_write, may_read, keeps_modes}
use Rattle.layout.proofs.Lists.{and-false, and_left, and_right}
use Rattle.layout.proofs.Modes.{access_mode, names_mode}
use Rattle.modes.specs.Table.{mode_in, with_mode, table_of, readable, keeps_table}
use Rattle.modes.proofs.Digits.{mode_with}

-- a cell's mode after some operations
abbrev pub mode_after : List Access → List Operation → ℕ → ℕ
mode_after accesses earlier cell =
    cond (eqb (mode_of accesses cell) 2 && written earlier cell) 3 (mode_of accesses cell)

-- a table has each cell's mode after some operations
pub record Table (accesses : List Access) (earlier : List Operation) (modes : ℕ) : Type 0 where
  pub holds : (cell : ℕ) → mode_in modes cell ≡ mode_after accesses earlier cell

-- ---- the accesses

-- before any operation a cell has its mode
mode_first : (accesses : List Access) (cell : ℕ) → mode_after accesses [] cell ≡ mode_of accesses cell
unfolding written any
mode_first accesses cell =
    ap (λ (t : Bool). cond t 3 (mode_of accesses cell)) (and-false (eqb (mode_of accesses cell) 2))

-- a cell that isn't named has no mode
pub unnamed : (cells : ℕ) (xs : List Access) (cell : ℕ) → all (access_in_range cells) xs ≡ true → not (names xs cell) ≡ true → mode_of xs cell ≡ 0
unnamed cells xs cell within once =
    eqb-true (mode_of xs cell) 0
    (not-false (eqb (mode_of xs cell) 0) (sym (names_mode cells xs cell within) ∙ not-true (names xs cell) once))

-- where no cell is named twice, the table of the accesses has each cell's mode
pub table_mode : (cells : ℕ) (xs : List Access) → all (access_in_range cells) xs ≡ true → named_once xs ≡ true
    → (cell : ℕ) → mode_in (table_of xs) cell ≡ mode_of xs cell
unfolding table_of mode_of named_once all
table_mode cells [] within once cell = ap (λ (n : ℕ). n % 4) (zero-div (2 ^ (2 * cell)))
table_mode cells (x ∷ xs) within once cell =
    let here = and_left (access_in_range cells x) (all (access_in_range cells) xs) within in
    let later = and_right (access_in_range cells x) (all (access_in_range cells) xs) within in
    let first = and_left (not (names xs x.cell)) (named_once xs) once in
    let known = table_mode cells xs later (and_right (not (names xs x.cell)) (named_once xs) once) in
    let none = known x.cell ∙ unnamed cells xs x.cell later first in
    let small : x.mode < 4 = omega (arith, access_mode cells x here) in
    mode_with (table_of xs) x.cell x.mode cell small
    ∙ ap (λ (n : ℕ). cond (eqb x.cell cell) (bit_or n x.mode) (mode_in (table_of xs) cell)) none
    ∙ ap (cond (eqb x.cell cell) x.mode) (known cell)

pub table_first : (cells : ℕ) (xs : List Access) → all (access_in_range cells) xs ≡ true → named_once xs ≡ true → Table xs [] (table_of xs)
table_first cells xs within once =
    record { holds = λ cell. table_mode cells xs within once cell ∙ sym (mode_first xs cell) }

-- a table with a mode in it isn't 0
pub table_some : (modes cell mode : ℕ) → 1 ≤ mode → with_mode modes cell mode ≡ 0 → ⊥
table_some modes cell mode some none =
    let digits : 1 ≤ mode * 2 ^ (2 * cell) = mul-pos some (pow_pos (2 * cell)) in
    let sum = or_add_and modes (mode * 2 ^ (2 * cell)) in
    omega (arith, digits, none, sum, and_le_l modes (mode * 2 ^ (2 * cell)))

-- ---- the operations

-- a cell that may be written, once it is
mode_written : (mode : ℕ) → may_write mode ≡ true → 3 ≡ cond (eqb mode 2 && true) 3 mode
mode_written mode h = go (eqb mode 2) h
  where
    go : (two : Bool) → (two || eqb mode 3) ≡ true → 3 ≡ cond (two && true) 3 mode
    go true e = refl
    go false e = sym (eqb-true mode 3 e)

-- a cell's mode after some operations may be written where its mode may, and read where the rule says so
write_after : (mode : ℕ) (before : Bool) → may_write (cond (eqb mode 2 && before) 3 mode) ≡ may_write mode
write_after mode before = go (eqb mode 2) before refl
  where
    go : (two before : Bool) → eqb mode 2 ≡ two → may_write (cond (two && before) 3 mode) ≡ (two || eqb mode 3)
    go true true e = refl
    go true false e = ap (λ (t : Bool). t || eqb mode 3) e
    go false before e = ap (λ (t : Bool). t || eqb mode 3) e

read_after : (mode : ℕ) (before : Bool) → readable (cond (eqb mode 2 && before) 3 mode) ≡ may_read mode before
read_after mode before = go (eqb mode 2 && before)
  where
    go : (turned : Bool) → readable (cond turned 3 mode) ≡ (readable mode || turned)
    go true = sym (or-true (readable mode))
    go false = sym (or-false (readable mode))

-- the digit of mode 1, set for a cell that may be written
mode_set : (mode : ℕ) → may_write mode ≡ true → bit_or mode 1 ≡ 3
mode_set mode h = go (eqb mode 2) refl h
  where
    go : (two : Bool) → eqb mode 2 ≡ two → (two || eqb mode 3) ≡ true → bit_or mode 1 ≡ 3
    go true is e = ap (λ (n : ℕ). bit_or n 1) (eqb-true mode 2 is)
    go false is e = ap (λ (n : ℕ). bit_or n 1) (eqb-true mode 3 e)

-- one operation more
pub table_operation : (xs : List Access) (earlier : List Operation) (o : Operation) (modes : ℕ)
    → keeps_modes xs earlier o ≡ true
    → Table xs earlier modes
    → Table xs (o ∷ earlier) (with_mode modes o.a 1)
unfolding keeps_modes written any
table_operation xs earlier o modes kept table =
    record {
      holds =
          λ cell.
          mode_with modes o.a 1 cell (omega arith)
          ∙ ap (λ (n : ℕ). cond (eqb o.a cell) n (mode_in modes cell)) turned
          ∙ ap (cond (eqb o.a cell) 3) (table.holds cell)
          ∙ go cell (eqb o.a cell) refl;
    }
  where
    writes : may_write (mode_of xs o.a) ≡ true
    writes = and_left _ _ (and_left _ _ kept)

    turned : bit_or (mode_in modes o.a) 1 ≡ 3
    turned =
        mode_set (mode_in modes o.a)
        (ap may_write (table.holds o.a) ∙ write_after (mode_of xs o.a) (written earlier o.a) ∙ writes)

    go : (cell : ℕ) (same : Bool) → eqb o.a cell ≡ same
        → cond same 3 (mode_after xs earlier cell)
        ≡ cond (eqb (mode_of xs cell) 2 && (same || written earlier cell)) 3 (mode_of xs cell)
    go cell true e = mode_written (mode_of xs cell) (ap (λ (k : ℕ). may_write (mode_of xs k)) (sym (eqb-true o.a cell e)) ∙ writes)
    go cell false e = refl

-- an operation asks the same of the table as of the modes
pub keeps_same : (xs : List Access) (earlier : List Operation) (o : Operation)
    → keeps_table o.code (mode_after xs earlier o.a) (mode_after xs earlier o.b) ≡ keeps_modes xs earlier o
unfolding keeps_modes
keeps_same xs earlier o =
    cc (
      write_after (mode_of xs o.a) (written earlier o.a),
      read_after (mode_of xs o.a) (written earlier o.a),
      read_after (mode_of xs o.b) (written earlier o.b),
    )
