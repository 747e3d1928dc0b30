-- Rule 18 by all six codes of a row: an unused operation is zero, so it isn't of code 6, and to ask the six is to ask those that are used.
use Rattle.std.proofs.Common.{◌≡◌, ℕ, zero, suc, ◌+◌, ◌-◌, ◌*◌, ◌≤◌, ◌<◌, Bool, true, false, ◌||◌, List, drop, refl, sym, ap, ap₂, ◌∙◌, arith}
use Rattle.std.proofs.Math.Bool.{or_assoc, or-false}
use lib.Seq.{get_or-take, get_or-drop}
use lib.Dec.{eqb}
use Rattle.layout.specs.Lists.{each, all, any}
use Rattle.layout.specs.Bytes.{at, part, all_zero}
use Rattle.layout.specs.Flow.{Operation, most_operations}
use Rattle.layout.specs.Row.{operation_at, task_of, counts_sound, operation_sound, operations_sound, uses_larger}
use Rattle.layout.proofs.Lists.{and_right}
use Rattle.layout.proofs.Zeros.{zero_at}
use Rattle.layout.proofs.Modes.{counts_kept}

-- members past a count that don't pass a test can be left out
any_fewer : {A : Type 0} (test : A → Bool) (n more : ℕ) (f : ℕ → A) → n ≤ more → ((i : ℕ) → n ≤ i → i < more → test (f i) ≡ false)
    → any test (each more f) ≡ any test (each n f)
unfolding each any
any_fewer test zero zero f h none = refl
any_fewer test zero (suc more) f h none =
    ap₂ ◌||◌ (none 0 (omega arith) (omega arith)) (any_fewer test zero more (λ i. f (suc i)) (omega arith) (λ i l m. none (suc i) (omega arith) (omega arith)))
any_fewer test (suc n) zero f h none = absurd (omega arith)
any_fewer test (suc n) (suc more) f h none =
    ap (λ (b : Bool). test (f 0) || b)
    (any_fewer test n more (λ i. f (suc i)) (omega arith) (λ i l m. none (suc i) (omega arith) (omega arith)))

-- the code of an unused operation
unused_code : (cells : ℕ) (row : List ℕ) → operations_sound cells row ≡ true → (i : ℕ) → at row 2 ≤ i → i < most_operations
    → at row (12 + 6 * i) ≡ 0
unfolding operations_sound
unused_code cells row sound i low high =
    let from = 12 + 6 * at row 2 in
    let zeros = and_right (all (operation_sound cells row) (each (at row 2) (λ j. j))) (all_zero (part from 48 row)) sound in
    let place = 6 * (i - at row 2) in
    let there : from + place ≡ 12 + 6 * i = omega arith in
    ap (at row) (sym there) ∙ sym (get_or-drop from row place 0) ∙ sym (get_or-take (48 - from) (drop from row) place 0 (omega arith))
    ∙ zero_at (part from 48 row) place zeros

-- any of six, asked three and three
three_and_three : (a b c d e f : Bool) → (a || b || c || (d || e || f)) ≡ (a || (b || (c || (d || (e || (f || false))))))
three_and_three a b c d e f = simp (or_assoc, or-false)

-- the code of the operation at an index is 6
abbrev six : List ℕ → ℕ → Bool
six row i = eqb (at row (12 + 6 * i)) 6

-- what the six codes tell
pub six_codes : (cells : ℕ) (row : List ℕ) → counts_sound row ≡ true → operations_sound cells row ≡ true
    → (six row 0 || six row 1 || six row 2 || (six row 3 || six row 4 || six row 5)) ≡ uses_larger (task_of row)
unfolding task_of each any
six_codes cells row counts sound =
    three_and_three (six row 0) (six row 1) (six row 2) (six row 3) (six row 4) (six row 5)
    ∙ any_fewer (λ (o : Operation). eqb o.code 6) (at row 2) most_operations (operation_at row) (counts_kept row counts).1
    (λ i low high. ap (λ (code : ℕ). eqb code 6) (unused_code cells row sound i low high))
