-- All cells of a table asked at once whether one is left under mode 2. Each cell's upper digit is set down to the place of its lower
-- one; that adds nothing to the table exactly where no cell has the upper digit alone.
use mathlib.Core.Path.{◌≡◌, refl, sym, ap, ap₂, ◌∙◌}
use mathlib.Core.Bool.{Bool, true, false, not, ◌&&◌}
use Prim.Native.Nat.{ℕ, zero, suc, ◌+◌, ◌*◌, ◌/◌, ◌%◌, ◌^◌, ◌<◌}
use native.Mathlib.Omega.{arith}
use borrow.Author.Tests.{eqb-true, eqb-false, eq-eqb, ne_eqb}
use lib.Bits.{bit_and, bit_or, and_zero_r, or_zero_r, and_mask, and_mod, or_mod, and_shr, or_shr}
use lib.Pow.{shr-shr}
use lib.Dec.{eqb}
use Rattle.layout.specs.Lists.{each, all}
use Rattle.layout.specs.Flow.{most_cells}
use Rattle.layout.proofs.Lists.{all_same}
use Rattle.modes.specs.Table.{owed, none_owed}

-- a 1 at the lower digit of each of so many cells
unfoldable pub lowers : ℕ → ℕ
lowers zero = 0
lowers (suc n) = 4 * lowers n + 1

-- ---- a table from its second cell on

owed_next : (modes cell : ℕ) → not (owed modes (suc cell)) ≡ not (owed (modes / 4) cell)
owed_next modes cell =
    let far : 2 * suc cell ≡ 2 + 2 * cell = omega arith in
    ap (λ (n : ℕ). not (eqb (modes / 2 ^ n % 4) 2)) far ∙ ap (λ (n : ℕ). not (eqb (n % 4) 2)) (sym (shr-shr modes 2 (2 * cell)))

-- two numbers are equal where their last two digits are, and the digits before them
equal_parts : (m n : ℕ) → eqb m n ≡ (eqb (m % 4) (n % 4) && eqb (m / 4) (n / 4))
equal_parts m n = go (eqb m n) refl (eqb (m % 4) (n % 4)) refl
  where
    go : (same : Bool) → eqb m n ≡ same → (low : Bool) → eqb (m % 4) (n % 4) ≡ low → same ≡ (low && eqb (m / 4) (n / 4))
    go true e true l = sym (eq-eqb (m / 4) (n / 4) (ap (λ (x : ℕ). x / 4) (eqb-true m n e)))
    go true e false l = absurd (eqb-false (m % 4) (n % 4) l (ap (λ (x : ℕ). x % 4) (eqb-true m n e)))
    go false e true l = sym (ne_eqb (m / 4) (n / 4) (λ h. eqb-false m n e (omega (arith, eqb-true (m % 4) (n % 4) l))))
    go false e false l = refl

-- ---- one cell, and all

one_cell : (digits : ℕ) → digits < 4 → eqb (bit_or digits (digits / 2 % 2)) digits ≡ not (eqb digits 2)
one_cell zero h = refl
one_cell (suc zero) h = refl
one_cell (suc (suc zero)) h = refl
one_cell (suc (suc (suc zero))) h = refl
one_cell (suc (suc (suc (suc digits)))) h = absurd (omega arith)

pub none_of : (n modes : ℕ) → eqb (bit_or modes (bit_and (modes / 2) (lowers n))) modes ≡ all (λ cell. not (owed modes cell)) (each n (λ cell. cell))
unfolding lowers each all
none_of zero modes = eq-eqb _ _ (ap (bit_or modes) (and_zero_r (modes / 2)) ∙ or_zero_r modes)
none_of (suc n) modes =
    equal_parts _ modes
    ∙ ap₂ ◌&&◌
    (ap (λ (x : ℕ). eqb x (modes % 4)) first ∙ one_cell (modes % 4) (omega arith) ∙ ap (λ (x : ℕ). not (eqb (x % 4) 2)) whole)
    (ap (λ (x : ℕ). eqb x (modes / 4)) rest ∙ none_of n (modes / 4)
    ∙ sym (all_same (λ cell. not (owed modes cell)) (λ cell. not (owed (modes / 4) cell)) n suc (λ i. i) (owed_next modes)))
  where
    whole : modes ≡ modes / 1
    whole = omega arith

    last : (4 * lowers n + 1) % 4 ≡ 1
    last = omega arith

    before : (4 * lowers n + 1) / 4 ≡ lowers n
    before = omega arith

    upper : modes / 2 % 4 % 2 ≡ modes % 4 / 2 % 2
    upper = omega arith

    first : bit_or modes (bit_and (modes / 2) (4 * lowers n + 1)) % 4 ≡ bit_or (modes % 4) (modes % 4 / 2 % 2)
    first =
        or_mod modes (bit_and (modes / 2) (4 * lowers n + 1)) 2
        ∙ ap (bit_or (modes % 4))
        (and_mod (modes / 2) (4 * lowers n + 1) 2 ∙ ap (bit_and (modes / 2 % 4)) last ∙ and_mask (modes / 2 % 4) 1 ∙ upper)

    rest : bit_or modes (bit_and (modes / 2) (4 * lowers n + 1)) / 4 ≡ bit_or (modes / 4) (bit_and (modes / 4 / 2) (lowers n))
    rest =
        or_shr modes (bit_and (modes / 2) (4 * lowers n + 1)) 2
        ∙ ap (bit_or (modes / 4))
        (and_shr (modes / 2) (4 * lowers n + 1) 2 ∙ ap₂ bit_and (shr-shr modes 1 2 ∙ sym (shr-shr modes 2 1)) before)

-- 6148914691236517205 has a 1 at the lower digit of each cell that a flow can have
pub none_left : (modes : ℕ) → eqb (bit_or modes (bit_and (modes / 2) 6148914691236517205)) modes ≡ none_owed modes
unfolding none_owed lowers
none_left modes = none_of most_cells modes
