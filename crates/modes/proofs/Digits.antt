-- The digits of the table of modes: each cell has its own two, so setting some for one cell leaves every other cell's.
use mathlib.Core.Path.{◌≡◌, refl, sym, ap, ap₂, ◌∙◌}
use mathlib.Core.Bool.{Bool, true, false, cond}
use Prim.Native.Nat.{ℕ, ◌+◌, ◌-◌, ◌*◌, ◌/◌, ◌%◌, ◌^◌, ◌<◌, ◌≤◌}
use native.Mathlib.Nat.{mul_assoc, mod-eq_of_lt, div-eq_of_lt, zero-div, mul-mod_left}
use native.Mathlib.Omega.{arith}
use borrow.Author.Tests.{ltb-true, ltb-false, eqb-true, eqb-false}
use lib.Bits.{bit_or, or_shr, or_mod, or_zero_r}
use lib.Pow.{pow-add, shl-shr, shr-shr, shl_exact}
use lib.Dec.{eqb, ltb}
use Rattle.layout.specs.Flow.{most_cells}
use Rattle.modes.specs.Table.{mode_in, with_mode}

-- a mode that is shifted to the place of a cell that a flow can have loses no digit
pub placed : (digits cell mode low place : ℕ) → cell < most_cells → mode ≤ 3 → low ≡ mode → place ≡ cell
    → bit_or digits (low * 2 ^ (2 * place) % 18446744073709551616) ≡ with_mode digits cell mode
placed digits cell mode low place can small same there =
    let little : low < 4 = omega arith in
    ap (bit_or digits) (shl_exact 2 (2 * place) 64 little (omega arith) ∙ ap₂ (λ (m n : ℕ). m * 2 ^ (2 * n)) same there)

-- the digits of two numbers together
mode_or : (l r cell : ℕ) → mode_in (bit_or l r) cell ≡ bit_or (mode_in l cell) (mode_in r cell)
mode_or l r cell = ap (λ (n : ℕ). n % 4) (or_shr l r (2 * cell)) ∙ or_mod (l / 2 ^ (2 * cell)) (r / 2 ^ (2 * cell)) 2

-- a mode in the place of one cell, seen from a later cell's place
mode_later : (mode cell more : ℕ) → mode < 4 → mode_in (mode * 2 ^ (2 * cell)) (cell + 1 + more) ≡ 0
mode_later mode cell more small =
    let far : 2 * (cell + 1 + more) ≡ 2 * cell + (2 + 2 * more) = omega arith in
    ap (λ (n : ℕ). mode * 2 ^ (2 * cell) / 2 ^ n % 4) far
    ∙ ap (λ (n : ℕ). n % 4)
    (sym (shr-shr (mode * 2 ^ (2 * cell)) (2 * cell) (2 + 2 * more))
    ∙ ap (λ (n : ℕ). n / 2 ^ (2 + 2 * more)) (shl-shr mode (2 * cell))
    ∙ sym (shr-shr mode 2 (2 * more))
    ∙ ap (λ (n : ℕ). n / 2 ^ (2 * more)) (div-eq_of_lt small)
    ∙ zero-div (2 ^ (2 * more)))

-- and from an earlier one's
mode_earlier : (mode cell more : ℕ) → mode_in (mode * 2 ^ (2 * (cell + 1 + more))) cell ≡ 0
mode_earlier mode cell more =
    let far : 2 * (cell + 1 + more) ≡ 2 * more + 2 + 2 * cell = omega arith in
    ap (λ (n : ℕ). mode * 2 ^ n / 2 ^ (2 * cell) % 4) far
    ∙ ap (λ (n : ℕ). mode * n / 2 ^ (2 * cell) % 4) (pow-add 2 (2 * more + 2) (2 * cell))
    ∙ ap (λ (n : ℕ). n / 2 ^ (2 * cell) % 4) (sym (mul_assoc mode (2 ^ (2 * more + 2)) (2 ^ (2 * cell))))
    ∙ ap (λ (n : ℕ). n % 4)
    (shl-shr (mode * 2 ^ (2 * more + 2)) (2 * cell) ∙ ap (λ (n : ℕ). mode * n) (pow-add 2 (2 * more) 2)
    ∙ sym (mul_assoc mode (2 ^ (2 * more)) 4))
    ∙ mul-mod_left (mode * 2 ^ (2 * more)) 4

-- a mode in the place of one cell has digits at no other
mode_alone : (mode cell other : ℕ) → mode < 4 → mode_in (mode * 2 ^ (2 * cell)) other ≡ cond (eqb cell other) mode 0
mode_alone mode cell other small = go (eqb cell other) (ltb cell other) refl refl
  where
    go : (same less : Bool) → eqb cell other ≡ same → ltb cell other ≡ less → mode_in (mode * 2 ^ (2 * cell)) other ≡ cond same mode 0
    go true less e l =
        ap (λ (n : ℕ). mode_in (mode * 2 ^ (2 * cell)) n) (sym (eqb-true cell other e))
        ∙ ap (λ (n : ℕ). n % 4) (shl-shr mode (2 * cell)) ∙ mod-eq_of_lt small
    go false true e l =
        let apart : other ≡ cell + 1 + (other - (cell + 1)) = omega (arith, ltb-true cell other l) in
        ap (mode_in (mode * 2 ^ (2 * cell))) apart ∙ mode_later mode cell (other - (cell + 1)) small
    go false false e l =
        let unequal = eqb-false cell other e in
        let apart : cell ≡ other + 1 + (cell - (other + 1)) = omega (arith, ltb-false cell other l, unequal) in
        ap (λ (n : ℕ). mode_in (mode * 2 ^ (2 * n)) other) apart ∙ mode_earlier mode other (cell - (other + 1))

-- what the table has for a cell once the digits of a mode are set
pub mode_with : (modes cell mode other : ℕ) → mode < 4
    → mode_in (with_mode modes cell mode) other ≡ cond (eqb cell other) (bit_or (mode_in modes cell) mode) (mode_in modes other)
mode_with modes cell mode other small =
    mode_or modes (mode * 2 ^ (2 * cell)) other ∙ ap (bit_or (mode_in modes other)) (mode_alone mode cell other small)
    ∙ go (eqb cell other) refl
  where
    go : (same : Bool) → eqb cell other ≡ same
        → bit_or (mode_in modes other) (cond same mode 0) ≡ cond same (bit_or (mode_in modes cell) mode) (mode_in modes other)
    go true e = ap (λ (n : ℕ). bit_or (mode_in modes n) mode) (sym (eqb-true cell other e))
    go false e = or_zero_r (mode_in modes other)
