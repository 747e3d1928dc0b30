-- How code that tests one rule after another meets the definition: a rule that isn't kept gives its number, one that is kept leaves the rest to
-- those after it; and the first refusal among places is that of the first place which has one.
use mathlib.Core.Path.{◌≡◌, refl, sym, ap, ◌∙◌}
use mathlib.Core.Bool.{Bool, true, false, not, cond}
use mathlib.Core.List.{List, [], ◌∷◌}
use Prim.Native.Nat.{ℕ, zero, suc, ◌+◌, ◌-◌, ◌<◌}
use native.Mathlib.Omega.{arith}
use borrow.Author.Tests.{eq-eqb, ne_eqb, not-true, not-false}
use Rattle.layout.specs.Refusal.{success, refusal, first_broken, first_at}

-- ---- rules one after another

-- the test of a rule failed
pub broken : (n : ℕ) (test result : Bool) (rest : List (ℕ × Bool)) → result ≡ test → not result ≡ true → n ≡ first_broken ((n, test) ∷ rest)
unfolding first_broken
broken n test result rest e t = ap (λ (b : Bool). cond b (first_broken rest) n) (sym (not-true result t) ∙ e)

-- the test of a rule held
pub kept : {answer : ℕ} (n : ℕ) (test result : Bool) (rest : List (ℕ × Bool)) → result ≡ test → not result ≡ false
    → answer ≡ first_broken rest
    → answer ≡ first_broken ((n, test) ∷ rest)
unfolding first_broken
kept n test result rest e t r = r ∙ ap (λ (b : Bool). cond b (first_broken rest) n) (sym (not-false result t) ∙ e)

-- no rule is left
pub none_left : 0 ≡ first_broken []
unfolding first_broken
none_left = refl

-- ---- places one after another

-- a place without refusal leaves the answer to the places after it
pub place_passed : (number : ℕ → ℕ) (from count : ℕ) → 0 < count → number from ≡ 0 → first_at number from count ≡ first_at number (from + 1) (count - 1)
unfolding first_at
place_passed number from zero h e = absurd (native.Mathlib.Nat.not-suc-le-zero h)
place_passed number from (suc count) h e =
    let less : count ≡ suc count - 1 = omega arith in
    ap (λ (b : Bool). cond b (first_at number (from + 1) count) (refusal (number from) from)) (eq-eqb (number from) 0 e)
    ∙ ap (first_at number (from + 1)) less

-- a place with a refusal gives it
pub place_refused : (number : ℕ → ℕ) (from count : ℕ) → 0 < count → (number from ≡ 0 → ⊥) → first_at number from count ≡ refusal (number from) from
unfolding first_at
place_refused number from zero h e = absurd (native.Mathlib.Nat.not-suc-le-zero h)
place_refused number from (suc count) h e =
    ap (λ (b : Bool). cond b (first_at number (from + 1) count) (refusal (number from) from)) (ne_eqb (number from) 0 e)

pub places_done : (number : ℕ → ℕ) (from count : ℕ) → count ≡ 0 → first_at number from count ≡ success
unfolding first_at
places_done number from count e = ap (first_at number from) e
