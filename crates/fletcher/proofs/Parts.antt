-- The sums over bytes that are taken in parts: over one part, and then over what is left.
use Rattle.std.proofs.Common.{◌≡◌, ℕ, List, [], ◌∷◌, ◌++◌, length, refl, sym, ap, ap₂, ◌∙◌}
use Rattle.layout.specs.Fletcher.{Sums, sums, added, after}

after_append : (before : Sums) (part left : List ℕ) → after before (part ++ left) ≡ after (after before part) left
unfolding after
after_append before [] left = refl
after_append before (byte ∷ part) left = after_append (added before byte) part left

-- one part more
pub part_taken : (whole before : Sums) (rest part left : List ℕ) (a b : ℕ) → whole ≡ after before rest → rest ≡ part ++ left
    → a ≡ (after before part).a
    → b ≡ (after before part).b
    → whole ≡ after (sums a b) left
part_taken whole before rest part left a b e cut is_a is_b =
    e ∙ ap (after before) cut ∙ after_append before part left ∙ ap (λ (s : Sums). after s left) (sym (ap₂ sums is_a is_b))

-- no byte is left
pub none_left : (whole now : Sums) (rest : List ℕ) → whole ≡ after now rest → length rest ≡ 0 → now ≡ whole
unfolding after
none_left whole now [] e none = sym e
none_left whole now (byte ∷ rest) e none = cc
