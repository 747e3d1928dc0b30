-- A list filled from the front, one member after another, holds at the end one for each index.
use mathlib.Core.Path.{◌≡◌, sym, ap, ◌∙◌}
use mathlib.Core.List.{List, [], ◌∷◌, ◌++◌, append-nil, append_assoc}
use Prim.Native.Nat.{ℕ, suc, ◌+◌, ◌<◌, ◌≤◌}
use native.Mathlib.Omega.{arith}
use native.Mathlib.Numerals.{add-one}
use lib.ListN.{length, drop, set, drop_of_length-le}
use lib.Seq.{drop-cons, set_at}
use Rattle.layout.specs.Lists.{each}
use Rattle.layout.proofs.Lists.{each-length, each_more}

module _ (f : ℕ → ℕ) (before now : List ℕ) (i : ℕ) where
  -- one more
  pub filled_more : i < length before → now ≡ each i f ++ drop i before → (v : ℕ) → v ≡ f i
      → set now i v ≡ each (i + 1) f ++ drop (i + 1) before
  filled_more h e v q =
      ap (λ (l : List ℕ). set l i v) (e ∙ ap (λ (l : List ℕ). each i f ++ l) (drop-cons before i 0 h))
      ∙ set_at (each i f) _ (drop (suc i) before) v i (each-length i f)
      ∙ ap (λ (x : ℕ). each i f ++ x ∷ drop (suc i) before) q
      ∙ sym (append_assoc (each i f) (f i ∷ []) (drop (suc i) before))
      ∙ ap (λ (l : List ℕ). l ++ drop (suc i) before) (sym (each_more i f))
      ∙ ap (λ (k : ℕ). each (i + 1) f ++ drop k before) (sym (add-one i))

  -- and all
  pub filled_all : i ≤ length before → length before ≤ i → now ≡ each i f ++ drop i before → now ≡ each (length before) f
  filled_all h l e =
      let whole : i ≡ length before = omega arith in
      e ∙ ap (λ (l : List ℕ). each i f ++ l) (drop_of_length-le before l) ∙ append-nil (each i f) ∙ ap (λ (k : ℕ). each k f) whole
