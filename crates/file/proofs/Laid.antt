-- Pieces of one size, laid one after another into lent bytes, are the pieces joined with the rest of the bytes behind them: each
-- goes where the ones before it end, and leaves what stands behind it.
use mathlib.Core.Path.{◌≡◌, refl, sym, ap, ◌∙◌}
use mathlib.Core.List.{List, [], ◌∷◌, ◌++◌, append-nil, append_assoc}
use Prim.Native.Nat.{ℕ, ◌+◌, ◌-◌, ◌*◌, ◌<◌}
use native.Mathlib.Nat.{mul-zero, add-sub_cancel_left, mul-add, mul-one}
use native.Mathlib.Omega.{arith}
use lib.ListN.{length, take, drop}
use lib.Seq.{take_at, drop_at, drop-drop}
use Rattle.layout.specs.Lists.{each, joined}
use Rattle.layout.proofs.Lists.{each_more}
use Rattle.roundtrip.proofs.Pieces.{joined_length}

joined-append : (f : ℕ → List ℕ) (xs ys : List ℕ) → joined f (xs ++ ys) ≡ joined f xs ++ joined f ys
unfolding joined
joined-append f [] ys = refl
joined-append f (x ∷ xs) ys = rw (joined-append f xs ys, append_assoc (f x) (joined f xs) (joined f ys))

joined_more : (f : ℕ → List ℕ) (g : ℕ → ℕ) (n : ℕ) → joined f (each (n + 1) g) ≡ joined f (each n g) ++ f (g n)
unfolding joined
joined_more f g n = rw (each_more n g, joined-append f (each n g) (g n ∷ []), append-nil (f (g n)))

-- the pieces so far, and what was lent behind them
abbrev pub laid : ℕ → (ℕ → List ℕ) → (ℕ → ℕ) → List ℕ → ℕ → List ℕ
laid size f g lent n = joined f (each n g) ++ drop (size * n) lent

module _ (size : ℕ) (f : ℕ → List ℕ) (g : ℕ → ℕ) (lent : List ℕ) where
  -- none is laid yet
  pub laid_none : lent ≡ laid size f g lent 0
  unfolding each joined
  laid_none = rw mul-zero

  -- one more, from `at` on
  pub laid_more : (n at : ℕ) (now piece : List ℕ) → ((i : ℕ) → i < n + 1 → length (f (g i)) ≡ size) → now ≡ laid size f g lent n
      → at ≡ size * n
      → piece ≡ f (g n)
      → take at now ++ (piece ++ drop (at + size - at) (drop at now)) ≡ laid size f g lent (n + 1)
  laid_more n at now piece sized before place here =
      let done : List ℕ = joined f (each n g) in
      let long : length done ≡ at = joined_length size n f g (λ i l. sized i (omega arith)) ∙ sym place in
      let e : now ≡ done ++ drop at lent = before ∙ ap (λ (k : ℕ). done ++ drop k lent) (sym place) in
      let next : at + size ≡ size * (n + 1) = omega (arith, mul-add size n 1, mul-one size) in
      rw (e, take_at done (drop at lent) at long, drop_at done (drop at lent) at long, add-sub_cancel_left at size, drop-drop size at lent, next, joined_more f g n, here)
      (sym (append_assoc done (f (g n)) (drop (size * (n + 1)) lent)))

  -- what is left of the lent bytes begins where the pieces end
  pub laid_is : (n : ℕ) → ((i : ℕ) → i < n → length (f (g i)) ≡ size)
      → laid size f g lent n ≡ joined f (each n g) ++ drop (length (joined f (each n g))) lent
  laid_is n sized = ap (λ (k : ℕ). joined f (each n g) ++ drop k lent) (sym (joined_length size n f g sized))
