-- Lists cut into pieces of one size, and joined from such pieces: to cut and to join undo one another, since a piece's place is
-- its index times the size.
use mathlib.Core.Path.{◌≡◌, refl, sym, ap, ap₂, ◌∙◌}
use mathlib.Core.List.{List, ◌++◌}
use Prim.Native.Nat.{ℕ, zero, suc, ◌+◌, ◌*◌, ◌<◌}
use native.Mathlib.Nat.{mul-zero, mul-suc, not-suc-le-zero}
use native.Mathlib.Omega.{arith}
use lib.ListN.{length, take, drop, length-append}
use lib.Seq.{take-add, drop-drop, take_at, drop_at}
use Rattle.layout.specs.Lists.{each, joined}

-- where the next piece stands
next : (size n : ℕ) → size + size * n ≡ size * suc n
next size n = omega (arith, mul-suc size n)

module _ {A : Type 0} where
  -- pieces that are the same one by one
  pub joined_same : {B : Type 0} (n : ℕ) (f : A → List ℕ) (g : ℕ → A) (f' : B → List ℕ) (g' : ℕ → B)
      → ((i : ℕ) → i < n → f (g i) ≡ f' (g' i))
      → joined f (each n g) ≡ joined f' (each n g')
  unfolding each joined
  joined_same zero f g f' g' h = refl
  joined_same (suc n) f g f' g' h =
      ap₂ ◌++◌ (h 0 (omega arith)) (joined_same n f (λ i. g (suc i)) f' (λ i. g' (suc i)) (λ i l. h (suc i) (omega arith)))

  -- the pieces of a list, joined
  pub joined_cut : (size n : ℕ) (xs : List ℕ) (f : A → List ℕ) (g : ℕ → A)
      → ((i : ℕ) → i < n → f (g i) ≡ take size (drop (size * i) xs))
      → joined f (each n g) ≡ take (size * n) xs
  unfolding each joined
  joined_cut size zero xs f g h = rw mul-zero
  joined_cut size (suc n) xs f g h =
      ap₂ ◌++◌ (rw mul-zero at (h 0 (omega arith))) (joined_cut size n (drop size xs) f (λ i. g (suc i)) later)
      ∙ sym (take-add size (size * n) xs) ∙ ap (λ (k : ℕ). take k xs) (next size n)
    where
      later : (i : ℕ) → i < n → f (g (suc i)) ≡ take size (drop (size * i) (drop size xs))
      later i l = rw (drop-drop, next) (h (suc i) (omega arith))

  -- a piece of the joined list
  pub piece : (size n : ℕ) (f : A → List ℕ) (g : ℕ → A)
      → ((i : ℕ) → i < n → length (f (g i)) ≡ size)
      → (i : ℕ) → i < n → take size (drop (size * i) (joined f (each n g))) ≡ f (g i)
  unfolding each joined
  piece size zero f g h i l = absurd (not-suc-le-zero l)
  piece size (suc n) f g h zero l = rw mul-zero (take_at (f (g 0)) _ size (h 0 l))
  piece size (suc n) f g h (suc i) l =
      ap (take size)
      (ap (λ (k : ℕ). drop k (f (g 0) ++ joined f (each n (λ j. g (suc j))))) (sym (next size i))
      ∙ sym (drop-drop (size * i) size _)
      ∙ ap (drop (size * i)) (drop_at (f (g 0)) _ size (h 0 (omega arith))))
      ∙ piece size n f (λ j. g (suc j)) (λ j m. h (suc j) (omega arith)) i (omega arith)

  pub joined_length : (size n : ℕ) (f : A → List ℕ) (g : ℕ → A)
      → ((i : ℕ) → i < n → length (f (g i)) ≡ size)
      → length (joined f (each n g)) ≡ size * n
  unfolding each joined
  joined_length size zero f g h = rw mul-zero
  joined_length size (suc n) f g h =
      length-append (f (g 0)) _
      ∙ ap₂ ◌+◌ (h 0 (omega arith)) (joined_length size n f (λ i. g (suc i)) (λ i l. h (suc i) (omega arith)))
      ∙ next size n

-- lists whose pieces are the same are the same that far
pub same_pieces : (size n : ℕ) (xs ys : List ℕ)
    → ((i : ℕ) → i < n → take size (drop (size * i) xs) ≡ take size (drop (size * i) ys))
    → take (size * n) xs ≡ take (size * n) ys
same_pieces size n xs ys h =
    sym (joined_cut size n xs (λ i. take size (drop (size * i) xs)) (λ i. i) (λ i l. refl)) ∙ joined_cut size n ys _ (λ i. i) h
