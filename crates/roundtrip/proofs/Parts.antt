-- Parts of a list: a part of a part is a part of the whole, a part of lists laid end to end is a part of the one it lies in,
-- and a part is known by its bytes.
use mathlib.Core.Path.{◌≡◌, refl, sym, ap, ap₂, ◌∙◌}
use mathlib.Core.Bool.{true}
use mathlib.Core.List.{List, [], ◌∷◌, ◌++◌}
use Prim.Native.Nat.{ℕ, zero, suc, ◌+◌, ◌-◌, ◌*◌, ◌/◌, ◌%◌, ◌<◌, ◌≤◌}
use native.Mathlib.Nat.{zero-add, suc-add, add-zero, add-sub_cancel_left}
use native.Mathlib.Omega.{arith}
use lib.ListN.{length, take, drop, get_or, replicate, length-drop}
use lib.Seq.{take-nil, take-take, take-add, take-append-le, drop-append-le, drop-append-add, drop-cons, drop-drop, length-take-le}
use Rattle.layout.specs.Lists.{each}
use Rattle.layout.specs.Bytes.{part, all_zero, padded}
use Rattle.layout.proofs.Lists.{each_same}
use Rattle.layout.proofs.Zeros.{zero_is}

-- ---- a part by its start and its size

pub part_sized : (from size : ℕ) (xs : List ℕ) → part from (from + size) xs ≡ take size (drop from xs)
part_sized from size xs = rw add-sub_cancel_left

pub part_length : (from size : ℕ) (xs : List ℕ) → from + size ≤ length xs → length (take size (drop from xs)) ≡ size
part_length from size xs fits = length-take-le size (drop from xs) (rw length-drop (omega arith))

-- the bytes of a part, one by one
pub part_bytes : (n from : ℕ) (xs : List ℕ) → from + n ≤ length xs → take n (drop from xs) ≡ each n (λ i. get_or xs (from + i) 0)
unfolding each
part_bytes zero from xs fits = refl
part_bytes (suc n) from xs fits =
    ap (take (suc n)) (drop-cons xs from 0 (omega arith))
    ∙ ap₂ ◌∷◌ (ap (λ (k : ℕ). get_or xs k 0) (sym (add-zero from)))
    (part_bytes n (suc from) xs (omega arith) ∙ each_same n _ _ (λ i l. ap (λ (k : ℕ). get_or xs k 0) (omega arith)))

-- a number's two bytes
pub word_back : (low high n : ℕ) → low < 256 → low + 256 * high ≡ n → (low ≡ n % 256) × (high ≡ n / 256)
word_back low high n h e = omega arith

-- ---- a part of a part

drop-take : (m n : ℕ) (xs : List ℕ) → drop m (take (m + n) xs) ≡ take n (drop m xs)
drop-take zero n xs = rw zero-add
drop-take (suc m) n [] = simp take-nil
drop-take (suc m) n (x ∷ xs) = rw suc-add (drop-take m n xs)

pub part_of_part : (n m k from : ℕ) (xs : List ℕ) → m + n ≤ k
    → take n (drop m (take k (drop from xs))) ≡ take n (drop (from + m) xs)
part_of_part n m k from xs fits =
    let whole : k ≡ m + (k - m) = omega arith in
    ap (λ (j : ℕ). take n (drop m (take j (drop from xs)))) whole ∙ ap (take n) (drop-take m (k - m) (drop from xs))
    ∙ take-take n (k - m) (drop m (drop from xs)) (omega arith) ∙ ap (take n) (drop-drop m from xs)

-- ---- a part of lists laid end to end

pub part_left : (n m : ℕ) (xs ys : List ℕ) → m + n ≤ length xs → take n (drop m (xs ++ ys)) ≡ take n (drop m xs)
part_left n m xs ys fits =
    ap (take n) (drop-append-le m xs ys (omega arith)) ∙ take-append-le n (drop m xs) ys (rw length-drop (omega arith))

pub part_right : (n m size : ℕ) (xs ys : List ℕ) → length xs ≡ size → take n (drop (size + m) (xs ++ ys)) ≡ take n (drop m ys)
part_right n m size xs ys e = rw (← e) (ap (take n) (drop-append-add xs ys m))

-- ---- zeros after what is used

module _ (used size from : ℕ) (xs : List ℕ) (h : used ≤ size) (fits : from + size ≤ length xs) where
  zeros_back : all_zero (part (from + used) (from + size) xs) ≡ true
      → take (size - used) (drop (from + used) xs) ≡ replicate (size - used) 0
  zeros_back zeros =
      let sized : from + size ≡ from + used + (size - used) = omega arith in
      zero_is _ (rw (sized, part_sized (from + used) (size - used) xs) at zeros)
      ∙ ap (λ (k : ℕ). replicate k 0) (part_length (from + used) (size - used) xs (omega arith))

  pub padded_back : all_zero (part (from + used) (from + size) xs) ≡ true
      → padded size (take used (drop from xs)) ≡ take size (drop from xs)
  unfolding padded
  padded_back zeros =
      let whole : used + (size - used) ≡ size = omega arith in
      ap (λ (k : ℕ). take used (drop from xs) ++ replicate (size - k) 0) (part_length from used xs (omega arith))
      ∙ ap (λ (t : List ℕ). take used (drop from xs) ++ t)
      (sym (zeros_back zeros) ∙ ap (take (size - used)) (sym (drop-drop used from xs)))
      ∙ sym (take-add used (size - used) (drop from xs))
      ∙ ap (λ (k : ℕ). take k (drop from xs)) whole
