-- Fletcher's sums may be reduced late: sums that are kept whole and reduced at the end are those that are reduced at each byte,
-- since the remainder of a sum is that of the sum of remainders. And bytes may be taken in parts.
use mathlib.Core.Path.{◌≡◌, refl, sym, ap, ap₂, subst, ◌∙◌}
use mathlib.Core.List.{List, [], ◌∷◌, ◌++◌}
use Prim.Native.Nat.{ℕ, ◌+◌, ◌-◌, ◌%◌, ◌<◌, ◌≤◌}
use native.Mathlib.Nat.{mod-add-mod, add-mod-mod, mod-eq_of_lt, mod-lt, zero-lt-suc}
use native.Mathlib.Numerals.{add-one}
use native.Mathlib.Omega.{arith}
use lib.ListN.{length, get_or, drop, take, take-append-drop, drop_of_length-le}
use lib.Seq.{drop-cons, drop-drop}
use lib.Dec.{lit<}
use Rattle.layout.specs.Fletcher.{Sums, sums, added, after, fletcher}

-- two numbers as sums, reduced
abbrev pub reduced : ℕ → ℕ → Sums
reduced a b = sums (a % 255) (b % 255)

-- sums that are small enough are reduced already
reduced_small : (a b : ℕ) → a < 255 → b < 255 → sums a b ≡ reduced a b
reduced_small a b p q = ap₂ sums (sym (mod-eq_of_lt p)) (sym (mod-eq_of_lt q))

-- a byte may be added before the sums are reduced
reduced_added : (a b byte : ℕ) → added (reduced a b) byte ≡ reduced (a + byte) (b + (a + byte))
reduced_added a b byte =
    ap₂ sums (mod-add-mod a 255 byte)
    (ap (λ (k : ℕ). (b % 255 + k) % 255) (mod-add-mod a 255 byte) ∙ mod-add-mod b 255 ((a + byte) % 255)
    ∙ add-mod-mod b (a + byte) 255)

-- a loop that adds bytes to sums which are not reduced: its start
pub late_start : (bytes : List ℕ) (a b : ℕ) → a < 255 → b < 255 → after (sums a b) bytes ≡ after (reduced a b) bytes
late_start bytes a b p q = ap (λ (s : Sums). after s bytes) (reduced_small a b p q)

-- one byte more
after_more : (before : Sums) (bytes : List ℕ) (i : ℕ) → i < length bytes
    → after before (drop i bytes) ≡ after (added before (get_or bytes i 0)) (drop (i + 1) bytes)
unfolding after
after_more before bytes i h =
    ap (after before) (drop-cons bytes i 0 h)
    ∙ ap (λ (k : ℕ). after (added before (get_or bytes i 0)) (drop k bytes)) (sym (add-one i))

-- one turn of it
pub late_more : (whole : Sums) (bytes : List ℕ) (i a b byte : ℕ) → i < length bytes → byte ≡ get_or bytes i 0
    → whole ≡ after (reduced a b) (drop i bytes)
    → whole ≡ after (reduced (a + byte) (b + (a + byte))) (drop (i + 1) bytes)
late_more whole bytes i a b byte h e before =
    before ∙ after_more (reduced a b) bytes i h
    ∙ ap (λ (k : ℕ). after (added (reduced a b) k) (drop (i + 1) bytes)) (sym e)
    ∙ ap (λ (s : Sums). after s (drop (i + 1) bytes)) (reduced_added a b byte)

-- and its end: no byte is left
pub late_end : (whole now : Sums) (bytes : List ℕ) (i : ℕ) → length bytes ≤ i → whole ≡ after now (drop i bytes) → now ≡ whole
unfolding after
late_end whole now bytes i h e = sym (e ∙ ap (after now) (drop_of_length-le bytes h))

after_append : (before : Sums) (xs ys : List ℕ) → after before (xs ++ ys) ≡ after (after before xs) ys
unfolding after
after_append before [] ys = refl
after_append before (x ∷ xs) ys = after_append (added before x) xs ys

-- the bytes up to an index, and then the rest
after_part : (before : Sums) (bytes : List ℕ) (from to : ℕ) → from ≤ to
    → after before (drop from bytes) ≡ after (after before (take (to - from) (drop from bytes))) (drop to bytes)
after_part before bytes from to h =
    let there : from + (to - from) ≡ to = omega arith in
    ap (after before) (sym (take-append-drop (to - from) (drop from bytes)))
    ∙ after_append before (take (to - from) (drop from bytes)) (drop (to - from) (drop from bytes))
    ∙ ap (after (after before (take (to - from) (drop from bytes))))
    (drop-drop (to - from) from bytes ∙ ap (λ (k : ℕ). drop k bytes) there)

-- the sums stay below 255
pub record Small (s : Sums) : Type 0 where
  pub a : s.a < 255
  pub b : s.b < 255

after_small : (before : Sums) (bytes : List ℕ) → Small before → Small (after before bytes)
unfolding after
after_small before [] h = h
after_small before (byte ∷ bytes) h =
    after_small (added before byte) bytes (record { a = mod-lt _ (zero-lt-suc 254); b = mod-lt _ (zero-lt-suc 254) })

pub fletcher_small : (bytes : List ℕ) → Small (fletcher bytes)
fletcher_small bytes = after_small (sums 0 0) bytes (record { a = lit< tt; b = lit< tt })

-- a loop that takes the bytes in parts: one part more
pub part_more : (whole before : Sums) (bytes : List ℕ) (from to a b : ℕ) → from ≤ to → Small before
    → a ≡ (after before (take (to - from) (drop from bytes))).a
    → b ≡ (after before (take (to - from) (drop from bytes))).b
    → whole ≡ after before (drop from bytes)
    → Small (sums a b) × (whole ≡ after (sums a b) (drop to bytes))
part_more whole before bytes from to a b h small ea eb e =
    let now : sums a b ≡ after before (take (to - from) (drop from bytes)) = ap₂ sums ea eb in (
      subst Small (sym now) (after_small before (take (to - from) (drop from bytes)) small),
      e ∙ after_part before bytes from to h ∙ ap (λ (s : Sums). after s (drop to bytes)) (sym now),
    )
