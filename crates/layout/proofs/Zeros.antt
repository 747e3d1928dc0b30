-- Bytes that are all zero: a sum of numbers is zero exactly where each of them is, so a running sum tells of every byte passed.
use mathlib.Core.Path.{◌≡◌, refl, sym, ap, ◌∙◌}
use mathlib.Core.Bool.{Bool, true, false, ◌&&◌, false≢true}
use mathlib.Core.List.{List, [], ◌∷◌, ◌++◌, append-nil}
use Prim.Native.Nat.{ℕ, zero, suc, ◌+◌, ◌<◌, ◌≤◌}
use native.Mathlib.Nat.{zero-add, not-suc-le-zero, le_of_suc-le-suc}
use native.Mathlib.Omega.{arith}
use native.Mathlib.Numerals.{add-one}
use borrow.Author.Tests.{eqb-true, eq-eqb, ne_eqb}
use borrow.Author.Fill.{fill_more}
use lib.ListN.{length, get_or, take, drop, set, replicate, drop_of_length-le}
use lib.Seq.{take-suc}
use lib.Dec.{eqb, eqb-suc-zero}
use Rattle.layout.specs.Bytes.{all_zero}
use Rattle.layout.proofs.Lists.{and-false, and_assoc, and_left, and_right}

-- both of two numbers are zero exactly where their sum is
pub eqb-sum : (m n : ℕ) → eqb (m + n) 0 ≡ (eqb m 0 && eqb n 0)
eqb-sum zero n = ap (λ (k : ℕ). eqb k 0) (zero-add n)
eqb-sum (suc m) n = ne_eqb (suc m + n) 0 (λ e. omega arith) ∙ ap (λ (t : Bool). t && eqb n 0) (sym (eqb-suc-zero m))

pub and-true : (x : Bool) → (x && true) ≡ x
and-true true = refl
and-true false = refl

pub zero-append : (xs ys : List ℕ) → all_zero (xs ++ ys) ≡ (all_zero xs && all_zero ys)
unfolding all_zero
zero-append [] ys = refl
zero-append (x ∷ xs) ys = ap (λ (t : Bool). eqb x 0 && t) (zero-append xs ys) ∙ sym (and_assoc (eqb x 0) (all_zero xs) (all_zero ys))

-- one byte more
pub zero_more : (bytes : List ℕ) (i : ℕ) → i < length bytes
    → all_zero (take (i + 1) bytes) ≡ (all_zero (take i bytes) && eqb (get_or bytes i 0) 0)
unfolding all_zero
zero_more bytes i h =
    ap (λ (k : ℕ). all_zero (take k bytes)) (add-one i)
    ∙ ap all_zero (take-suc bytes i 0 h)
    ∙ zero-append (take i bytes) (get_or bytes i 0 ∷ [])
    ∙ ap (λ (t : Bool). all_zero (take i bytes) && t) (and-true (eqb (get_or bytes i 0) 0))

-- while no byte has been another, the bytes passed are all zero; and one that is tells of all
pub zero_passed : (bytes : List ℕ) (i : ℕ) → i < length bytes → all_zero (take i bytes) ≡ true → get_or bytes i 0 ≡ 0
    → all_zero (take (i + 1) bytes) ≡ true
zero_passed bytes i h before is =
    zero_more bytes i h ∙ ap (λ (t : Bool). t && eqb (get_or bytes i 0) 0) before ∙ eq-eqb (get_or bytes i 0) 0 is

pub zero_breaks : (bytes : List ℕ) (i : ℕ) → i < length bytes → (get_or bytes i 0 ≡ 0 → ⊥) → all_zero bytes ≡ false
unfolding all_zero
zero_breaks [] i h other = absurd (not-suc-le-zero h)
zero_breaks (byte ∷ bytes) zero h other = ap (λ (t : Bool). t && all_zero bytes) (ne_eqb byte 0 other)
zero_breaks (byte ∷ bytes) (suc i) h other =
    ap (λ (t : Bool). eqb byte 0 && t) (zero_breaks bytes i (le_of_suc-le-suc h) other) ∙ and-false (eqb byte 0)

-- each of bytes that are all zero
pub zero_at : (bytes : List ℕ) (i : ℕ) → all_zero bytes ≡ true → get_or bytes i 0 ≡ 0
unfolding all_zero
zero_at [] i h = refl
zero_at (byte ∷ bytes) zero h = eqb-true byte 0 (and_left (eqb byte 0) (all_zero bytes) h)
zero_at (byte ∷ bytes) (suc i) h = zero_at bytes i (and_right (eqb byte 0) (all_zero bytes) h)

-- a running sum that is zero exactly where the bytes passed all are stays so by the next byte
pub sum_more : (bytes : List ℕ) (i sum byte : ℕ) → i < length bytes → byte ≡ get_or bytes i 0 → eqb sum 0 ≡ all_zero (take i bytes)
    → eqb (sum + byte) 0 ≡ all_zero (take (i + 1) bytes)
sum_more bytes i sum byte h e before =
    eqb-sum sum byte ∙ ap (λ (t : Bool). t && eqb byte 0) before ∙ ap (λ (k : ℕ). all_zero (take i bytes) && eqb k 0) e
    ∙ sym (zero_more bytes i h)

-- bytes that are all zero are so many zeros
pub zero_is : (bytes : List ℕ) → all_zero bytes ≡ true → bytes ≡ replicate (length bytes) 0
unfolding all_zero
zero_is [] h = refl
zero_is (zero ∷ bytes) h = ap (λ (t : List ℕ). 0 ∷ t) (zero_is bytes h)
zero_is (suc byte ∷ bytes) h = absurd (false≢true (ap (λ (t : Bool). t && all_zero bytes) (sym (eqb-suc-zero byte)) ∙ h))

pub zero-replicate : (n : ℕ) → all_zero (replicate n 0) ≡ true
unfolding all_zero
zero-replicate zero = refl
zero-replicate (suc n) = zero-replicate n

-- zeros filled in from the front: one more
pub clear_more : (before bytes : List ℕ) (i : ℕ) → i < length bytes → length bytes ≡ length before
    → bytes ≡ replicate i 0 ++ drop i before
    → set bytes i 0 ≡ replicate (i + 1) 0 ++ drop (i + 1) before
clear_more before bytes i h l e =
    ap (λ (t : List ℕ). set t i 0) e ∙ fill_more i 0 before (omega arith)

-- and up to the end
pub cleared : (before bytes : List ℕ) (i : ℕ) → i ≤ length before → length before ≤ i → bytes ≡ replicate i 0 ++ drop i before
    → bytes ≡ replicate (length before) 0
cleared before bytes i h l e =
    let whole : i ≡ length before = omega arith in
    e ∙ ap (λ (t : List ℕ). replicate i 0 ++ t) (drop_of_length-le before l) ∙ append-nil (replicate i 0)
    ∙ ap (λ (k : ℕ). replicate k 0) whole
