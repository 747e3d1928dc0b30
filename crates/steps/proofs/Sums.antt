-- A sum over the numbers below a count, and its laws, each by the first number and those after it.
use mathlib.Core.Path.{◌≡◌, refl}
use Prim.Native.Nat.{ℕ, zero, suc, ◌+◌, ◌*◌, ◌≤◌, ◌<◌}
use native.Mathlib.Omega.{arith}
use native.Mathlib.Nat.{suc-mul, zero-mul, not-suc-le-zero}
use native.Mathlib.Numerals.{add-one}

-- f 0 + f 1 + .. + f (n - 1)
unfoldable pub sum : ℕ → (ℕ → ℕ) → ℕ
sum zero f = 0
sum (suc n) f = f 0 + sum n (λ i. f (suc i))

-- one number more
pub sum_more : (n : ℕ) (f : ℕ → ℕ) → sum (n + 1) f ≡ sum n f + f n
unfolding sum
sum_more n f = rw add-one (go n f)
  where
    go : (n : ℕ) (f : ℕ → ℕ) → sum (suc n) f ≡ sum n f + f n
    go zero f = omega arith
    go (suc n) f = omega (arith, go n (λ i. f (suc i)))

pub sum_plus : (n : ℕ) (f g : ℕ → ℕ) → sum n (λ i. f i + g i) ≡ sum n f + sum n g
unfolding sum
sum_plus zero f g = refl
sum_plus (suc n) f g = omega (arith, sum_plus n (λ i. f (suc i)) (λ i. g (suc i)))

pub sum_const : (n k : ℕ) → sum n (λ i. k) ≡ n * k
unfolding sum
sum_const zero k = rw zero-mul
sum_const (suc n) k = omega (arith, sum_const n k, suc-mul n k)

-- a longer sum is no less
pub sum_longer : (m n : ℕ) (f : ℕ → ℕ) → m ≤ n → sum m f ≤ sum n f
unfolding sum
sum_longer zero n f h = omega arith
sum_longer (suc m) zero f h = absurd (not-suc-le-zero h)
sum_longer (suc m) (suc n) f h = omega (arith, sum_longer m n (λ i. f (suc i)) (omega arith))

-- nor is one whose members are no less; and it is more where one of them is
pub sum_over : (n : ℕ) (f g : ℕ → ℕ) → ((i : ℕ) → i < n → f i ≤ g i) → sum n f ≤ sum n g
unfolding sum
sum_over zero f g h = omega arith
sum_over (suc n) f g h = omega (arith, h 0 (omega arith), sum_over n (λ i. f (suc i)) (λ i. g (suc i)) (λ i l. h (suc i) (omega arith)))

pub sum_above : (n : ℕ) (f g : ℕ → ℕ) → ((i : ℕ) → i < n → f i ≤ g i) → (j : ℕ) → j < n → f j < g j → sum n f < sum n g
unfolding sum
sum_above zero f g h j l more = absurd (not-suc-le-zero l)
sum_above (suc n) f g h zero l more =
    omega (arith, sum_over n (λ i. f (suc i)) (λ i. g (suc i)) (λ i l. h (suc i) (omega arith)))
sum_above (suc n) f g h (suc j) l more =
    omega (arith, h 0 (omega arith), sum_above n (λ i. f (suc i)) (λ i. g (suc i)) (λ i l. h (suc i) (omega arith)) j (omega arith) more)

-- sums of members that are the same, or are but for one
pub sum_same : (n : ℕ) (f g : ℕ → ℕ) → ((i : ℕ) → i < n → f i ≡ g i) → sum n f ≡ sum n g
sum_same n f g h = omega (arith, sum_over n f g (λ i l. omega (arith, h i l)), sum_over n g f (λ i l. omega (arith, h i l)))

pub sum_but_one : (n : ℕ) (f g : ℕ → ℕ) (j : ℕ) → j < n → ((i : ℕ) → (i ≡ j → ⊥) → f i ≡ g i) → sum n f + g j ≡ sum n g + f j
unfolding sum
sum_but_one zero f g j l h = absurd (not-suc-le-zero l)
sum_but_one (suc n) f g zero l h =
    omega (arith, sum_same n (λ i. f (suc i)) (λ i. g (suc i)) (λ i l. h (suc i) (λ e. omega arith)))
sum_but_one (suc n) f g (suc j) l h =
    omega (
      arith,
      h 0 (λ e. omega arith),
      sum_but_one n (λ i. f (suc i)) (λ i. g (suc i)) j (omega arith) (λ i apart. h (suc i) (λ e. apart (omega arith))),
    )
