-- Laws of `each` and `all`: what stands where, one member more, and what a test of all tells of one.
use mathlib.Core.Path.{◌≡◌, refl, sym, ap, ap₂, ◌∙◌}
use mathlib.Core.Bool.{Bool, true, false, ◌&&◌, ◌||◌, true≢false, false≢true}
use mathlib.Core.List.{List, [], ◌∷◌, ◌++◌}
use Prim.Native.Nat.{ℕ, zero, suc, ◌+◌, ◌<◌}
use native.Mathlib.Nat.{not-suc-le-zero, le_of_suc-le-suc}
use native.Mathlib.Omega.{arith}
use native.Mathlib.Numerals.{add-one}
use lib.ListN.{length, get_or, set}
use Rattle.layout.specs.Lists.{each, all}

-- ---- both of two tests

pub and-false : (x : Bool) → (x && false) ≡ false
and-false true = refl
and-false false = refl

pub and_assoc : (x y z : Bool) → (x && y && z) ≡ (x && (y && z))
and_assoc true y z = refl
and_assoc false y z = refl

pub and_left : (x y : Bool) → (x && y) ≡ true → x ≡ true
and_left true y h = refl
and_left false y h = absurd (false≢true h)

pub and_right : (x y : Bool) → (x && y) ≡ true → y ≡ true
and_right true y h = h
and_right false y h = absurd (false≢true h)

pub and_both : (x y : Bool) → x ≡ true → y ≡ true → (x && y) ≡ true
and_both true y p q = q
and_both false y p q = p

-- ---- two tests

-- either of two and a third
pub or_swap : (x y z : Bool) → (y || (x || z)) ≡ ((x || y) || z)
or_swap true true z = refl
or_swap true false z = refl
or_swap false y z = refl

-- two that imply one another
pub same_test : (p q : Bool) → (p ≡ true → q ≡ true) → (q ≡ true → p ≡ true) → p ≡ q
same_test true q there back = sym (there refl)
same_test false true there back = back refl
same_test false false there back = refl

-- two that agree at each index
pub all_same : {A B : Type 0} (p : A → Bool) (q : B → Bool) (n : ℕ) (f : ℕ → A) (g : ℕ → B) → ((i : ℕ) → p (f i) ≡ q (g i))
    → all p (each n f) ≡ all q (each n g)
unfolding each all
all_same p q zero f g same = refl
all_same p q (suc n) f g same = ap₂ ◌&&◌ (same 0) (all_same p q n (λ i. f (suc i)) (λ i. g (suc i)) (λ i. same (suc i)))

module _ {A : Type 0} where
  -- ---- where each member stands

  pub each-length : (n : ℕ) (f : ℕ → A) → length (each n f) ≡ n
  unfolding each
  each-length zero f = refl
  each-length (suc n) f = ap suc (each-length n (λ i. f (suc i)))

  pub each_at : (n : ℕ) (f : ℕ → A) (i : ℕ) (d : A) → i < n → get_or (each n f) i d ≡ f i
  unfolding each
  each_at zero f i d h = absurd (not-suc-le-zero h)
  each_at (suc n) f zero d h = refl
  each_at (suc n) f (suc i) d h = each_at n (λ j. f (suc j)) i d (le_of_suc-le-suc h)

  each-suc : (n : ℕ) (f : ℕ → A) → each (suc n) f ≡ each n f ++ (f n ∷ [])
  unfolding each
  each-suc zero f = refl
  each-suc (suc n) f = ap (λ (t : List A). f 0 ∷ t) (each-suc n (λ i. f (suc i)))

  -- one member more, at the end
  pub each_more : (n : ℕ) (f : ℕ → A) → each (n + 1) f ≡ each n f ++ (f n ∷ [])
  each_more n f = ap (λ (k : ℕ). each k f) (add-one n) ∙ each-suc n f

  -- members that are the same one by one
  pub each_same : (n : ℕ) (f g : ℕ → A) → ((i : ℕ) → i < n → f i ≡ g i) → each n f ≡ each n g
  unfolding each
  each_same zero f g h = refl
  each_same (suc n) f g h =
      ap (λ (x : A). x ∷ each n (λ i. f (suc i))) (h 0 (Prim.Native.Nat.suc-le-suc Prim.Native.Nat.zero-le))
      ∙ ap (λ (t : List A). g 0 ∷ t) (each_same n (λ i. f (suc i)) (λ i. g (suc i)) (λ i l. h (suc i) (Prim.Native.Nat.suc-le-suc l)))

  -- one member replaced
  pub each_set : (n : ℕ) (f g : ℕ → A) (i : ℕ) (x : A) → x ≡ g i → ((j : ℕ) → (j ≡ i → ⊥) → f j ≡ g j) → set (each n f) i x ≡ each n g
  unfolding each
  each_set zero f g i x here others = refl
  each_set (suc n) f g zero x here others =
      let rest : each n (λ j. f (suc j)) ≡ each n (λ j. g (suc j)) =
      each_same n (λ j. f (suc j)) (λ j. g (suc j)) (λ j l. others (suc j) (λ e. omega arith)) in
      λ k. here k ∷ rest k
  each_set (suc n) f g (suc i) x here others =
      let rest : set (each n (λ j. f (suc j))) i x ≡ each n (λ j. g (suc j)) =
      each_set n (λ j. f (suc j)) (λ j. g (suc j)) i x here (λ j apart. others (suc j) (λ e. apart (omega arith))) in
      λ k. others 0 (λ e. omega arith) k ∷ rest k

  -- ---- a test of all

  pub all_append : (p : A → Bool) (xs ys : List A) → all p (xs ++ ys) ≡ (all p xs && all p ys)
  unfolding all
  all_append p [] ys = refl
  all_append p (x ∷ xs) ys = ap (λ (t : Bool). p x && t) (all_append p xs ys) ∙ sym (and_assoc (p x) (all p xs) (all p ys))

  pub all_more : (p : A → Bool) (n : ℕ) (f : ℕ → A) → all p (each n f) ≡ true → p (f n) ≡ true → all p (each (n + 1) f) ≡ true
  unfolding all
  all_more p n f before here =
      ap (all p) (each_more n f) ∙ all_append p (each n f) (f n ∷ [])
      ∙ and_both (all p (each n f)) (p (f n) && true) before (and_both (p (f n)) true here refl)

  -- where each passes, all do
  pub all_pass : (p : A → Bool) (n : ℕ) (f : ℕ → A) → ((i : ℕ) → i < n → p (f i) ≡ true) → all p (each n f) ≡ true
  unfolding each all
  all_pass p zero f h = refl
  all_pass p (suc n) f h =
      and_both (p (f 0)) _ (h 0 (omega arith)) (all_pass p n (λ i. f (suc i)) (λ i l. h (suc i) (omega arith)))

  -- where not all pass, one does not
  pub all_fails : (p : A → Bool) (n : ℕ) (f : ℕ → A) → all p (each n f) ≡ false → (i : ℕ) × (i < n) × (p (f i) ≡ false)
  unfolding each all
  all_fails p zero f e = absurd (true≢false e)
  all_fails p (suc n) f e = go (p (f 0)) refl e (all_fails p n (λ i. f (suc i)))
    where
      go : (b : Bool) → p (f 0) ≡ b → (b && all p (each n (λ i. f (suc i)))) ≡ false
          → (all p (each n (λ i. f (suc i))) ≡ false → (i : ℕ) × (i < n) × (p (f (suc i)) ≡ false))
          → (i : ℕ) × (i < suc n) × (p (f i) ≡ false)
      go false same e later = (0, omega arith, same)
      go true same e later = (suc (later e).0, omega (arith, (later e).1), (later e).2)

  pub all_keeps : (p : A → Bool) (n : ℕ) (f : ℕ → A) (i : ℕ) → i < n → all p (each n f) ≡ true → p (f i) ≡ true
  unfolding each all
  all_keeps p zero f i h t = absurd (not-suc-le-zero h)
  all_keeps p (suc n) f zero h t = and_left (p (f 0)) (all p (each n (λ j. f (suc j)))) t
  all_keeps p (suc n) f (suc i) h t =
      all_keeps p n (λ j. f (suc j)) i (le_of_suc-le-suc h) (and_right (p (f 0)) (all p (each n (λ j. f (suc j)))) t)

  pub all_breaks : (p : A → Bool) (n : ℕ) (f : ℕ → A) (i : ℕ) → i < n → p (f i) ≡ false → all p (each n f) ≡ false
  unfolding each all
  all_breaks p zero f i h t = absurd (not-suc-le-zero h)
  all_breaks p (suc n) f zero h t = ap (λ (x : Bool). x && all p (each n (λ j. f (suc j)))) t
  all_breaks p (suc n) f (suc i) h t =
      ap (λ (x : Bool). p (f 0) && x) (all_breaks p n (λ j. f (suc j)) i (le_of_suc-le-suc h) t) ∙ and-false (p (f 0))
