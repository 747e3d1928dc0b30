-- The members of a list that pass a test keep their order, so those of lists laid end to end are those of each laid end to end.
-- Hence a member that passes stands, among all that do, at the index that counts those before it.
use mathlib.Core.Path.{◌≡◌, refl, sym, ap, ◌∙◌}
use mathlib.Core.Bool.{Bool, true, false, cond}
use mathlib.Core.List.{List, [], ◌∷◌, ◌++◌}
use Prim.Native.Nat.{ℕ, ◌+◌, ◌-◌, ◌≤◌, ◌<◌}
use native.Mathlib.Omega.{arith}
use lib.ListN.{length, get_or, take, drop, length-append, take-append-drop}
use lib.Seq.{take-add, get_or-append_seam}

module _ {A : Type 0} where
  -- the members that pass, in order
  unfoldable pub passing : (A → Bool) → List A → List A
  passing test [] = []
  passing test (x ∷ xs) = cond (test x) (x ∷ passing test xs) (passing test xs)

  -- how many pass
  abbrev pub count : (A → Bool) → List A → ℕ
  count test xs = length (passing test xs)

  pub passing-append : (test : A → Bool) (xs ys : List A) → passing test (xs ++ ys) ≡ passing test xs ++ passing test ys
  unfolding passing
  passing-append test [] ys = refl
  passing-append test (x ∷ xs) ys = go (test x) (passing-append test xs ys)
    where
      go : (here : Bool) → passing test (xs ++ ys) ≡ passing test xs ++ passing test ys
          → cond here (x ∷ passing test (xs ++ ys)) (passing test (xs ++ ys))
          ≡ cond here (x ∷ passing test xs) (passing test xs) ++ passing test ys
      go true rest = cc
      go false rest = rest

  pub count-append : (test : A → Bool) (xs ys : List A) → count test (xs ++ ys) ≡ count test xs + count test ys
  count-append test xs ys = rw (passing-append, length-append)

  -- longer beginnings have no fewer
  pub count_more : (test : A → Bool) (xs : List A) (j k : ℕ) → j ≤ k → count test (take j xs) ≤ count test (take k xs)
  count_more test xs j k h =
      let whole : j + (k - j) ≡ k = omega arith in
      let cut = rw whole at (take-add j (k - j) xs) in
      rw cut (omega (arith, count-append test (take j xs) (take (k - j) (drop j xs))))

  -- ---- the member after the first k

  module _ (test : A → Bool) (xs : List A) (k : ℕ) {x : A} {later : List A} (next : drop k xs ≡ x ∷ later) where
    one_more : take (k + 1) xs ≡ take k xs ++ (x ∷ [])
    one_more = rw next at (take-add k 1 xs)

    -- one that fails isn't counted
    pub count_failing : test x ≡ false → count test (take (k + 1) xs) ≡ count test (take k xs)
    unfolding passing
    count_failing fails =
        let here : count test (x ∷ []) ≡ 0 = rw fails in
        rw one_more (omega (arith, count-append test (take k xs) (x ∷ [])))

    -- one that passes is
    pub count-passing : test x ≡ true → count test (take (k + 1) xs) ≡ count test (take k xs) + 1
    unfolding passing
    count-passing passes =
        let here : count test (x ∷ []) ≡ 1 = rw passes in
        rw one_more (omega (arith, count-append test (take k xs) (x ∷ [])))

    around : test x ≡ true → passing test xs ≡ passing test (take k xs) ++ x ∷ passing test later
    unfolding passing
    around passes =
        let whole : take k xs ++ x ∷ later ≡ xs = rw next at (take-append-drop k xs) in
        let here : passing test (x ∷ later) ≡ x ∷ passing test later = rw passes in
        ap (passing test) (sym whole) ∙ rw (passing-append, here)

    -- and it stands at the count of those before it
    pub passing_at : test x ≡ true → (d : A) → get_or (passing test xs) (count test (take k xs)) d ≡ x
    passing_at passes d = rw (around passes) (get_or-append_seam (passing test (take k xs)) x (passing test later) d)

    pub count_below : test x ≡ true → count test (take k xs) < count test xs
    count_below passes = rw (around passes, length-append) (omega arith)
