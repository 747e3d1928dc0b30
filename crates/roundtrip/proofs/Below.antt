-- Parts of bytes and bytes laid end to end are bytes again: each of their numbers stands among those they were made of.
use mathlib.Core.List.{List, [], ◌∷◌, ◌++◌}
use Prim.Native.Nat.{ℕ, zero, suc, ◌+◌, ◌-◌}
use native.Mathlib.Omega.{arith}
use lib.ListN.{take, drop}
use lib.Seq.{get_or-drop}
use Rattle.layout.specs.Lists.{joined}
use Rattle.layout.specs.Bytes.{IsBytes, part}

bytes_take : (n : ℕ) (xs : List ℕ) → IsBytes xs → IsBytes (take n xs)
unfolding IsBytes
bytes_take zero xs h i = omega arith
bytes_take (suc n) [] h i = omega arith
bytes_take (suc n) (x ∷ xs) h zero = h 0
bytes_take (suc n) (x ∷ xs) h (suc i) = bytes_take n xs (λ j. h (suc j)) i

bytes_drop : (n : ℕ) (xs : List ℕ) → IsBytes xs → IsBytes (drop n xs)
unfolding IsBytes
bytes_drop n xs h i = rw get_or-drop (h (n + i))

pub bytes_part : (from to : ℕ) (xs : List ℕ) → IsBytes xs → IsBytes (part from to xs)
bytes_part from to xs h = bytes_take (to - from) (drop from xs) (bytes_drop from xs h)

bytes_append : (xs ys : List ℕ) → IsBytes xs → IsBytes ys → IsBytes (xs ++ ys)
unfolding IsBytes
bytes_append [] ys h k i = k i
bytes_append (x ∷ xs) ys h k zero = h 0
bytes_append (x ∷ xs) ys h k (suc i) = bytes_append xs ys (λ j. h (suc j)) k i

pub bytes_joined : {A : Type 0} (f : A → List ℕ) (xs : List A) → ((x : A) → IsBytes (f x)) → IsBytes (joined f xs)
unfolding IsBytes joined
bytes_joined f [] h i = omega arith
bytes_joined f (x ∷ xs) h i = bytes_append (f x) (joined f xs) (h x) (bytes_joined f xs h) i
