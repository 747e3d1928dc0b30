-- Fletcher's check with modulus 255 (01, "The file"), over any list of bytes.
use Rattle.std.specs.Prelude.{List, [], ◌∷◌, ℕ, ◌+◌, ◌%◌}

-- the two sums
pub record Sums : Type 0 where
  pub a : ℕ
  pub b : ℕ

abbrev pub sums : ℕ → ℕ → Sums
sums a b = record { a = a; b = b }

-- "A becomes (A + byte) mod 255, then B becomes (B + A) mod 255"
abbrev pub added : Sums → ℕ → Sums
added before byte = sums ((before.a + byte) % 255) ((before.b + (before.a + byte) % 255) % 255)

-- the sums after further bytes
unfoldable pub after : Sums → List ℕ → Sums
after before [] = before
after before (byte ∷ bytes) = after (added before byte) bytes

-- "A and B start at 0"
abbrev pub fletcher : List ℕ → Sums
fletcher bytes = after (sums 0 0) bytes
