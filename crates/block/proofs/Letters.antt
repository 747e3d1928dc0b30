-- Bytes begin with the letters where each of the first four is its letter.
use Rattle.std.proofs.Common.{◌≡◌, List, [], ◌∷◌, ℕ, eqb, refl, arith}
use Rattle.std.proofs.lemmas.Bool.Decides.{nat_tests}
use Rattle.std.specs.List.{starts_with}
use Rattle.layout.specs.Block.{letters, letters_sound}

pub letters_read : (block : List ℕ) → starts_with eqb block letters ≡ letters_sound letters block
letters_read [] = refl
letters_read (a ∷ []) = grind (arith, nat_tests)
letters_read (a ∷ b ∷ []) = grind (arith, nat_tests)
letters_read (a ∷ b ∷ c ∷ []) = grind (arith, nat_tests)
letters_read (a ∷ b ∷ c ∷ d ∷ rest) = grind (arith, nat_tests)
