-- The rules of a block one after another: what is left to ask once the first of them are kept.
use Rattle.std.proofs.Common.{◌≡◌, ℕ, true, Bool, List, ◌∷◌}
use Rattle.layout.specs.Refusal.{first_broken}
use Rattle.layout.specs.Block.{check_sound, head_sound, version_sound}

-- where rule 2 and all of rule 3 are kept, the first broken rule is the first broken of those after them
pub past-3 : (blocks index version : ℕ) (block : List ℕ) → check_sound block ≡ true → head_sound blocks index block ≡ true
    → version_sound version block ≡ true
    → (number : ℕ) (rules : List (ℕ × Bool)) → number ≡ first_broken rules
    → number ≡ first_broken ((2, check_sound block) ∷ (3, head_sound blocks index block) ∷ (3, version_sound version block) ∷ rules)
unfolding first_broken
past-3 blocks index version block check head known number rules e = rw (check, head, known) e
