-- What the check answers follows from the answer that its rules give.
use Rattle.std.proofs.Common.{◌≡◌, ℕ, List}
use borrow.Author.Tests.{ne_eqb}
use Rattle.layout.specs.Refusal as Rules
use Rattle.file.specs.Answers.{check_refused, check_with}

-- with a refusal every size and the version is 0
pub check_zeros : (met : Rules.Answer) → (met.number ≡ 0 → ⊥) → (file : List ℕ) → check_refused met ≡ check_with met file
check_zeros met some file = rw (ne_eqb met.number 0 some)
