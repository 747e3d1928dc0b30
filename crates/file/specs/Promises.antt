-- What the check promises of its answer: its contract is the record here.
use Rattle.std.specs.Prelude.{◌≡◌, List, ℕ}
use Rattle.file.specs.Answers.{CheckAnswer, check_answer}

pub record CheckPromise (file : List ℕ) (r : CheckAnswer) : Type 0 where
  pub answer : r ≡ check_answer file
