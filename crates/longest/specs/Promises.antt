-- What is promised of the worst case's answer.
use Rattle.std.specs.Prelude.{◌≡◌, List, ℕ}
use Rattle.layout.specs.File.{file_answer, flow_of}
use Rattle.longest.specs.Answers.{LongestAnswer, longest_with}

pub record WorstCasePromise (file : List ℕ) (r : LongestAnswer) : Type 0 where
  pub answer : r ≡ longest_with (file_answer file) (flow_of file)
