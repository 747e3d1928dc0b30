-- What the writer promises of its answer and of the lent output after it: its contract is the record here.
use Rattle.std.specs.Prelude.{◌≡◌, List, ℕ}
use Rattle.writer.specs.Answers.{WriteAnswer, write_is, out_after}

pub record WritePromise (rows : List ℕ) (version workers cells : ℕ) (out : List ℕ) (r : WriteAnswer) (after : List ℕ) : Type 0 where
  pub answer : r ≡ write_is rows version workers cells out
  pub lent : after ≡ out_after rows version workers cells out
