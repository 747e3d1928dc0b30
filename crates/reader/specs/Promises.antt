-- What the reader promises of its answer and of the lent rows after it: its contract is the record here.
use Rattle.std.specs.Prelude.{◌≡◌, List, ℕ}
use Rattle.reader.specs.Answers.{ReadAnswer, read_is, rows_after}

pub record ReadPromise (file rows : List ℕ) (r : ReadAnswer) (after : List ℕ) : Type 0 where
  pub answer : r ≡ read_is file rows
  pub lent : after ≡ rows_after file rows
