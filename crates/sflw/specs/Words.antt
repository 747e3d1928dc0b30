-- What each call for C promises: the number that is returned and the words of the answer are the core call's answer, field by field in the order
-- of include/sflw.h, and the other lent memory is as the core call leaves it. The answer itself is written on a refusal too.
use Rattle.std.specs.Prelude.{◌≡◌, List, [], ◌∷◌, ℕ, get_or}
use Rattle.reader.specs.Answers.{ReadAnswer, read_is, rows_after}
use Rattle.writer.specs.Answers.{WriteAnswer, write_is, out_after}
use Rattle.steps.specs.Answers.{plain_answer, plain_cells, run_told, run_held, run_cells}
use Rattle.run.specs.Answers.{PlainAnswer, plain_is, RunAnswer, run_is}
use Rattle.measure.specs.Answers.{MeasureAnswer, measured_of}

-- ---- the words of each answer

abbrev pub check_words : MeasureAnswer → List ℕ
check_words met = met.number ∷ met.place ∷ met.tasks ∷ met.workers ∷ met.cells ∷ met.total ∷ met.version ∷ []

abbrev pub read_words : ReadAnswer → List ℕ
read_words met = met.number ∷ met.place ∷ met.bytes ∷ met.tasks ∷ met.workers ∷ met.cells ∷ met.version ∷ []

abbrev pub write_words : WriteAnswer → List ℕ
write_words met = met.number ∷ met.place ∷ met.bytes ∷ []

abbrev pub plain_words : PlainAnswer → List ℕ
plain_words told = told.number ∷ told.place ∷ []

-- the reason and the cell of a worker (02, Q-1), before the words of the workers after it
abbrev pub worker : RunAnswer → ℕ → List ℕ → List ℕ
worker told w later = get_or told.reasons w 0 ∷ get_or told.cells w 0 ∷ later

abbrev pub run_words : RunAnswer → List ℕ
run_words told =
    told.number ∷ told.place ∷ told.advanced ∷ told.held ∷ told.done ∷ told.finished
    ∷ told.past_last ∷ told.write_differs ∷ told.reads_differ
    ∷ worker told 0 (worker told 1 (worker told 2 (worker told 3 (worker told 4 (worker told 5 (worker told 6 (worker told 7 [])))))))

-- ---- the promises

pub record Checked (file : List ℕ) (r : ℕ) (words : List ℕ) : Type 0 where
  pub number_is : r ≡ (measured_of file).number
  pub words_are : words ≡ check_words (measured_of file)

pub record Read (file rows : List ℕ) (r : ℕ) (after words : List ℕ) : Type 0 where
  pub number_is : r ≡ (read_is file rows).number
  pub words_are : words ≡ read_words (read_is file rows)
  pub lent : after ≡ rows_after file rows

pub record Written (rows : List ℕ) (version workers cells : ℕ) (out : List ℕ) (r : ℕ) (after words : List ℕ) : Type 0 where
  pub number_is : r ≡ (write_is rows version workers cells out).number
  pub words_are : words ≡ write_words (write_is rows version workers cells out)
  pub lent : after ≡ out_after rows version workers cells out

pub record Plain (file cells : List ℕ) (r : ℕ) (after words : List ℕ) : Type 0 where
  pub number_is : r ≡ (plain_answer file cells).number
  pub words_are : words ≡ plain_words (plain_is (plain_answer file cells))
  pub cells_after : after ≡ plain_cells file cells

pub record Ran (file cells schedule : List ℕ) (r : ℕ) (after words : List ℕ) : Type 0 where
  pub number_is : r ≡ (run_told file cells schedule).number
  pub words_are : words ≡ run_words (run_is (run_told file cells schedule) (run_held file cells schedule))
  pub cells_after : after ≡ run_cells file cells schedule
