-- What the reader answers and leaves follows from the answer that its rules give: with a refusal every count is 0 and no lent byte
-- changes; with success the counts are told and the rows stand first.
use mathlib.Core.Path.{◌≡◌, refl, ap, ◌∙◌}
use mathlib.Core.List.{List, ◌++◌}
use Prim.Native.Nat.{ℕ, ◌+◌, ◌*◌, ◌≤◌, ◌<◌}
use native.Mathlib.Omega.{arith}
use borrow.Author.Tests.{ne_eqb}
use lib.ListN.{length, drop}
use Rattle.std.specs.Prelude.{Ok, Err}
use Rattle.layout.specs.Lists.{each, joined}
use Rattle.layout.specs.Refusal as Rules
use Rattle.layout.specs.Refusal.{success, refusal}
use Rattle.layout.specs.File.{row_at, tasks_of, file_answer, read_answer, rows_of, lent_after}
use Rattle.roundtrip.proofs.Places.{row_long}
use Rattle.refusal.specs.declared.Refusal.{Refusal}
use Rattle.refusal.specs.Numbers.{answer_of}
use Rattle.refusal.proofs.Unique.{number_positive}
use Rattle.flow.specs.declared.Flow.{Flow}
use Rattle.file.specs.Answers as Check
use Rattle.file.specs.Promises.{CheckPromise}
use Rattle.file.proofs.Order.{first_given, too_short, long_enough}
use Rattle.file.proofs.Outcomes.{lent_kept, rows_stand, same_answer, accepted, met_is, tasks_are}
use Rattle.file.proofs.Laid.{laid_is}
use Rattle.reader.specs.Answers.{ReadAnswer, read_refused, read_with, answer_by}
use Rattle.reader.specs.Promises.{ReadPromise}

-- ---- with a refusal

module _ (met : Rules.Answer) (some : met.number ≡ 0 → ⊥) where
  read_zeros : (file : List ℕ) → read_refused met ≡ read_with met file
  read_zeros file = rw (ne_eqb met.number 0 some)

  refused : (file rows : List ℕ) → met ≡ read_answer file (length rows) → ReadPromise file rows (read_refused met) rows
  refused file rows e =
      record {
        answer = read_zeros file ∙ ap (λ (a : Rules.Answer). read_with a file) e;
        lent = lent_kept met some (rows_of file) rows ∙ ap (λ (a : Rules.Answer). lent_after a (rows_of file) rows) e;
      }

-- ---- by what the check answers

-- the reader's answer for a file that the check accepts
abbrev read_all : Check.CheckAnswer → ReadAnswer
read_all met =
    record {
      number = 0;
      place = 0;
      bytes = 48 * met.tasks;
      tasks = met.tasks;
      workers = met.workers;
      cells = met.cells;
      version = met.version;
    }

module _ (file rows : List ℕ) where
  pub passed_on : (met : Refusal) → CheckPromise file (Check.answer_by (Err met)) → ReadPromise file rows (answer_by (Err met)) rows
  unfolding read_answer
  passed_on met promised =
      let some = number_positive met.rule in
      refused (answer_of met) some file rows (first_given (answer_of met) (file_answer file) _ (same_answer promised) some)

  module _ (flow : Flow) (promised : CheckPromise file (Check.answer_by (Ok flow))) where
    pub read_short : length rows < 48 * flow.tasks → ReadPromise file rows (read_refused (refusal 16 0)) rows
    unfolding read_answer
    read_short h =
        refused (refusal 16 0) (omega arith) file rows
        (too_short (file_answer file) (accepted promised refl) (48 * tasks_of file) (length rows) (rw (tasks_are promised refl) at h))

    pub read_done : (after : List ℕ) → 48 * flow.tasks ≤ length rows
        → after ≡ joined (row_at file) (each flow.tasks (λ i. i + 1)) ++ drop (48 * flow.tasks) rows
        → ReadPromise file rows (answer_by (Ok flow)) after
    unfolding read_answer rows_of
    read_done after room e =
        let done : success ≡ read_answer file (length rows) =
        long_enough (file_answer file) (accepted promised refl) (48 * tasks_of file) (length rows) (rw (tasks_are promised refl) at room) in
        record {
          answer = ap read_all (met_is promised refl) ∙ ap (λ (a : Rules.Answer). read_with a file) done;
          lent =
              (rw (tasks_are promised refl) at e)
              ∙ laid_is 48 (row_at file) (λ i. i + 1) rows (tasks_of file)
              (λ i l. row_long file (tasks_of file) i (rows_stand file (accepted promised refl)) l)
              ∙ ap (λ (a : Rules.Answer). lent_after a (rows_of file) rows) done;
        }
