-- What a fetch answers follows from what the check told it: with a refusal that, else the row of the task that was asked for, or
-- the end where the file has no task of that number.
use borrow.Author.Tests.{ne_eqb, eqb-true, eqb-false}
use Rattle.std.proofs.Common.{◌≡◌, ℕ, ◌+◌, ◌≤◌, Bool, true, false, cond, eqb, List, length, Option, Some, None, Result, Ok, Err, refl, sym, ap, ◌∙◌, arith}
use Rattle.std.specs.Prelude.{IsErr, IsErrAnd}
use Rattle.layout.specs.Flow.{up_to}
use Rattle.layout.specs.Refusal as Rules
use Rattle.layout.specs.File.{row_start, row_at, tasks_of, file_answer}
use Rattle.refusal.specs.declared.Refusal.{Refusal}
use Rattle.refusal.specs.Numbers.{answer_of}
use Rattle.refusal.proofs.Unique.{number_positive}
use Rattle.flow.specs.declared.Flow.{Flow}
use Rattle.file.specs.Answers.{answer_by as check_by}
use Rattle.file.specs.Promises.{CheckPromise}
use Rattle.file.proofs.Outcomes.{same_answer, accepted, tasks_are, rows_fit}
use Rattle.row_reader.specs.Answers.{RowAnswer, case_answer, given, refused_by, answer_at}
use Rattle.row_reader.specs.Promises.{Answered}
use Rattle.row_reader.proofs.Places.{is_up_to}

-- ---- by the file alone

pub with_refusal : (file : List ℕ) (task : ℕ) → ((file_answer file).number ≡ 0 → ⊥) → answer_at file task ≡ refused_by (file_answer file)
unfolding answer_at
with_refusal file task some =
    ap (λ (b : Bool). cond b (given file task) (refused_by (file_answer file))) (ne_eqb (file_answer file).number 0 some)

pub without : (file : List ℕ) (task : ℕ) → (file_answer file).number ≡ 0 → answer_at file task ≡ given file task
unfolding answer_at
without file task none = rw none

pub has_row : (file : List ℕ) (task : ℕ) → up_to (tasks_of file) task ≡ true → given file task ≡ case_answer (Ok (Some (row_at file task)))
has_row file task h = ap (λ (b : Bool). cond b (case_answer (Ok (Some (row_at file task)))) (case_answer (Ok None))) h

pub has_none : (file : List ℕ) (task : ℕ) → up_to (tasks_of file) task ≡ false → given file task ≡ case_answer (Ok None)
has_none file task h = ap (λ (b : Bool). cond b (case_answer (Ok (Some (row_at file task)))) (case_answer (Ok None))) h

-- what holds of each of the three answers holds of the one that is given
pub by_answer : (file : List ℕ) (task : ℕ) (P : RowAnswer → Type 0)
    → ((file_answer file).number ≡ 0 → up_to (tasks_of file) task ≡ true → P (case_answer (Ok (Some (row_at file task)))))
    → ((file_answer file).number ≡ 0 → up_to (tasks_of file) task ≡ false → P (case_answer (Ok None)))
    → (((file_answer file).number ≡ 0 → ⊥) → P (refused_by (file_answer file)))
    → P (answer_at file task)
unfolding answer_at
by_answer file task P row end met = go (eqb (file_answer file).number 0) refl (up_to (tasks_of file) task) refl
  where
    go : (taken : Bool) → eqb (file_answer file).number 0 ≡ taken → (there : Bool) → up_to (tasks_of file) task ≡ there
        → P (cond taken (cond there (case_answer (Ok (Some (row_at file task)))) (case_answer (Ok None))) (refused_by (file_answer file)))
    go true e true f = row (eqb-true (file_answer file).number 0 e) f
    go true e false f = end (eqb-true (file_answer file).number 0 e) f
    go false e there f = met (eqb-false (file_answer file).number 0 e)

-- ---- by the check's answer

-- a refusal is passed on
pub refused_is : {file : List ℕ} (met : Refusal) (task : ℕ) (r : Result (Option (List ℕ)) Refusal) → CheckPromise file (check_by (Err met))
    → IsErr r × IsErrAnd r (λ told. told ≡ met)
    → Answered file task r
refused_is met task (Ok found) promised is = absurd is.1
refused_is {file} met task (Err told) promised is =
    let same = same_answer promised in
    ap (λ (m : Refusal). refused_by (answer_of m)) is.1 ∙ ap refused_by same
    ∙ sym (with_refusal file task (λ none. number_positive met.rule (ap (λ (a : Rules.Answer). a.number) same ∙ none)))

module _ {file : List ℕ} (flow : Flow) (promised : CheckPromise file (check_by (Ok flow))) (task : ℕ) where
  within : (b : Bool) → up_to flow.tasks task ≡ b → up_to (tasks_of file) task ≡ b
  within b h = ap (λ (n : ℕ). up_to n task) (sym (tasks_are promised refl)) ∙ h

  -- the row of a task of the file stands within it
  pub row_fits : 1 ≤ task → task ≤ flow.tasks → row_start task + 48 ≤ length file
  row_fits some most = let stands = rows_fit promised refl in omega arith

  pub row_is : (row : List ℕ) → 1 ≤ task → task ≤ flow.tasks → row ≡ row_at file task → Answered file task (Ok (Some row))
  row_is row some most e =
      ap (λ (bytes : List ℕ). case_answer (Ok (Some bytes))) e
      ∙ sym (without file task (accepted promised refl) ∙ has_row file task (within true (is_up_to flow.tasks task some most)))

  pub end_is : up_to flow.tasks task ≡ false → Answered file task (Ok None)
  end_is h = sym (without file task (accepted promised refl) ∙ has_none file task (within false h))
