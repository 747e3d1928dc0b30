-- What a row reader answers at its place (01, "Numbers of refusal"): "It gives task 1 first and says the end at every call after
-- the last; a refused file gives its refusal at every call".
use Rattle.std.specs.Prelude.{Bool, true, false, cond, List, ℕ, Option, Some, None, Result, Ok, Err, eqb, take, replicate}
use Rattle.std.specs.Option.{option_transpose}
use Rattle.layout.specs.Flow.{up_to}
use Rattle.layout.specs.Refusal as Rules
use Rattle.layout.specs.File.{row_at, tasks_of, file_answer}
use Rattle.refusal.specs.declared.Refusal.{Refusal}
use Rattle.refusal.specs.Numbers.{number_of}

-- an answer in 01's terms: number and place, the bytes given, whether the end is said, and the row
pub record RowAnswer : Type 0 where
  pub number : ℕ
  pub place : ℕ
  pub bytes : ℕ
  pub ended : Bool
  pub row : List ℕ

-- ---- the number and values of each case

-- where there is no row, its bytes are zero
abbrev pub no_row : List ℕ
no_row = replicate 48 0

-- of what a fetch gives: a row, none at the end, or a refusal
abbrev pub case_answer : Result (Option (List ℕ)) Refusal → RowAnswer
case_answer (Ok (Some row)) = record { number = 0; place = 0; bytes = 48; ended = false; row = row }
case_answer (Ok None) = record { number = 0; place = 0; bytes = 0; ended = true; row = no_row }
case_answer (Err met) = record { number = number_of met.rule; place = met.place; bytes = 0; ended = false; row = no_row }

-- the same of what a reader gives: after the last row none, and else a row or a refusal
abbrev pub answer_by : Option (Result (List ℕ) Refusal) → RowAnswer
answer_by given = case_answer (option_transpose given)

-- the bytes that an answer gives: a row's 48, none with the end or a refusal
abbrev pub bytes_given : RowAnswer → List ℕ
bytes_given answer = take answer.bytes answer.row

-- ---- the answer at a place of a file

-- what a file that is not refused gives at a place: the task's row, or the end where no task has that number
abbrev pub given : List ℕ → ℕ → RowAnswer
given file task =
    cond (up_to (tasks_of file) task) (case_answer (Ok (Some (row_at file task)))) (case_answer (Ok None))

-- a refusal, with no row
abbrev pub refused_by : Rules.Answer → RowAnswer
refused_by met = record { number = met.number; place = met.place; bytes = 0; ended = false; row = no_row }

-- the refusal where the check met one, whatever the place
abbrev pub answer_with : Rules.Answer → List ℕ → ℕ → RowAnswer
answer_with met file task = cond (eqb met.number 0) (given file task) (refused_by met)

-- the answer at a place of a file
unfoldable pub answer_at : List ℕ → ℕ → RowAnswer
answer_at file task = answer_with (file_answer file) file task
