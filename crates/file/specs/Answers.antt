-- What the check of a file answers, out of the definitions of the file (01, "Numbers of refusal"). Sizes and version are
-- zero with a refusal.
use Rattle.std.specs.Prelude.{List, ℕ, Result, Ok, Err}
use Rattle.layout.specs.Refusal as Rules
use Rattle.layout.specs.File.{file_answer, version_of, tasks_of, workers_of, cells_of, told}
use Rattle.flow.specs.declared.Flow.{Flow}
use Rattle.refusal.specs.declared.Refusal.{Refusal}
use Rattle.refusal.specs.Numbers.{answer_of}

-- an answer in 01's terms: number and place, the sizes and the version
pub record CheckAnswer : Type 0 where
  pub number : ℕ
  pub place : ℕ
  pub tasks : ℕ
  pub workers : ℕ
  pub cells : ℕ
  pub version : ℕ

-- a refusal, with zero sizes and no version
abbrev pub check_refused : Rules.Answer → CheckAnswer
check_refused met = record { number = met.number; place = met.place; tasks = 0; workers = 0; cells = 0; version = 0 }

-- the answer for a number and a place that are met: the sizes and the version that block 0 states, zero with a refusal
abbrev pub check_with : Rules.Answer → List ℕ → CheckAnswer
check_with met file =
    record {
      number = met.number;
      place = met.place;
      tasks = told met (tasks_of file);
      workers = told met (workers_of file);
      cells = told met (cells_of file);
      version = told met (version_of file);
    }

-- the number and values of each case
abbrev pub answer_by : Result Flow Refusal → CheckAnswer
answer_by (Ok flow) =
    record { number = 0; place = 0; tasks = flow.tasks; workers = flow.workers; cells = flow.cells; version = flow.version }
answer_by (Err met) = check_refused (answer_of met)

-- the check's answer
abbrev pub check_answer : List ℕ → CheckAnswer
check_answer file = check_with (file_answer file) file
