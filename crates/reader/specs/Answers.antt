-- What the reader answers and what it leaves in the lent rows, out of the definitions of the file (01, "Numbers of refusal").
-- Counts are zero with a refusal, and no lent byte changes.
use Rattle.std.specs.Prelude.{List, ℕ, Result, Ok, Err, ◌*◌, length}
use Rattle.layout.specs.Refusal as Rules
use Rattle.layout.specs.File.{read_answer, rows_of, version_of, tasks_of, workers_of, cells_of, told, lent_after}
use Rattle.flow.specs.declared.Flow.{Flow}
use Rattle.refusal.specs.declared.Refusal.{Refusal}
use Rattle.refusal.specs.Numbers.{answer_of}

-- an answer in 01's terms: number and place, the bytes written, the sizes and the version
pub record ReadAnswer : Type 0 where
  pub number : ℕ
  pub place : ℕ
  pub bytes : ℕ
  pub tasks : ℕ
  pub workers : ℕ
  pub cells : ℕ
  pub version : ℕ

-- a refusal, with zero counts
abbrev pub read_refused : Rules.Answer → ReadAnswer
read_refused met = record { number = met.number; place = met.place; bytes = 0; tasks = 0; workers = 0; cells = 0; version = 0 }

-- the answer for a number and a place that are met: 48 bytes a task, the sizes, and "the reader says which [version] it read (0 if refused)"
abbrev pub read_with : Rules.Answer → List ℕ → ReadAnswer
read_with met file =
    record {
      number = met.number;
      place = met.place;
      bytes = told met (48 * tasks_of file);
      tasks = told met (tasks_of file);
      workers = told met (workers_of file);
      cells = told met (cells_of file);
      version = told met (version_of file);
    }

-- the number and values of each case: the rows written are those of the flow, 48 bytes a task
abbrev pub answer_by : Result Flow Refusal → ReadAnswer
answer_by (Ok flow) =
    record {
      number = 0;
      place = 0;
      bytes = 48 * flow.tasks;
      tasks = flow.tasks;
      workers = flow.workers;
      cells = flow.cells;
      version = flow.version;
    }
answer_by (Err met) = read_refused (answer_of met)

-- the reader's answer
abbrev pub read_is : List ℕ → List ℕ → ReadAnswer
read_is file rows = read_with (read_answer file (length rows)) file

-- the lent rows after the call
abbrev pub rows_after : List ℕ → List ℕ → List ℕ
rows_after file rows = lent_after (read_answer file (length rows)) (rows_of file) rows
