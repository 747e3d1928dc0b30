-- What the measuring of a flow file answers in 01's terms: the check's number and place, and the flow's sizes, total and version, zero with a
-- refusal.
use Rattle.std.specs.Prelude.{List, ℕ, Result, Ok, Err}
use Rattle.layout.specs.Refusal as Rules
use Rattle.layout.specs.File.{file_answer, flow_of, version_of, tasks_of, workers_of, cells_of, told}
use Rattle.steps.specs.Run.{total}
use Rattle.refusal.specs.declared.Refusal.{Refusal}
use Rattle.refusal.specs.Numbers.{answer_of}
use Rattle.measure.specs.declared.Measured.{Measured}

-- number and place, the sizes, the total and the version
pub record MeasureAnswer : Type 0 where
  pub number : ℕ
  pub place : ℕ
  pub tasks : ℕ
  pub workers : ℕ
  pub cells : ℕ
  pub total : ℕ
  pub version : ℕ

-- what is told with a number and a place that are met
abbrev pub measured_with : Rules.Answer → List ℕ → MeasureAnswer
measured_with met file =
    record {
      number = met.number;
      place = met.place;
      tasks = told met (tasks_of file);
      workers = told met (workers_of file);
      cells = told met (cells_of file);
      total = told met (total (flow_of file));
      version = told met (version_of file);
    }

-- with the check's
abbrev pub measured_of : List ℕ → MeasureAnswer
measured_of file = measured_with (file_answer file) file

-- the number and values of each case
abbrev pub answer_by : Result Measured Refusal → MeasureAnswer
answer_by (Ok met) =
    record {
      number = 0;
      place = 0;
      tasks = met.flow.tasks;
      workers = met.flow.workers;
      cells = met.flow.cells;
      total = met.total;
      version = met.flow.version;
    }
answer_by (Err met) =
    record {
      number = (answer_of met).number;
      place = (answer_of met).place;
      tasks = 0;
      workers = 0;
      cells = 0;
      total = 0;
      version = 0;
    }
