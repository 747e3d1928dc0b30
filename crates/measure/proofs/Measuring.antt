-- What the check tells and the sum of the tasks are what is measured of the file.
use mathlib.Core.Path.{◌≡◌, refl, ap, ap₂, ◌∙◌}
use mathlib.Core.List.{List}
use Prim.Native.Nat.{ℕ, ◌*◌, ◌≤◌}
use native.Mathlib.Omega.{arith}
use borrow.Author.Tests.{ne_eqb}
use Rattle.std.proofs.Common.{Ok, Err}
use Rattle.layout.specs.File.{flow_of, tasks_in}
use Rattle.layout.specs.Refusal as Rules
use Rattle.steps.specs.Run.{total_of, total, most_of_task, largest_total}
use Rattle.refusal.specs.declared.Refusal.{Refusal}
use Rattle.refusal.specs.Numbers.{number_of, answer_of}
use Rattle.refusal.proofs.Unique.{number_positive}
use Rattle.flow.specs.declared.Flow.{Flow}
use Rattle.file.specs.Answers.{answer_by as checked_by}
use Rattle.file.specs.Promises.{CheckPromise}
use Rattle.file.proofs.Outcomes.{succeeds, same_answer, accepted, met_is, within, tasks_held, workers_held}
use Rattle.measure.specs.Answers.{MeasureAnswer, measured_with, answer_by}
use Rattle.measure.specs.Promises.{MeasurePromise}

abbrev measured : ℕ → ℕ → ℕ → ℕ → ℕ → ℕ → ℕ → MeasureAnswer
measured number place tasks workers cells total version =
    record { number = number; place = place; tasks = tasks; workers = workers; cells = cells; total = total; version = version }

-- the largest total in figures
pub largest : largest_total ≡ 5800
largest = refl

-- a refusal tells zeros
pub measure_refused : (file : List ℕ) (met : Refusal) → CheckPromise file (checked_by (Err met)) → MeasurePromise file (answer_by (Err met))
measure_refused file met promised =
    let zeros : answer_by (Err met) ≡ measured_with (answer_of met) file = rw (ne_eqb (number_of met.rule) 0 (number_positive met.rule)) in
    record {
      answer = zeros ∙ ap (λ (a : Rules.Answer). measured_with a file) (same_answer promised);
      total_fits = omega arith;
      workers_fit = omega arith;
      cells_fit = omega arith;
    }

-- an accepted file tells its sizes, its total and its version
pub measure_done : (file : List ℕ) (flow : Flow) (sum : ℕ) → CheckPromise file (checked_by (Ok flow))
    → sum ≡ total_of flow.workers (tasks_in file flow.tasks)
    → sum ≤ most_of_task * flow.tasks
    → MeasurePromise file (answer_by (Ok record { flow = flow; total = sum }))
measure_done file flow sum promised e most =
    let told = met_is promised refl in
    let sum_is : sum ≡ total (flow_of file) = e ∙ ap₂ total_of (workers_held promised refl) (tasks_held promised refl) in
    record {
      answer =
          (λ i. measured 0 0 (told i).tasks (told i).workers (told i).cells (sum_is i) (told i).version)
          ∙ ap (λ (a : Rules.Answer). measured_with a file) (succeeds file (accepted promised refl));
      total_fits = omega (arith, (within promised refl).tasks_fit);
      workers_fit = (within promised refl).workers_fit;
      cells_fit = (within promised refl).cells_fit;
    }
