-- What the measuring of a flow file promises: the check's answer, the flow's total and its version, zero with a refusal.
use Rattle.std.specs.Prelude.{◌≡◌, List, ℕ, ◌≤◌}
use Rattle.layout.specs.Flow.{most_workers, most_cells}
use Rattle.steps.specs.Run.{largest_total}
use Rattle.measure.specs.Answers.{MeasureAnswer, measured_of}

pub record MeasurePromise (file : List ℕ) (r : MeasureAnswer) : Type 0 where
  pub answer : r ≡ measured_of file
  -- "Its largest value is 5,800": no flow's is above it
  pub total_fits : r.total ≤ largest_total
  pub workers_fit : r.workers ≤ most_workers
  pub cells_fit : r.cells ≤ most_cells
