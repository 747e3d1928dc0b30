-- What is measured of a file, and as many of the lent cells as the flow has, are what its run with the workers in turn asks.
use mathlib.Core.Path.{◌≡◌, refl, ◌∙◌}
use mathlib.Core.List.{List}
use Prim.Native.Nat.{ℕ, ◌≤◌}
use native.Mathlib.Omega.{arith}
use lib.ListN.{length, take}
use lib.Seq.{length-take-le}
use Rattle.std.proofs.Common.{Ok}
use Rattle.layout.specs.Flow.{most_cells}
use Rattle.measure.specs.declared.Measured.{Measured}
use Rattle.measure.specs.Answers.{answer_by}
use Rattle.measure.specs.Promises.{MeasurePromise}
use Rattle.measure.proofs.Accepted.{accepted, workers_are, cells_are, total_is}
use Rattle.in_turn.specs.Promises.{Measures}

module _ (file : List ℕ) (measured : Measured) (promised : MeasurePromise file (answer_by (Ok measured))) (cells : List ℕ) (count : ℕ)
    (counted : count ≡ measured.flow.cells)
    (room : most_cells ≤ length cells) where
  -- there are no more cells than a flow can have
  pub part_fits : count ≤ length cells
  part_fits = omega (arith, promised.cells_fit)

  pub part_length : length (take count cells) ≡ count
  part_length = length-take-le count cells part_fits

  pub part_measures : Measures file measured.flow.workers measured.total (take count cells)
  part_measures =
      record {
        accepted = accepted file (answer_by (Ok measured)) promised refl;
        workers_are = workers_are file (answer_by (Ok measured)) promised refl;
        total_is = total_is file (answer_by (Ok measured)) promised refl;
        start = part_length ∙ counted ∙ cells_are file (answer_by (Ok measured)) promised refl;
      }
