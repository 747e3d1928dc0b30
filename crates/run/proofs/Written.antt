-- Declared writes of the code: the contract says that the cells are those of the steps, and the theorem speaks of the same steps.
use mathlib.Core.Path.{◌≡◌, ap, ◌∙◌}
use mathlib.Core.List.{List}
use Prim.Native.Nat.{ℕ}
use lib.ListN.{get_or, take}
use Rattle.steps.specs.Demand.{Given}
use Rattle.steps.proofs.Given.{given_first}
use Rattle.steps.proofs.Written.{write_made_lem}
use Rattle.run.specs.Answers.{RunAnswer}
use Rattle.run.specs.Promises.{RunPromise}
use Rattle.run.specs.Written.{RunWrites}
use Rattle.run.proofs.Demand.{given, stepped_cells, is_finished}

pub run_writes : (file cells schedule : List ℕ) (r : RunAnswer) (after : List ℕ) → RunPromise file cells schedule r after
    → r.number ≡ 0
    → RunWrites file cells schedule r after
run_writes file cells schedule r after promised taken =
    let here : Given file cells schedule = given file cells schedule r after promised taken in
    record {
      each_made = λ n. write_made_lem file cells (take n schedule) (given_first file cells schedule n here);
      left_behind = λ e writer cell some listed only none.
          ap (λ (l : List ℕ). get_or l cell 0) (stepped_cells file cells schedule r after promised taken)
          ∙ (write_made_lem file cells schedule here writer cell some listed only).found_as_left.at_the_end none
          (is_finished file cells schedule r after promised taken e);
    }
