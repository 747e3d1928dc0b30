-- `plainly::plain` meets its contract: the check's refusal is passed on, then the number of cells is asked for, and the tasks of an accepted file
-- leave the cells that the plain run gives.
use Rattle.std.proofs.Common.{refl, rules}
use Rattle.arrays.proofs.Accepted.{ready}
use Rattle.run.proofs.Outcomes.{plain_refused, file_refused, cells_refused, plain_done}
use Rattle.run.proofs.plainly.plain.Goals as goal

pub returns-in_err-flow : goal.returns-in_err-flow
returns-in_err-flow c =
    let met = plain_refused _ c.args.cells.now _ (file_refused _ _ c.in_err-flow.ensures c.args.cells.now) in
    search rules

pub returns-then-cells-flow : goal.returns-then-cells-flow
returns-then-cells-flow c =
    plain_refused c.args.file.now c.args.cells.now c.at.result
    (cells_refused c.in_ok-flow.ensures c.args.cells.now refl c.at.result c.at.ensures.rule c.at.ensures.place c.if-cells-flow.true)

pub invariant_of-tasks : goal.invariant_of-tasks
invariant_of-tasks c = record { ready = ready c.in_ok-flow.ensures refl _ refl }

pub returns : goal.returns
returns c = plain_done c.in_ok-flow.ensures c.args.cells.now refl _ c.if-cells-flow.false c.plain_tasks.ensures
