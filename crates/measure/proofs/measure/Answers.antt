-- `measure` meets its contract: a refusal tells zeros, and an accepted file its total.
use Rattle.std.proofs.Common.{refl, rules}
use Rattle.file.proofs.Outcomes.{within}
use Rattle.arrays.proofs.Accepted.{ready}
use Rattle.measure.proofs.Measuring.{measure_refused, measure_done}
use Rattle.measure.proofs.measure.Goals as goal

pub returns-in_err-flow : goal.returns-in_err-flow
returns-in_err-flow c =
    let met = measure_refused _ _ c.in_err-flow.ensures in
    search rules

pub invariant_of-tasks : goal.invariant_of-tasks
invariant_of-tasks c = record { ready = ready c.in_ok-flow.ensures refl _ refl }

pub tasks_total-total-requires : goal.tasks_total-total-requires
tasks_total-total-requires c =
    let fits = within c.in_ok-flow.ensures refl in
    (fits.some_worker, fits.workers_fit)

pub returns : goal.returns
returns c = measure_done _ c.in_ok-flow.flow _ c.in_ok-flow.ensures c.tasks_total-total.ensures.0 c.tasks_total-total.ensures.1
