-- `scheduled::run` meets its contract: the refusals are asked for in their order, and an accepted schedule's steps give the counts and the cells.
use Rattle.std.proofs.Common.{refl, rules}
use Rattle.arrays.proofs.Accepted.{ready}
use Rattle.run.proofs.Outcomes.{file_refused, cells_refused, plain_passed_on, run_refused_lem, too_long, names_answer, names, run_done}
use Rattle.run.proofs.scheduled.run.Goals as goal

pub returns-in_err-flow : goal.returns-in_err-flow
returns-in_err-flow c =
    let a = c.args in
    let met = run_refused_lem _ a.cells.now a.schedule.now _ (plain_passed_on _ _ a.schedule.now _ (file_refused _ _ c.in_err-flow.ensures a.cells.now)) in
    search rules

pub returns-then-cells-flow : goal.returns-then-cells-flow
returns-then-cells-flow c =
    let a = c.args in
    run_refused_lem a.file.now a.cells.now a.schedule.now c.at.result
    (plain_passed_on _ _ a.schedule.now c.at.result
    (cells_refused c.in_ok-flow.ensures a.cells.now refl c.at.result c.at.ensures.rule c.at.ensures.place c.if-cells-flow.true))

pub returns-then-schedule-gt-MAX_SCHEDULE : goal.returns-then-schedule-gt-MAX_SCHEDULE
returns-then-schedule-gt-MAX_SCHEDULE c =
    let a = c.args in
    run_refused_lem a.file.now a.cells.now a.schedule.now c.at-then-schedule-gt-MAX_SCHEDULE.result
    (too_long c.in_ok-flow.ensures refl a.cells.now c.if-cells-flow.false a.schedule.now c.at-then-schedule-gt-MAX_SCHEDULE.result c.at-then-schedule-gt-MAX_SCHEDULE.ensures.rule c.at-then-schedule-gt-MAX_SCHEDULE.ensures.place c.if-schedule-gt-MAX_SCHEDULE.true)

pub returns-in_err-check_schedule : goal.returns-in_err-check_schedule
returns-in_err-check_schedule c =
    let a = c.args in
    let met = run_refused_lem a.file.now a.cells.now a.schedule.now _
    (names_answer c.in_ok-flow.ensures refl a.cells.now c.if-cells-flow.false a.schedule.now c.if-schedule-gt-MAX_SCHEDULE.false _ c.in_err-check_schedule.ensures) in
    search rules

pub invariant_of-tasks : goal.invariant_of-tasks
invariant_of-tasks c = record { ready = ready c.in_ok-flow.ensures refl _ refl }

pub walk-requires-clause-names : goal.walk-requires-clause-names
walk-requires-clause-names c =
    let a = c.args in
    names c.in_ok-flow.ensures refl a.cells.now c.if-cells-flow.false a.schedule.now c.if-schedule-gt-MAX_SCHEDULE.false c.in_ok-check_schedule.ensures

pub returns : goal.returns
returns c =
    let a = c.args in
    run_done c.in_ok-flow.ensures refl a.cells.now c.if-cells-flow.false a.schedule.now c.if-schedule-gt-MAX_SCHEDULE.false c.in_ok-check_schedule.ensures _ _ c.walk.ensures
