-- `run` meets its contract: the run is made under the schedule that names all workers in turn, the total times over, and so it has finished.
use Rattle.std.proofs.Common.{Result, sym, subst, arith}
use lib.Seq.{length-take-le}
use Rattle.refusal.specs.declared.Refusal.{Refusal}
use Rattle.steps.proofs.Largest.{workers_fit, total_fits}
use Rattle.run.specs.declared.Ran.{Ran}
use Rattle.run.specs.Answers.{answer_by}
use Rattle.in_turn.specs.Promises.{InTurnPromise}
use Rattle.in_turn.proofs.InTurn.{few_steps, in_turn_promised, never_refused, has_finished}
use Rattle.in_turn.proofs.run.Goals as goal

pub name_workers-steps-requires : goal.name_workers-steps-requires
name_workers-steps-requires c =
    let measured = c.requires.measures in
    (omega (arith, workers_fit _ measured.accepted), omega (arith, total_fits _ measured.accepted), c.requires.room)

pub slice_bounds-run-end : goal.slice_bounds-run-end
slice_bounds-run-end c = omega (arith, few_steps c.requires.measures)

pub slice_bounds-run-end-2 : goal.slice_bounds-run-end-2
slice_bounds-run-end-2 c = sym (length-take-le _ _ (slice_bounds-run-end c))

pub unwrap-requires : goal.unwrap-requires
unwrap-requires c =
    never_refused c.args.file.now c.args.cells.now c.run.result c.run.new.cells
    (in_turn_promised c.requires.measures _ (answer_by c.run.result) c.run.new.cells c.name_workers-steps.ensures.1 c.run.ensures)

pub returns-clause-promised : goal.returns-clause-promised
returns-clause-promised c =
    subst (λ (r : Result Ran Refusal). InTurnPromise c.args.file.now c.args.cells.now (answer_by r) c.run.new.cells) c.unwrap.ensures
    (in_turn_promised c.requires.measures _ (answer_by c.run.result) c.run.new.cells c.name_workers-steps.ensures.1 c.run.ensures)

pub returns-clause-finishes : goal.returns-clause-finishes
returns-clause-finishes c = has_finished c.args.file.now c.args.cells.now c.unwrap.result c.run.new.cells (returns-clause-promised c)
