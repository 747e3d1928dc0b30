-- `telling::all_past` meets its contract: a worker that is not past the last task breaks the test of all, and all pass it where none is left.
use Rattle.std.proofs.Common.{refl, arith}
use Rattle.layout.specs.Lists.{each, all}
use Rattle.run.proofs.Finished.{some_left, one_more, none_left}
use Rattle.run.proofs.telling.all_past.Goals as goal

pub loop-w-init : goal.loop-w-init
unfolding each all
loop-w-init c = refl

pub returns-then-places-w : goal.returns-then-places-w
returns-then-places-w c = some_left c.args.tasks c.args.workers c.loop-w.w c.args.places.now (omega arith) c.if-places-w.true

pub loop-w-preserved : goal.loop-w-preserved
loop-w-preserved c = one_more c.args.tasks c.loop-w.w c.args.places.now c.loop-w.invariant c.if-places-w.false

pub returns : goal.returns
returns c = none_left c.args.tasks c.args.workers c.loop-w.w c.args.places.now (omega arith) (omega arith) c.loop-w.invariant
