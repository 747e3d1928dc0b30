-- `telling::done_tasks` meets its contract: a task is counted where its owner has gone past it.
use Rattle.std.proofs.Common.{List, ℕ, get_or, ap, ◌∙◌, arith}
use Rattle.run.proofs.Done.{one_done, one_left, all_counted}
use Rattle.run.proofs.telling.done_tasks.Goals as goal
use Rattle.run.proofs.telling.done_tasks.Goals.{then-index-places, else-index-places}

pub loop-index-preserved : goal.loop-index-preserved
loop-index-preserved c =
    let tasks = c.args.tasks.now in
    let places = c.args.places.now in
    let l = c.loop-index in
    let owner = c.from-owner.ensures ∙ ap (λ (row : List ℕ). get_or row 0 0) c.row_of.ensures in
    record {
      few = elim c.if-index-places.branch [ then-index-places w ↦ omega arith | else-index-places w ↦ omega arith ];
      counted =
          elim c.if-index-places.branch [
            | then-index-places w ↦ one_done tasks.file.now tasks.count places l.index c.from-owner.result l.done _ _ (omega arith) owner l.invariant.counted w.if-index-places.true w.done-is
            | else-index-places w ↦ one_left tasks.file.now tasks.count places l.index c.from-owner.result l.done _ _ (omega arith) owner l.invariant.counted w.if-index-places.false w.done-is
          ];
    }

pub returns : goal.returns
returns c =
    let tasks = c.args.tasks.now in
    let l = c.loop-index in
    all_counted tasks.file.now tasks.count c.args.places.now l.index l.done _ (omega arith) l.invariant.counted
