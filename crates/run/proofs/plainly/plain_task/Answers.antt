-- `plainly::plain_task` meets its contract: each operation leaves what those left give, and at the end none is left.
use Rattle.std.proofs.Common.{◌+◌, get_or, drop, sym, ap, ◌∙◌, arith, rules}
use Rattle.layout.specs.Row.{task_of, operation_at}
use Rattle.steps.specs.Operations.{effect}
use Rattle.steps.specs.Plain.{after_operations}
use Rattle.run.proofs.OneByOne.{operation_next, operations_end}
use Rattle.run.proofs.plainly.plain_task.Goals as goal

pub loop-index-preserved : goal.loop-index-preserved
unfolding task_of
loop-index-preserved c =
    let row = c.args.row.now in
    let l = c.loop-index in
    record {
      sized = search rules;
      left =
          operation_next (effect c.args.version) (get_or row 2 0) (operation_at row) l.index _ l.cells (omega arith) l.invariant.left
          ∙ ap (after_operations (effect c.args.version) (drop (l.index + 1) (task_of row).operations)) (sym c.operate.ensures);
    }

pub returns : goal.returns
unfolding task_of
returns c =
    let row = c.args.row.now in
    let l = c.loop-index in
    operations_end (effect c.args.version) (get_or row 2 0) (operation_at row) l.index _ l.cells (omega arith) l.invariant.left
