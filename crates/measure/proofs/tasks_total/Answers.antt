-- `tasks_total` meets its contract: the sum is whole where no task is left.
use Rattle.std.proofs.Common.{◌+◌, List, ℕ, get_or, ap, ◌∙◌, arith}
use Rattle.layout.specs.Row.{task_of}
use Rattle.layout.specs.File.{row_at}
use Rattle.measure.proofs.Sums.{row_next, task_end}
use Rattle.measure.proofs.tasks_total.Goals as goal

pub loop-done-preserved : goal.loop-done-preserved
loop-done-preserved c =
    let tasks = c.args.tasks.now in
    let l = c.loop-done in
    let fits = tasks.ready.rows (l.done + 1) (omega arith) (omega arith) in
    record {
      few = omega (arith, fits.few_operations, c.from.ensures ∙ ap (λ (row : List ℕ). get_or row 2 0) c.row_of-row.ensures);
      whole = row_next tasks.file.now _ c.args.workers tasks.count l.done l.total _ _ (omega arith) c.row_of-row.ensures c.access_steps.ensures.0 c.from.ensures l.invariant.whole;
    }

pub returns : goal.returns
returns c =
    let tasks = c.args.tasks.now in
    let l = c.loop-done in
    (task_end c.args.workers tasks.count (λ i. task_of (row_at tasks.file.now (i + 1))) l.done l.total _ (omega arith) l.invariant.whole, omega arith)
