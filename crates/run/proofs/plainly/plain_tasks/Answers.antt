-- `plainly::plain_tasks` meets its contract: each task leaves what those left give, and at the end none is left.
use Rattle.std.proofs.Common.{List, ℕ, ◌+◌, drop, sym, ap, ◌∙◌, arith, rules}
use Rattle.layout.specs.Row.{task_of}
use Rattle.layout.specs.File.{row_at, tasks_in}
use Rattle.steps.specs.Operations.{effect}
use Rattle.steps.specs.Plain.{after_operations, after_tasks}
use Rattle.run.proofs.OneByOne.{task_next, tasks_end}
use Rattle.run.proofs.plainly.plain_tasks.Goals as goal

pub loop-done-preserved : goal.loop-done-preserved
loop-done-preserved c =
    let tasks = c.args.tasks.now in
    let l = c.loop-done in
    let made = c.plain_task.ensures ∙ ap (λ (row : List ℕ). after_operations (effect tasks.version) (task_of row).operations l.cells) c.row_of.ensures in
    record {
      sized = search rules;
      left =
          task_next (effect tasks.version) tasks.count (λ i. task_of (row_at tasks.file.now (i + 1))) l.done _ l.cells (omega arith) l.invariant.left
          ∙ ap (after_tasks (effect tasks.version) (drop (l.done + 1) (tasks_in tasks.file.now tasks.count))) (sym made);
    }

pub returns : goal.returns
returns c =
    let tasks = c.args.tasks.now in
    let l = c.loop-done in
    tasks_end (effect tasks.version) tasks.count (λ i. task_of (row_at tasks.file.now (i + 1))) l.done _ l.cells (omega arith) l.invariant.left
