use Rattle.std.proofs.Common.{◌≡◌, length, drop}
use Rattle.layout.specs.Row.{task_of}
use Rattle.steps.specs.Operations.{effect}
use Rattle.steps.specs.Plain.{after_operations}
use Rattle.run.proofs.plainly.plain_task.Given as goal

-- the operations left, made on the cells as they are, give what all give on the cells as they were
abbrev pub invariant-loop-index : goal.invariant-loop-index
invariant-loop-index l =
    let all = (task_of l.row).operations in
    record {
      sized : length l.cells ≡ length l.initial.cells;
      left : after_operations (effect l.version) all l.initial.cells ≡ after_operations (effect l.version) (drop l.index all) l.cells;
    }
