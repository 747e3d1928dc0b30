use Rattle.std.proofs.Common.{◌≡◌, length, drop}
use Rattle.layout.specs.File.{tasks_in}
use Rattle.steps.specs.Operations.{effect}
use Rattle.steps.specs.Plain.{after_tasks}
use Rattle.run.proofs.plainly.plain_tasks.Given as goal

-- the tasks left, done on the cells as they are, give what all give on the cells as they were
abbrev pub invariant-loop-done : goal.invariant-loop-done
invariant-loop-done l =
    let all = tasks_in l.tasks.file.now l.tasks.count in
    record {
      sized : length l.cells ≡ length l.initial.cells;
      left : after_tasks (effect l.tasks.version) all l.initial.cells ≡ after_tasks (effect l.tasks.version) (drop l.done all) l.cells;
    }
