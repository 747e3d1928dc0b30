use Rattle.std.proofs.Common.{◌≡◌, ◌+◌, ◌*◌, ◌≤◌, drop}
use Rattle.layout.specs.File.{tasks_in}
use Rattle.steps.specs.Run.{total_of, most_of_task}
use Rattle.measure.proofs.tasks_total.Given as goal

-- the total so far and that of the tasks left is that of all
abbrev pub invariant-loop-done : goal.invariant-loop-done
invariant-loop-done l =
    let all = tasks_in l.tasks.file.now l.tasks.count in
    record {
      few : l.total ≤ most_of_task * l.done;
      whole : total_of l.workers all ≡ l.total + total_of l.workers (drop l.done all);
    }
