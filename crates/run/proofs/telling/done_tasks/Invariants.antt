use Rattle.std.proofs.Common.{◌≤◌, []}
use Rattle.layout.specs.File.{tasks_in}
use Rattle.steps.specs.Run.{done_tasks}
use Rattle.arrays.specs.Arrays.{arrays, machine_of}
use Rattle.run.proofs.Done.{Counted}
use Rattle.run.proofs.telling.done_tasks.Given as goal

-- the tasks done so far, with those among the tasks left, are all done tasks
abbrev pub invariant-loop-index : goal.invariant-loop-index
invariant-loop-index l =
    let file = l.tasks.file.now in
    let all = tasks_in file l.tasks.count in
    record {
      few : l.done ≤ l.index;
      counted : Counted file l.tasks.count l.places (done_tasks all (machine_of all (arrays [] [] [] l.places))) l.index l.done;
    }
