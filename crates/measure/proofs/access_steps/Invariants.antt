use Rattle.std.proofs.Common.{◌≡◌, ◌+◌, ◌*◌, ◌≤◌, drop}
use Rattle.layout.specs.Row.{task_of}
use Rattle.steps.specs.Run.{access_steps}
use Rattle.measure.proofs.access_steps.Given as goal

-- the steps so far and those of the accesses left are those of all
abbrev pub invariant-loop-index : goal.invariant-loop-index
invariant-loop-index l =
    record {
      few : l.steps ≤ 4 * l.index;
      whole : access_steps (task_of l.row).accesses ≡ l.steps + access_steps (drop l.index (task_of l.row).accesses);
    }
