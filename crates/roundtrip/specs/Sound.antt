-- What holds of a flow that a file is accepted as (01, "What is built", and refusals 3, 4, 6 to 11, 17 and 18), said of the flow alone: no
-- byte is named.
use Rattle.std.specs.Prelude.{◌≡◌, true, ℕ, ◌<◌, ◌≤◌, length, get_or}
use Rattle.layout.specs.Lists.{all}
use Rattle.layout.specs.Flow.{Task, Flow, known_version, most_accesses, most_operations, WithinLimits}
use Rattle.layout.specs.Row.{access_in_range, named_once, operation_in_range, retirement_kept, retired_in_reader, modes_sound, writes_made}

-- a task of a flow of this version with so many workers and cells
pub record TaskSound (version workers cells : ℕ) (task : Task) : Type 0 where
  pub owned : task.owner < workers
  pub some_access : 1 ≤ length task.accesses
  pub accesses_fit : length task.accesses ≤ most_accesses
  pub operations_fit : length task.operations ≤ most_operations
  pub accesses_in_range : all (access_in_range cells) task.accesses ≡ true
  pub each_once : named_once task.accesses ≡ true
  pub operations_in_range : all (operation_in_range cells) task.operations ≡ true
  pub keeps_retirement : retirement_kept (retired_in_reader version) task ≡ true
  pub modes_kept : modes_sound task ≡ true
  pub all_written : writes_made task ≡ true

pub record Sound (flow : Flow) : Type 0 where
  pub known : known_version flow.version ≡ true
  pub sizes : WithinLimits (length flow.tasks) flow.workers flow.cells
  -- the task at each index below their number, whatever stands for a task past the end
  pub each_task : (i : ℕ) (none : Task) → i < length flow.tasks
      → TaskSound flow.version flow.workers flow.cells (get_or flow.tasks i none)
