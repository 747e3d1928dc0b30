-- The words of demand 3: which tasks name a cell, which are in conflict on it, and what the theorems
-- ask of a list of tasks, of the numbers of its tasks and of what operations do. An accepted flow has all of it.
use Rattle.std.specs.Prelude.{◌≡◌, Bool, true, false, ◌||◌, List, [], ℕ, ◌<◌, ◌≤◌, length, get_or}
use Rattle.layout.specs.Flow.{Operation, Task}
use Rattle.layout.specs.Row.{names, mode_of, may_write, reads_a, reads_b, named_once, access_in_range}
use Rattle.layout.specs.Lists.{all}
use Rattle.steps.specs.Operations.{Effect}

-- the task at an index of the list, from 0; past its end, one that does nothing
abbrev pub no_task : Task
no_task = record { owner = 0; accesses = []; operations = [] }

abbrev pub task_at : List Task → ℕ → Task
task_at tasks i = get_or tasks i no_task

abbrev pub no_operation : Operation
no_operation = record { code = 0; a = 0; b = 0; k = 0 }

abbrev pub operation_of : Task → ℕ → Operation
operation_of task i = get_or task.operations i no_operation

-- the task names the cell among its accesses
abbrev pub names_cell : Task → ℕ → Bool
names_cell task cell = names task.accesses cell

-- the task declares the cell written
abbrev pub declares_written : Task → ℕ → Bool
declares_written task cell = may_write (mode_of task.accesses cell)

-- "two tasks name one cell and one declares it written"
pub record Conflict (one other : Task) (cell : ℕ) : Type 0 where
  pub one_names : names_cell one cell ≡ true
  pub other_names : names_cell other cell ≡ true
  pub written : (declares_written one cell || declares_written other cell) ≡ true

-- what is asked of a task: an owner among the workers, an access at least, cells within range and named once, and operations that
-- write only cells that the task declares written and read only cells that it names
pub record Keeps (workers cells : ℕ) (task : Task) : Type 0 where
  pub owned : task.owner < workers
  pub some_access : 1 ≤ length task.accesses
  pub accesses_in_range : all (access_in_range cells) task.accesses ≡ true
  pub each_once : named_once task.accesses ≡ true
  pub writes : (i : ℕ) → i < length task.operations → declares_written task (operation_of task i).a ≡ true
  pub reads_named : (i : ℕ) → i < length task.operations → reads_b (operation_of task i).code ≡ true
      → names_cell task (operation_of task i).b ≡ true

-- every task of a list does
pub record AllKeep (workers cells : ℕ) (tasks : List Task) : Type 0 where
  pub each_task : (i : ℕ) → i < length tasks → Keeps workers cells (task_at tasks i)

-- the numbers tell the tasks in play apart, and from the start
pub record TellsApart (tasks : List Task) (number : ℕ → ℕ) : Type 0 where
  pub apart : (i j : ℕ) → i ≤ length tasks → j ≤ length tasks → number i ≡ number j → i ≡ j

-- what an operation does depends on cell a only where its code reads a
pub record ReadsOnlyA (does : Effect) : Type 0 where
  pub but_a : (o : Operation) (a a' b : ℕ) → reads_a o.code ≡ false → does o a b ≡ does o a' b

-- and on cell b only where it reads b
pub record ReadsOnlyB (does : Effect) : Type 0 where
  pub but_b : (o : Operation) (a b b' : ℕ) → reads_b o.code ≡ false → does o a b ≡ does o a b'
