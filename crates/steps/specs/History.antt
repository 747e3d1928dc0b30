-- The history of a run: the operations in the order in which the schedule made them, each as its task and its index in the task.
-- It is read off the steps: a step makes an operation where the worker's next own step is one.
use Rattle.std.specs.Prelude.{cond, List, [], ◌∷◌, ◌++◌, ℕ, ◌+◌, ◌-◌, length, drop, eqb}
use Rattle.layout.specs.Flow.{Task}
use Rattle.steps.specs.Operations.{operated}
use Rattle.steps.specs.Conflict.{task_at, operation_of}
use Rattle.steps.specs.Machine.{Place, Machine}
use Rattle.steps.specs.Step.{Setting, Try, wait_write, wait_reads, operate, end_read, zero_reads, post_write, waits, of_each, own_steps, step}

-- an operation that was made: the task, from 1 in list order, and the operation's index in it, from 0
pub record Entry : Type 0 where
  pub task : ℕ
  pub index : ℕ

abbrev pub made : ℕ → ℕ → Entry
made task index = record { task = task; index = index }

-- the operation among a task's own steps from a place on, if one is next
unfoldable pub next_operation : Task → Place → List Try → List Entry
next_operation task at [] = []
next_operation task at (wait_write c ∷ later) = []
next_operation task at (wait_reads c ∷ later) = []
next_operation task at (operate o ∷ later) = made (at.passed + 1) (at.made - length (of_each waits task.accesses)) ∷ []
next_operation task at (end_read c ∷ later) = []
next_operation task at (zero_reads c ∷ later) = []
next_operation task at (post_write c ∷ later) = []

-- the same among the tasks from the worker's place on: an operation of its own task, none of another's
unfoldable pub made_from : Machine → ℕ → List Task → List Entry
made_from m w [] = []
made_from m w (task ∷ later) =
    cond (eqb task.owner w) (next_operation task (m.places w) (drop (m.places w).made (own_steps task))) []

-- the operation that a named worker's step makes, if it makes one
abbrev pub made_by : Setting → Machine → ℕ → List Entry
made_by s m w = made_from m w (drop (m.places w).passed s.tasks)

-- the operations that a schedule makes, from a machine on
unfoldable pub history_from : Setting → Machine → List ℕ → List Entry
history_from s m [] = []
history_from s m (w ∷ schedule) = made_by s m w ++ history_from s (step s m w).machine schedule

-- the cells after the operations of a history, one after another
unfoldable pub after_history : Setting → List Entry → List ℕ → List ℕ
after_history s [] cells = cells
after_history s (e ∷ entries) cells =
    after_history s entries (operated s.does (operation_of (task_at s.tasks (e.task - 1)) e.index) cells)
