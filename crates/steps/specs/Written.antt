-- A declared write is made (02, Q-6). Each task of an accepted flow writes the cells that it declares write only; so whoever reads such a
-- cell later reads what that task left there, and not "old contents". `proofs/Written.antt` proves it of every accepted flow, every start
-- and every schedule of any length.
use Rattle.std.specs.Prelude.{◌≡◌, Bool, true, false, List, [], ◌∷◌, ℕ, ◌+◌, ◌-◌, ◌<◌, ◌≤◌, length, get_or, take, eqb}
use Rattle.layout.specs.Flow.{Task}
use Rattle.layout.specs.Row.{mode_of, written}
use Rattle.steps.specs.Operations.{Effect}
use Rattle.steps.specs.Plain.{after_operations, after_tasks}
use Rattle.steps.specs.Step.{Setting}
use Rattle.steps.specs.Run.{run, finished}
use Rattle.steps.specs.History.{made, made_by}
use Rattle.steps.specs.Conflict.{operation_of, names_cell, declares_written}
use Rattle.steps.specs.Demand.{numbered, readable}

-- the task declares the cell write only: it is "a mode 2 cell"
abbrev pub write_only : Task → ℕ → Bool
write_only task cell = eqb (mode_of task.accesses cell) 2

-- the task has an operation that writes the cell
pub record WrittenBy (task : Task) (cell : ℕ) : Type 0 where
  pub index : ℕ
  pub is_operation : index < length task.operations
  pub writes : (operation_of task index).a ≡ cell

-- what a task leaves in the cells: its operations made, after the tasks before it
unfoldable pub left_by : Setting → List ℕ → ℕ → List ℕ
left_by s cells task =
    after_operations s.does (numbered s task).operations (after_tasks s.does (take (task - 1) s.tasks) cells)

-- no task after one and before another declares the cell written
abbrev pub NoneBetween : Setting → ℕ → ℕ → ℕ → Type 0
NoneBetween s first last cell = (task : ℕ) → first < task → task < last → declares_written (numbered s task) cell ≡ false

-- ---- the statements

-- what a task leaves in the cell is its own work: it is the same for any two contents of the cells, as many each, that agree on those which the task
-- declares readable at its first operation. What a write only cell held is of no account
abbrev pub OwnWork : Effect → Task → ℕ → Type 0
OwnWork does task cell =
    (one other : List ℕ) → length one ≡ length other
    → ((c : ℕ) → readable task 0 c ≡ true → get_or one c 0 ≡ get_or other c 0)
    → get_or (after_operations does task.operations one) cell 0 ≡ get_or (after_operations does task.operations other) cell 0

-- whoever reads the cell later: a later task that names it, at an operation before which it has not written the cell itself; and whoever looks at the cells
-- of a finished run. Each finds what the writer left, unless a task between them declares the cell written
pub record FoundAsLeft (s : Setting) (workers : ℕ) (cells schedule : List ℕ) (writer cell : ℕ) : Type 0 where
  pub by_a_task : (reader : ℕ) → writer < reader → reader ≤ length s.tasks → names_cell (numbered s reader) cell ≡ true
      → NoneBetween s writer reader cell
      → (w index : ℕ) → made_by s (run s cells schedule).machine w ≡ made reader index ∷ []
      → written (take index (numbered s reader).operations) cell ≡ false
      → get_or (run s cells schedule).machine.cells cell 0 ≡ get_or (left_by s cells writer) cell 0
  pub at_the_end : NoneBetween s writer (length s.tasks + 1) cell
      → finished workers s.tasks (run s cells schedule).machine ≡ true
      → get_or (run s cells schedule).machine.cells cell 0 ≡ get_or (left_by s cells writer) cell 0

pub record WriteMade (s : Setting) (workers : ℕ) (cells schedule : List ℕ) (writer cell : ℕ) : Type 0 where
  pub is_written : WrittenBy (numbered s writer) cell
  pub own_work : OwnWork s.does (numbered s writer) cell
  pub found_as_left : FoundAsLeft s workers cells schedule writer cell
