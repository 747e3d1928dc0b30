-- Demand 3, in five statements over a setting (tasks, their numbers, what operations do), a number of workers, starting cells and a
-- schedule. `proofs/Theorems.antt` proves them of every accepted flow, every start and every schedule of any length.
use Rattle.std.specs.Prelude.{◌≡◌, Bool, true, ◌↔◌, List, [], ◌∷◌, ℕ, ◌-◌, ◌<◌, ◌≤◌, length, get_or, take}
use Rattle.layout.specs.Flow.{Task}
use Rattle.layout.specs.Row.{mode_of, may_read, written, keeps_modes}
use Rattle.layout.specs.File.{file_answer, flow_of}
use Rattle.steps.specs.Machine.{Machine, fresh, with_cells}
use Rattle.steps.specs.Plain.{after_tasks}
use Rattle.steps.specs.Step.{Setting, advanced, step}
use Rattle.steps.specs.Run.{run, Names, finished, total_of}
use Rattle.steps.specs.History.{Entry, made, made_by, history_from}
use Rattle.steps.specs.Conflict.{task_at, operation_of, declares_written, Conflict, ReadsOnlyA}

-- ---- what is given

-- an accepted file, as many starting cells as the flow's, and a schedule of any length whose bytes are below workers
pub record Given (file cells schedule : List ℕ) : Type 0 where
  pub accepted : (file_answer file).number ≡ 0
  pub start : length cells ≡ (flow_of file).cells
  pub names : Names (flow_of file).workers schedule

-- ---- the history

-- the history of a run: the operations in the order in which the schedule made them
abbrev pub history : Setting → List ℕ → List ℕ → List Entry
history s cells schedule = history_from s (fresh (s.number 0) cells) schedule

-- the task of a number from 1
abbrev pub numbered : Setting → ℕ → Task
numbered s task = task_at s.tasks (task - 1)

-- an entry of the history, past its end one of no task
abbrev pub entry : List Entry → ℕ → Entry
entry entries k = get_or entries k (made 0 0)

-- ---- the five statements

-- a. "no operation touches a cell its task didn't declare": each operation of the history is one of its task, and it writes and reads
-- within the modes that its task declares, after the operations of the task before it
pub record Declared (s : Setting) (e : Entry) : Type 0 where
  pub is_task : (1 ≤ e.task) × (e.task ≤ length s.tasks)
  pub is_operation : e.index < length (numbered s e.task).operations
  pub within_modes : keeps_modes (numbered s e.task).accesses (take e.index (numbered s e.task).operations)
      (operation_of (numbered s e.task) e.index)
      ≡ true

abbrev pub OnlyDeclared : Setting → List Entry → Type 0
OnlyDeclared s entries = (k : ℕ) → k < length entries → Declared s (entry entries k)

-- the cells that a task declares readable at its operation of an index: of mode 1 or 3, or of mode 2 where an operation before it wrote them
abbrev pub readable : Task → ℕ → ℕ → Bool
readable task index cell = may_read (mode_of task.accesses cell) (written (take index task.operations) cell)

-- a. said of the cells: a named worker's step that makes an operation changes no cell but one that its task declares written, and what it writes
-- there is the same for any two contents of the cells, as many each, that agree on those that its task declares readable at that point
pub record Touches (s : Setting) (m : Machine) (w : ℕ) (e : Entry) : Type 0 where
  pub cell : ℕ
  pub is_declared : declares_written (numbered s e.task) cell ≡ true
  pub as_many : length (step s m w).machine.cells ≡ length m.cells
  pub others_stay : (c : ℕ) → (c ≡ cell → ⊥) → get_or (step s m w).machine.cells c 0 ≡ get_or m.cells c 0
  pub same_written : (one other : List ℕ) → length one ≡ length other
      → ((c : ℕ) → readable (numbered s e.task) e.index c ≡ true → get_or one c 0 ≡ get_or other c 0)
      → get_or (step s (with_cells m one) w).machine.cells cell 0 ≡ get_or (step s (with_cells m other) w).machine.cells cell 0

-- the next step of any worker: one that makes an operation touches so, and one that makes none changes no cell
pub record OnlyTouched (s : Setting) (m : Machine) : Type 0 where
  pub making : (w : ℕ) (e : Entry) → made_by s m w ≡ e ∷ [] → Touches s m w e
  pub making_none : (w : ℕ) → made_by s m w ≡ [] → (step s m w).machine.cells ≡ m.cells

-- b. "where two tasks name one cell and one declares it written, no operation of the later is made before all operations of the
-- earlier": every operation of the earlier stands in the history before any of the later
abbrev pub InOrder : Setting → List Entry → Type 0
InOrder s entries =
    (earlier later cell : ℕ) → 1 ≤ earlier → earlier < later → later ≤ length s.tasks
    → Conflict (numbered s earlier) (numbered s later) cell
    → (k : ℕ) → k < length entries → (entry entries k).task ≡ later
    → (index : ℕ) → index < length (numbered s earlier).operations
    → (before : ℕ) × (before < k) × (entry entries before ≡ made earlier index)

-- c. "while a worker has tasks left, some worker's step, if named next, advances"
abbrev pub Progress : Setting → ℕ → Machine → Type 0
Progress s workers m =
    (left : ℕ) → left < workers → (m.places left).passed < length s.tasks
    → (w : ℕ) × (w < workers) × ((step s m w).outcome ≡ advanced)

-- d. "the advancing steps never exceed the total worked out from the flow alone, the run has finished exactly when they equal it"
pub record Total (s : Setting) (workers : ℕ) (cells schedule : List ℕ) : Type 0 where
  pub at_most : (run s cells schedule).advanced ≤ total_of workers s.tasks
  pub exactly : (finished workers s.tasks (run s cells schedule).machine ≡ true)
      ↔ ((run s cells schedule).advanced ≡ total_of workers s.tasks)

-- e. "and then every cell holds what doing the tasks one after another gives"
abbrev pub Values : Setting → ℕ → List ℕ → List ℕ → Type 0
Values s workers cells schedule =
    finished workers s.tasks (run s cells schedule).machine ≡ true
    → (run s cells schedule).machine.cells ≡ after_tasks s.does s.tasks cells

pub record Demand3 (s : Setting) (workers : ℕ) (cells schedule : List ℕ) : Type 0 where
  pub declared : OnlyDeclared s (history s cells schedule)
  -- (of operations that read cell a only where their code says so; 01's do, and no other statement asks it)
  pub touched : ReadsOnlyA s.does → OnlyTouched s (run s cells schedule).machine
  pub in_order : InOrder s (history s cells schedule)
  pub progress : Progress s workers (run s cells schedule).machine
  pub total : Total s workers cells schedule
  pub values : Values s workers cells schedule
