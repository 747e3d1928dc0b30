-- When a task is done (02, Q-3), said of the steps that a schedule makes, and what that means for the other workers. `proofs/Done.antt` proves it of every
-- accepted flow, every start and every schedule of any length.
use Rattle.std.specs.Prelude.{◌≡◌, Bool, true, cond, ◌↔◌, List, [], ◌∷◌, ℕ, ◌-◌, ◌<◌, length, get_or, take, drop}
use Rattle.layout.specs.Flow.{Access, Task}
use Rattle.steps.specs.Machine.{Machine}
use Rattle.steps.specs.Step.{Setting, Try, end_read, post_write, writes, own_steps, advanced, step}
use Rattle.steps.specs.Run.{run, is_done, done_tasks, finished}
use Rattle.steps.specs.Conflict.{task_at, Conflict}

-- ---- the last end of the last access

abbrev pub no_access : Access
no_access = record { cell = 0; mode = 0 }

abbrev pub last_access : Task → Access
last_access task = get_or task.accesses (length task.accesses - 1) no_access

-- a read has one end, and a write's second posts its last write
abbrev pub last_end : Access → Try
last_end access = cond (writes access) (post_write access.cell) (end_read access.cell)

-- a named worker's step makes the last end of the last access of the task at an index: the worker owns the task and stands at it, this end is all that is left
-- of the task's own steps, and the step advances
pub record MakesLastEnd (s : Setting) (m : Machine) (w index : ℕ) : Type 0 where
  pub owns : (task_at s.tasks index).owner ≡ w
  pub at_task : (m.places w).passed ≡ index
  pub left : drop (m.places w).made (own_steps (task_at s.tasks index)) ≡ last_end (last_access (task_at s.tasks index)) ∷ []
  pub advances : (step s m w).outcome ≡ advanced

-- ---- the statements

-- the task at an index is done, as the run's count has it
abbrev pub done : Setting → Machine → ℕ → Bool
done s m index = is_done index (m.places (task_at s.tasks index).owner)

-- "A task is done once the last end of its last access has been made": exactly where a byte of the schedule has made it
abbrev pub DoneOnce : Setting → List ℕ → List ℕ → Type 0
DoneOnce s cells schedule =
    (index : ℕ) → index < length s.tasks
    → (done s (run s cells schedule).machine index ≡ true)
    ↔ ((k : ℕ) × (k < length schedule) × MakesLastEnd s (run s cells (take k schedule)).machine (get_or schedule k 0) index)

-- "reports task 1 as done while no other core may use its cell" comes no more: a worker at a task of its own advances, if named next, where all earlier tasks in
-- conflict with it are done
abbrev pub HoldsNobody : Setting → Machine → Type 0
HoldsNobody s m =
    (w : ℕ) → (m.places w).passed < length s.tasks → (task_at s.tasks (m.places w).passed).owner ≡ w
    → ((earlier cell : ℕ) → earlier < (m.places w).passed
    → Conflict (task_at s.tasks earlier) (task_at s.tasks (m.places w).passed) cell
    → done s m earlier ≡ true)
    → (step s m w).outcome ≡ advanced

pub record Done (s : Setting) (workers : ℕ) (cells schedule : List ℕ) : Type 0 where
  pub once : DoneOnce s cells schedule
  pub holds_nobody : HoldsNobody s (run s cells schedule).machine
  -- a run that has finished reports all tasks as done
  pub all_done : finished workers s.tasks (run s cells schedule).machine ≡ true
      → done_tasks s.tasks (run s cells schedule).machine ≡ length s.tasks
