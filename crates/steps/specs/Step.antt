-- One step of a named worker (01, "The steps"; RR-9450, Algorithm 2): what it tries, when it is held, and what it changes. It is
-- stated over any list of tasks, any numbering of them and any effect of an operation.
use Rattle.std.specs.Prelude.{Bool, cond, ◌||◌, List, [], ◌∷◌, ◌++◌, map, ℕ, ◌+◌, length, drop, eqb, ltb}
use Rattle.layout.specs.Flow.{Access, Operation, Task}
use Rattle.steps.specs.Operations.{Effect, operated}
use Rattle.steps.specs.Machine.{Counter, Place, Machine, put, counter, place, with_cells, with_shared, with_row, with_place}

-- what stays the same through a run: the tasks in list order, the number of the first, second, .. task in the counters (`number 0`
-- is what the counters start at), and what operations do
pub record Setting : Type 0 where
  pub tasks : List Task
  pub number : ℕ → ℕ
  pub does : Effect

-- ---- a task's own steps

-- a wait for the last write or for the reads of a cell, an operation, the end of a read, and the two ends of a write: its shared reads set to 0,
-- and its last write posted
pub data Try : Type 0 where
  wait_write : ℕ → Try
  wait_reads : ℕ → Try
  operate : Operation → Try
  end_read : ℕ → Try
  zero_reads : ℕ → Try
  post_write : ℕ → Try

-- "Modes 2 and 3 count as a write"
abbrev pub writes : Access → Bool
writes access = eqb access.mode 2 || eqb access.mode 3

-- "A read: one step, passing if private and shared last write are equal. A write: that step, then a second, passing if private and
-- shared reads are equal"
abbrev pub waits : Access → List Try
waits access = cond (writes access) (wait_write access.cell ∷ wait_reads access.cell ∷ []) (wait_write access.cell ∷ [])

-- "A read: one step, 1 added to shared and private reads. A write: one step sets shared reads to 0; a second sets shared last write
-- to this task and makes the private update"
abbrev pub ends : Access → List Try
ends access = cond (writes access) (zero_reads access.cell ∷ post_write access.cell ∷ []) (end_read access.cell ∷ [])

-- the steps of each access, by access in listed order
unfoldable pub of_each : (Access → List Try) → List Access → List Try
of_each steps [] = []
of_each steps (access ∷ accesses) = steps access ++ of_each steps accesses

-- "waits, by access in listed order", "Then each operation, one step each", "Then the ends, by access in listed order"
unfoldable pub own_steps : Task → List Try
own_steps task =
    of_each waits task.accesses ++ (map operate task.operations ++ of_each ends task.accesses)

-- ---- when a step is held

-- a step advances, or it is held and says why: the worker is past the last task, or a cell's last writes or reads differ
pub data Outcome : Type 0 where
  advanced : Outcome
  past_last : Outcome
  write_differs : ℕ → Outcome
  reads_differ : ℕ → Outcome

-- "A wait that doesn't pass is held"; "Every other step advances"
unfoldable pub outcome : Machine → ℕ → Try → Outcome
outcome m w (wait_write c) = cond (eqb (m.private w c).last_write (m.shared c).last_write) advanced (write_differs c)
outcome m w (wait_reads c) = cond (eqb (m.private w c).reads (m.shared c).reads) advanced (reads_differ c)
outcome m w (operate o) = advanced
outcome m w (end_read c) = advanced
outcome m w (zero_reads c) = advanced
outcome m w (post_write c) = advanced

-- ---- what an advancing step changes

-- "a read adds 1 to reads"
abbrev pub after_read : Counter → Counter
after_read before = counter before.last_write (before.reads + 1)

-- "a write sets reads to 0 and last write to this task's number"
abbrev pub registered : ℕ → Access → Counter → Counter
registered number access before = cond (writes access) (counter number 0) (after_read before)

-- "For each access in its private row"
unfoldable pub register_all : ℕ → List Access → (ℕ → Counter) → ℕ → Counter
register_all number [] row = row
register_all number (access ∷ accesses) row =
    register_all number accesses (put row access.cell (registered number access (row access.cell)))

-- what an own step changes but for the place; `number` is the task's
unfoldable pub change : Effect → ℕ → Machine → ℕ → Try → Machine
change does number m w (wait_write c) = m
change does number m w (wait_reads c) = m
change does number m w (operate o) = with_cells m (operated does o m.cells)
change does number m w (end_read c) =
    with_row (with_shared m c (after_read (m.shared c))) w (put (m.private w) c (after_read (m.private w c)))
change does number m w (zero_reads c) = with_shared m c (counter (m.shared c).last_write 0)
change does number m w (post_write c) =
    with_row (with_shared m c (counter number (m.shared c).reads)) w (put (m.private w) c (counter number 0))

-- "After the last one it goes to the next task"
abbrev pub moved : Task → Place → Place
moved task before =
    cond (ltb (before.made + 1) (length (own_steps task))) (place before.passed (before.made + 1)) (place (before.passed + 1) 0)

-- ---- the step

pub record Stepped : Type 0 where
  pub outcome : Outcome
  pub machine : Machine

abbrev pub stepped : Outcome → Machine → Stepped
stepped why m = record { outcome = why; machine = m }

-- an own step is made unless it is held
unfoldable pub attempted : Outcome → Machine → Machine → Stepped
attempted advanced before after = stepped advanced after
attempted past_last before after = stepped past_last before
attempted (write_differs c) before after = stepped (write_differs c) before
attempted (reads_differ c) before after = stepped (reads_differ c) before

-- the owner's next own step. (A task without access or operation would have none: it is gone past)
unfoldable pub own_step : Setting → Machine → ℕ → Task → List Try → Stepped
own_step s m w task [] = stepped advanced (with_place m w (place ((m.places w).passed + 1) 0))
own_step s m w task (try ∷ later) =
    attempted (outcome m w try) m
    (with_place (change s.does (s.number ((m.places w).passed + 1)) m w try) w (moved task (m.places w)))

-- "Task of another owner: one step. For each access in its private row ..": the accesses are registered. "Then it goes to the next task"
abbrev pub other_step : Setting → Machine → ℕ → Task → Stepped
other_step s m w task =
    stepped advanced
    (with_place (with_row m w (register_all (s.number ((m.places w).passed + 1)) task.accesses (m.private w))) w
    (place ((m.places w).passed + 1) 0))

-- the tasks from the worker's place on
unfoldable pub step_from : Setting → Machine → ℕ → List Task → Stepped
step_from s m w [] = stepped past_last m
step_from s m w (task ∷ later) =
    cond (eqb task.owner w) (own_step s m w task (drop (m.places w).made (own_steps task))) (other_step s m w task)

-- "When a worker is named, it tries the next of these"
unfoldable pub step : Setting → Machine → ℕ → Stepped
step s m w = step_from s m w (drop (m.places w).passed s.tasks)
