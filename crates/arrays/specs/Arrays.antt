-- What the stepped run's arrays stand for. The shared counters are one row, a counter for each cell, and the private counters a row for each
-- worker. A worker's place tells the tasks that it has gone past, the stage of its own task, an index, and where the row of the next
-- task starts in the file.
--
--     WaitWrite   it waits for the last write of the access at the index
--     WaitReads   it waits for the reads of that access, a write
--     Operate     it makes the operation at the index
--     End         it ends the access at the index; of a write, it sets the shared reads to 0
--     Post        it posts that access, a write
use Rattle.std.specs.Prelude.{◌≡◌, Bool, true, false, cond, List, [], ◌∷◌, ℕ, zero, suc, ◌+◌, ◌*◌, ◌<◌, ◌≤◌, length, get_or, drop, set, replicate, eqb, ltb}
use Rattle.layout.specs.Flow.{Access, Task, most_workers, most_cells, most_accesses, most_schedule}
use Rattle.layout.specs.Row.{access_at, operation_at}
use Rattle.layout.specs.File.{row_start, row_at, tasks_in}
use Rattle.steps.specs.Operations.{effect}
use Rattle.steps.specs.Machine as Rules
use Rattle.steps.specs.Machine.{Machine, counter, place, with_place}
use Rattle.steps.specs.Run.{setting_for}
use Rattle.steps.specs.Step.{Try, wait_write, wait_reads, operate, end_read, zero_reads, post_write, writes, Setting, Outcome, advanced, past_last, write_differs, reads_differ, outcome, change, stepped, attempted, step}
use Rattle.arrays.specs.declared.Counter.{Counter}
use Rattle.arrays.specs.declared.Stage.{Stage}
use Rattle.arrays.specs.declared.Stage.TheVariants.{WaitWrite, WaitReads, Operate, End, Post}
use Rattle.arrays.specs.declared.Place.{Place}
use Rattle.arrays.specs.declared.Kept.{Kept}
use Rattle.arrays.specs.Ready.{Ready}

-- ---- counters

-- the counter that is stored with these two numbers; and the one that all start with
abbrev pub counted : ℕ → ℕ → Counter
counted last_write reads = record { last_write = last_write; reads = reads }

abbrev pub nothing : Counter
nothing = counted 0 0

-- a counter that is stored as one of the rules, and the counter of a cell in a row
abbrev pub counter_of : Counter → Rules.Counter
counter_of stored = counter stored.last_write stored.reads

abbrev pub counter_at : List Counter → ℕ → Rules.Counter
counter_at row cell = counter_of (get_or row cell nothing)

-- ---- places

-- the own steps that an access has before the operations, and as many after them
abbrev pub width : Access → ℕ
width access = cond (writes access) 2 1

-- those of the accesses before an index
unfoldable pub width_before : List Access → ℕ → ℕ
width_before [] index = 0
width_before (access ∷ accesses) zero = 0
width_before (access ∷ accesses) (suc index) = width access + width_before accesses index

-- those of all accesses
abbrev pub width_of : Task → ℕ
width_of task = width_before task.accesses (length task.accesses)

-- the own steps made at a stage and an index
unfoldable pub made_at : Task → Stage → ℕ → ℕ
made_at task WaitWrite index = width_before task.accesses index
made_at task WaitReads index = width_before task.accesses index + 1
made_at task Operate index = width_of task + index
made_at task End index = width_of task + length task.operations + width_before task.accesses index
made_at task Post index = width_of task + length task.operations + width_before task.accesses index + 1

-- the same at the task after those gone past; none where all are
unfoldable pub made_in : List Task → Stage → ℕ → ℕ
made_in [] stage index = 0
made_in (task ∷ later) stage index = made_at task stage index

-- the place that is stored for a stage and an index of the task after those gone past: it tells also where that task's row starts
abbrev pub place_at : ℕ → Stage → ℕ → Place
place_at passed stage index = record { passed = passed; stage = stage; index = index; row = row_start (passed + 1) }

-- where each worker starts; and what is read where no place is stored
abbrev pub first_place : Place
first_place = place_at 0 WaitWrite 0

abbrev pub no_place : Place
no_place = record { passed = 0; stage = WaitWrite; index = 0; row = 0 }

-- a place that is stored as one of the rules, under a list of tasks: what it tells of the row is not needed
abbrev pub place_of : List Task → Place → Rules.Place
place_of tasks stored = place stored.passed (made_in (drop stored.passed tasks) stored.stage stored.index)

-- ---- the machine

-- what the run keeps
pub record Arrays : Type 0 where
  pub cells : List ℕ
  pub shared : List Counter
  pub private : List (List Counter)
  pub places : List Place

abbrev pub arrays : List ℕ → List Counter → List (List Counter) → List Place → Arrays
arrays cells shared private places = record { cells = cells; shared = shared; private = private; places = places }

-- the cells and what the code keeps beside them
abbrev pub lent : List ℕ → Kept → Arrays
lent cells kept = arrays cells kept.shared kept.private kept.places

-- what it keeps at the start: "All start at 0, and each worker starts at task 1"
abbrev pub fresh_kept : Kept
fresh_kept =
    record {
      shared = replicate most_cells nothing;
      private = replicate most_workers (replicate most_cells nothing);
      places = replicate most_workers first_place;
    }

-- the machine that it stands for, under a list of tasks
abbrev pub machine_of : List Task → Arrays → Machine
machine_of tasks kept =
    record {
      cells = kept.cells;
      shared = λ c. counter_at kept.shared c;
      private = λ w c. counter_at (get_or kept.private w []) c;
      places = λ w. place_of tasks (get_or kept.places w no_place);
    }

-- ---- what an own step tries, by stage and index

-- the step of the rules
unfoldable pub try_at : List ℕ → Stage → ℕ → Try
try_at row WaitWrite index = wait_write (access_at row index).cell
try_at row WaitReads index = wait_reads (access_at row index).cell
try_at row Operate index = operate (operation_at row index)
try_at row End index =
    cond (writes (access_at row index)) (zero_reads (access_at row index).cell) (end_read (access_at row index).cell)
try_at row Post index = post_write (access_at row index).cell

-- an index at which a worker can stand at a stage of its own task, the row of which this is
unfoldable pub Stands : List ℕ → Stage → ℕ → Type 0
Stands row WaitWrite index = index < get_or row 1 0
Stands row WaitReads index = (index < get_or row 1 0) × (writes (access_at row index) ≡ true)
Stands row Operate index = index < get_or row 2 0
Stands row End index = index < get_or row 1 0
Stands row Post index = (index < get_or row 1 0) × (writes (access_at row index) ≡ true)

-- the place after an own step that advances
abbrev pub after_wait : List ℕ → ℕ → ℕ → Place
after_wait row passed index =
    cond (ltb (index + 1) (get_or row 1 0)) (place_at passed WaitWrite (index + 1))
    (cond (ltb 0 (get_or row 2 0)) (place_at passed Operate 0) (place_at passed End 0))

abbrev pub after_end : List ℕ → ℕ → ℕ → Place
after_end row passed index = cond (ltb (index + 1) (get_or row 1 0)) (place_at passed End (index + 1)) (place_at (passed + 1) WaitWrite 0)

-- by the stage
unfoldable pub next_place : List ℕ → ℕ → Stage → ℕ → Place
next_place row passed WaitWrite index = cond (writes (access_at row index)) (place_at passed WaitReads index) (after_wait row passed index)
next_place row passed WaitReads index = after_wait row passed index
next_place row passed Operate index =
    cond (ltb (index + 1) (get_or row 2 0)) (place_at passed Operate (index + 1)) (place_at passed End 0)
next_place row passed End index = cond (writes (access_at row index)) (place_at passed Post index) (after_end row passed index)
next_place row passed Post index = after_end row passed index

-- ---- private counters, updated

-- one counter of one worker's row: a write sets it, a read adds 1 to its reads
abbrev pub noted : List (List Counter) → ℕ → ℕ → Bool → ℕ → List (List Counter)
noted private w cell is_write number =
    set private w
    (set (get_or private w []) cell
    (cond is_write (counted number 0)
    (counted (get_or (get_or private w []) cell nothing).last_write ((get_or (get_or private w []) cell nothing).reads + 1))))

-- one after another, those of all accesses
unfoldable pub noted_all : List (List Counter) → ℕ → ℕ → List Access → List (List Counter)
noted_all private w number [] = private
noted_all private w number (access ∷ accesses) =
    noted_all (noted private w access.cell (writes access) number) w number accesses

-- ---- what the step asks of what it is lent

-- the counters have their sizes
pub record Shape (shared : List Counter) (private : List (List Counter)) : Type 0 where
  pub shared_size : length shared ≡ most_cells
  pub private_size : length private ≡ most_workers
  pub row_size : (w : ℕ) → w < most_workers → length (get_or private w []) ≡ most_cells

-- a place tells where the next task's row starts, and with tasks left a worker stands somewhere in the next
pub record Placed (file : List ℕ) (tasks : ℕ) (stored : Place) : Type 0 where
  pub starts : stored.row ≡ row_start (stored.passed + 1)
  pub stands : stored.passed < tasks → Stands (row_at file (stored.passed + 1)) stored.stage stored.index

-- the places of all workers are such
pub record Standing (file : List ℕ) (tasks : ℕ) (places : List Place) : Type 0 where
  pub placed : (w : ℕ) → w < most_workers → Placed file tasks (get_or places w no_place)

-- the step asks that no counter has more reads than this: a step adds one for each access of a task at most, and a run has no more
-- steps than its schedule bytes
abbrev pub most_reads : ℕ
most_reads = most_accesses * most_schedule

-- no counter has more reads than so many
pub record ReadsAtMost (limit : ℕ) (m : Machine) : Type 0 where
  pub shared_reads : (c : ℕ) → (m.shared c).reads ≤ limit
  pub private_reads : (w c : ℕ) → (m.private w c).reads ≤ limit

-- the counters have their sizes, and room for the reads of another step
abbrev pub CountersFit : List Counter → List (List Counter) → Type 0
CountersFit shared private = Shape shared private × ReadsAtMost most_reads (machine_of [] (arrays [] shared private []))

-- what holds of the arrays before and after each step
pub record Steppable (file : List ℕ) (tasks : ℕ) (kept : Arrays) : Type 0 where
  pub ready : Ready file tasks (length kept.cells)
  pub shape : Shape kept.shared kept.private
  pub places_size : length kept.places ≡ most_workers
  pub standing : Standing file tasks kept.places

-- ---- what a step does to the arrays

-- the setting of a file's run in a version
abbrev pub setting_in : List ℕ → ℕ → ℕ → Setting
setting_in file version tasks = setting_for version (tasks_in file tasks)

-- a worker's stage and index, and the tasks that it has gone past
abbrev pub passed_at : Arrays → ℕ → ℕ
passed_at kept w = (get_or kept.places w no_place).passed

abbrev pub stage_at : Arrays → ℕ → Stage
stage_at kept w = (get_or kept.places w no_place).stage

abbrev pub index_at : Arrays → ℕ → ℕ
index_at kept w = (get_or kept.places w no_place).index

-- what an own step of the task of this number changes in a flow of a version, but for the place: the counters keep their sizes, and the machine changes as the rules say
abbrev pub Changed : ℕ → List ℕ → ℕ → ℕ → Stage → ℕ → Arrays → Arrays → Type 0
Changed version row w number stage index before after =
    Shape after.shared after.private
    × (machine_of [] after ≡ change (effect version) number (machine_of [] before) w (try_at row stage index))

-- whether the worker moves on after a step with this outcome
abbrev pub moves_on : Outcome → Bool
moves_on advanced = true
moves_on past_last = false
moves_on (write_differs cell) = false
moves_on (reads_differ cell) = false

-- where it moves on to: in its own task to the next own step, and past a task of another owner
abbrev pub goes_to : List ℕ → Arrays → ℕ → Place
goes_to file before w =
    cond (eqb (get_or (row_at file (passed_at before w + 1)) 0 0) w)
    (next_place (row_at file (passed_at before w + 1)) (passed_at before w) (stage_at before w) (index_at before w))
    (place_at (passed_at before w + 1) WaitWrite 0)

-- the places after a step: the worker's is the next where it moves on, and all others stay
abbrev pub places_after : Outcome → List Place → ℕ → Place → List Place
places_after why places w next = cond (moves_on why) (set places w next) places

-- the owner's next own step, made or held
pub record OwnStep (version : ℕ) (row : List ℕ) (w : ℕ) (before : Arrays) (why : Outcome) (after : Arrays) : Type 0 where
  pub shape : Shape after.shared after.private
  pub cells_size : length after.cells ≡ length before.cells
  pub places_are : after.places
      ≡ places_after why before.places w (next_place row (passed_at before w) (stage_at before w) (index_at before w))
  pub machine_is : (tasks : List Task)
      → stepped why (machine_of tasks after)
      ≡ attempted (outcome (machine_of tasks before) w (try_at row (stage_at before w) (index_at before w))) (machine_of tasks before)
      (with_place
      (change (effect version) (passed_at before w + 1) (machine_of tasks before) w (try_at row (stage_at before w) (index_at before w)))
      w
      (place_of tasks (next_place row (passed_at before w) (stage_at before w) (index_at before w))))

-- a step of a named worker
pub record StepDone (file : List ℕ) (version tasks w : ℕ) (before : Arrays) (why : Outcome) (after : Arrays) : Type 0 where
  pub sound : Steppable file tasks after
  pub places_are : after.places ≡ places_after why before.places w (goes_to file before w)
  pub machine_is : stepped why (machine_of (tasks_in file tasks) after) ≡ step (setting_in file version tasks) (machine_of (tasks_in file tasks) before) w
