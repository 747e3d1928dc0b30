-- A flow as a value (01, "What is built"; 02, Q-8), on which the runs and their theorems are stated, its limits and its versions.
use Rattle.std.specs.Prelude.{Bool, ◌&&◌, ◌||◌, List, ℕ, ◌*◌, ◌≤◌, eqb, leb}

-- a cell that a task names, and the mode under which it does: 1 read, 2 write only, 3 read and write
pub record Access : Type 0 where
  pub cell : ℕ
  pub mode : ℕ

-- an operation's code, the cell a that it writes, the cell b, and the constant k
pub record Operation : Type 0 where
  pub code : ℕ
  pub a : ℕ
  pub b : ℕ
  pub k : ℕ

-- a task: its owner, its accesses and its operations, each in listed order
pub record Task : Type 0 where
  pub owner : ℕ
  pub accesses : List Access
  pub operations : List Operation

-- the version, by which operation 5 goes; the workers and cells; the tasks in list order: task 1 is the first
pub record Flow : Type 0 where
  pub version : ℕ
  pub workers : ℕ
  pub cells : ℕ
  pub tasks : List Task

-- ---- the versions

-- "neither 1 nor 2" is refused
abbrev pub known_version : ℕ → Bool
known_version version = eqb version 1 || eqb version 2

-- ---- the limits

-- "A flow has 1 to 200 tasks, 1 to 8 workers and 1 to 32 cells"
abbrev pub most_tasks : ℕ
most_tasks = 200

abbrev pub most_workers : ℕ
most_workers = 8

abbrev pub most_cells : ℕ
most_cells = 32

-- "1 to 4 accesses and 0 to 6 operations"
abbrev pub most_accesses : ℕ
most_accesses = 4

abbrev pub most_operations : ℕ
most_operations = 6

-- "blocks of 512 bytes", "1 to 20 blocks"; so the longest file has 10,240 bytes
abbrev pub most_blocks : ℕ
most_blocks = 20

abbrev pub most_bytes : ℕ
most_bytes = 512 * most_blocks

-- "rows .. 1 to 200 times 48 bytes"
abbrev pub most_row_bytes : ℕ
most_row_bytes = 48 * most_tasks

-- the longest schedule: one of "over 65,536 bytes" is refused
abbrev pub most_schedule : ℕ
most_schedule = 65536

-- a number is at least 1 and at most the limit
abbrev pub up_to : ℕ → ℕ → Bool
up_to limit n = leb 1 n && leb n limit

-- the sizes of a flow are within their limits
abbrev pub in_range : ℕ → ℕ → ℕ → Bool
in_range tasks workers cells = up_to most_tasks tasks && up_to most_workers workers && up_to most_cells cells

-- the same, as facts
pub record WithinLimits (tasks workers cells : ℕ) : Type 0 where
  pub some_task : 1 ≤ tasks
  pub tasks_fit : tasks ≤ most_tasks
  pub some_worker : 1 ≤ workers
  pub workers_fit : workers ≤ most_workers
  pub some_cell : 1 ≤ cells
  pub cells_fit : cells ≤ most_cells
