-- The file check (01, "The file" and "Numbers of refusal"; 02): where a block and a row stand, the order in which refusals are met,
-- the check as one function from bytes to a refusal or the accepted flow, and what the reader answers and leaves.
use Rattle.std.specs.Prelude.{Bool, cond, ◌&&◌, List, ◌++◌, ℕ, zero, suc, ◌+◌, ◌-◌, ◌*◌, ◌/◌, ◌%◌, length, drop, eqb, leb}
use Rattle.layout.specs.Lists.{each, joined}
use Rattle.layout.specs.Bytes.{at, word, part}
use Rattle.layout.specs.Flow.{Task, Flow, most_bytes}
use Rattle.layout.specs.Refusal.{Answer, refusal, unless, or_else, first_at}
use Rattle.layout.specs.Row.{task_of, retired_in_reader, row_refusal}
use Rattle.layout.specs.Block.{block_refusal}

-- ---- where a block and a row stand

-- blocks are numbered from 0
abbrev pub block_at : List ℕ → ℕ → List ℕ
block_at file index = part (512 * index) (512 * index + 512) file

-- tasks are numbered from 1, ten rows to a block after its 16 bytes of head
abbrev pub row_start : ℕ → ℕ
row_start task = 512 * ((task - 1) / 10) + 16 + 48 * ((task - 1) % 10)

abbrev pub row_at : List ℕ → ℕ → List ℕ
row_at file task = part (row_start task) (row_start task + 48) file

-- ---- what the file states

abbrev pub blocks_of : List ℕ → ℕ
blocks_of file = length file / 512

-- block 0's version, tasks, workers and cells
abbrev pub version_of : List ℕ → ℕ
version_of file = at file 4

abbrev pub tasks_of : List ℕ → ℕ
tasks_of file = word file 10

abbrev pub workers_of : List ℕ → ℕ
workers_of file = at file 12

abbrev pub cells_of : List ℕ → ℕ
cells_of file = at file 13

-- ---- the check

-- 1: "file length 0, over 10,240 or no multiple of 512"
abbrev pub length_sound : ℕ → Bool
length_sound bytes = leb 1 bytes && leb bytes most_bytes && eqb (bytes % 512) 0

-- 2 to 5 on one block
abbrev pub block_number : List ℕ → ℕ → ℕ
block_number file index =
    block_refusal (blocks_of file) (version_of file) (tasks_of file) (workers_of file) (cells_of file) index (block_at file index)

-- 6 to 11, 17 and 18 on one task
abbrev pub row_number : List ℕ → ℕ → ℕ
row_number file task = row_refusal (retired_in_reader (version_of file)) (workers_of file) (cells_of file) (row_at file task)

-- "1; then 2 to 5 on block 0, then on block 1, and so on; then 6 to 11 on task 1, then task 2, and so on"; 17 comes "before 6 on the next", and 18
-- "before 11 on the same task"
unfoldable pub file_answer : List ℕ → Answer
file_answer file =
    or_else (refusal (unless (length_sound (length file)) 1) 0)
    (or_else (first_at (block_number file) 0 (blocks_of file)) (first_at (row_number file) 1 (tasks_of file)))

-- the first so many tasks of a file
abbrev pub tasks_in : List ℕ → ℕ → List Task
tasks_in file tasks = each tasks (λ i. task_of (row_at file (i + 1)))

-- the flow that a file holds
unfoldable pub flow_of : List ℕ → Flow
flow_of file =
    record {
      version = version_of file;
      workers = workers_of file;
      cells = cells_of file;
      tasks = tasks_in file (tasks_of file);
    }

-- a file is refused, or it is accepted as a flow
pub data Checked : Type 0 where
  refused : Answer → Checked
  accepted : Flow → Checked

-- no refusal is 0
unfoldable pub checked_as : ℕ → ℕ → Flow → Checked
checked_as zero place flow = accepted flow
checked_as (suc number) place flow = refused (refusal (suc number) place)

-- the check: from bytes to a refusal or the accepted flow
abbrev pub check : List ℕ → Checked
check file = checked_as (file_answer file).number (file_answer file).place (flow_of file)

-- ---- the reader

-- the rows that stand in a file, one after another: "48 bytes a task"
unfoldable pub rows_of : List ℕ → List ℕ
rows_of file = joined (row_at file) (each (tasks_of file) (λ i. i + 1))

-- "the reader 16": the lent rows are shorter than needed
unfoldable pub read_answer : List ℕ → ℕ → Answer
read_answer file room = or_else (file_answer file) (refusal (unless (leb (48 * tasks_of file) room) 16) 0)

-- what an answer tells of a number that is "zero with a refusal"
abbrev pub told : Answer → ℕ → ℕ
told answer n = cond (eqb answer.number 0) n 0

-- lent bytes after a call: what is written stands first "and the rest stays"; "A refusal changes no lent byte"
abbrev pub lent_after : Answer → List ℕ → List ℕ → List ℕ
lent_after answer bytes lent = cond (eqb answer.number 0) (bytes ++ drop (length bytes) lent) lent
