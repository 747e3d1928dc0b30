-- The bytes of a flow, and what the writer answers and leaves (01, "The file" and "Numbers of refusal"; 02, Q-8 and Q-9).
use Rattle.std.specs.Prelude.{Bool, ◌&&◌, List, ℕ, ◌+◌, ◌-◌, ◌*◌, ◌/◌, ◌%◌, length, eqb, leb}
use Rattle.layout.specs.Lists.{each, joined}
use Rattle.layout.specs.Bytes.{part}
use Rattle.layout.specs.Flow.{Flow, known_version, most_row_bytes, in_range}
use Rattle.layout.specs.Refusal.{Answer, refusal, unless, or_else, first_at}
use Rattle.layout.specs.Row.{task_of, row_of, retired_in_writer, row_refusal}
use Rattle.layout.specs.Block.{blocks_for, block_of}

-- ---- the bytes of a flow

-- the file that holds these rows, block after block
unfoldable pub file_of : ℕ → ℕ → ℕ → ℕ → List ℕ → List ℕ
file_of version tasks workers cells rows =
    joined (block_of version tasks workers cells rows) (each (blocks_for tasks) (λ index. index))

-- the rows of a flow, one after another
unfoldable pub flow_rows : Flow → List ℕ
flow_rows flow = joined row_of flow.tasks

-- the bytes of a flow
unfoldable pub flow_bytes : Flow → List ℕ
flow_bytes flow = file_of flow.version (length flow.tasks) flow.workers flow.cells (flow_rows flow)

-- ---- the writer

-- how many rows of 48 bytes there are
abbrev pub row_count : List ℕ → ℕ
row_count rows = length rows / 48

-- a task's row among the rows
abbrev pub row_of_task : List ℕ → ℕ → List ℕ
row_of_task rows task = part (48 * (task - 1)) (48 * (task - 1) + 48) rows

-- 15: "writer's rows not 1 to 200 times 48 bytes"
abbrev pub rows_sound : ℕ → Bool
rows_sound bytes = leb 1 bytes && leb bytes most_row_bytes && eqb (bytes % 48) 0

-- "The writer, given rows, workers and cells, has 15, 4, 6 to 11, 16. In its 4 only workers and cells can be at fault"; with 17 and 18 in their
-- places among 6 to 11; and it "is told which [version] to write" and "gives 22 for another version, after 15 and before 4"
unfoldable pub rows_answer : List ℕ → ℕ → ℕ → ℕ → Answer
rows_answer rows version workers cells =
    or_else (refusal (unless (rows_sound (length rows)) 15) 0)
    (or_else (refusal (unless (known_version version) 22) 0)
    (or_else (refusal (unless (in_range (row_count rows) workers cells) 4) 0)
    (first_at (λ task. row_refusal (retired_in_writer version) workers cells (row_of_task rows task)) 1 (row_count rows))))

-- and 16: the lent output is shorter than needed
unfoldable pub write_answer : List ℕ → ℕ → ℕ → ℕ → ℕ → Answer
write_answer rows version workers cells room =
    or_else (rows_answer rows version workers cells) (refusal (unless (leb (512 * blocks_for (row_count rows)) room) 16) 0)

-- the flow that the writer is given
unfoldable pub flow_of_rows : List ℕ → ℕ → ℕ → ℕ → Flow
flow_of_rows rows version workers cells =
    record {
      version = version;
      workers = workers;
      cells = cells;
      tasks = each (row_count rows) (λ i. task_of (row_of_task rows (i + 1)));
    }
