-- Each row of a file names its cells by one byte, so a file that is ready is so with as many cells as a byte has values.
use Rattle.std.proofs.Common.{ℕ, ◌+◌, ◌*◌, ◌<◌, List, get_or}
use Rattle.layout.specs.Bytes.{IsBytes}
use Rattle.layout.specs.File.{row_start, row_at}
use Rattle.roundtrip.proofs.Below.{bytes_part}
use Rattle.arrays.specs.Ready.{RowFits, Ready}

-- a byte of a row
row_byte : (file : List ℕ) → IsBytes file → (task i : ℕ) → get_or (row_at file task) i 0 < 256
unfolding IsBytes
row_byte file bytes task i = bytes_part (row_start task) (row_start task + 48) file bytes i

pub ready_at : (file : List ℕ) (tasks cells : ℕ) → IsBytes file → Ready file tasks cells → Ready file tasks 256
ready_at file tasks cells bytes ready = record { size = ready.size; few_tasks = ready.few_tasks; rows = λ task low high. fits task (ready.rows task low high) }
  where
    fits : (task : ℕ) → RowFits (row_at file task) cells → RowFits (row_at file task) 256
    fits task row =
        record {
          size = row.size;
          owner_fits = row.owner_fits;
          some_access = row.some_access;
          few_accesses = row.few_accesses;
          few_operations = row.few_operations;
          access_cells = row.access_cells;
          writes_cells = λ i h. row_byte file bytes task (13 + 6 * i);
          reads_cells = λ i h. row_byte file bytes task (14 + 6 * i);
        }
