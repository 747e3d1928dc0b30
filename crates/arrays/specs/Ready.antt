-- A file that is ready to be run: what a step asks of its rows.
use Rattle.std.specs.Prelude.{◌≡◌, List, ℕ, ◌*◌, ◌<◌, ◌≤◌, length, get_or}
use Rattle.layout.specs.Flow.{most_tasks, most_workers, most_cells, most_accesses, most_operations}
use Rattle.layout.specs.Row.{access_at, operation_at}
use Rattle.layout.specs.Block.{blocks_for}
use Rattle.layout.specs.File.{row_at}

-- a row whose numbers are small enough to be used as indices
pub record RowFits (row : List ℕ) (cells : ℕ) : Type 0 where
  pub size : length row ≡ 48
  pub owner_fits : get_or row 0 0 < most_workers
  pub some_access : 1 ≤ get_or row 1 0
  pub few_accesses : get_or row 1 0 ≤ most_accesses
  pub few_operations : get_or row 2 0 ≤ most_operations
  pub access_cells : (j : ℕ) → j < get_or row 1 0 → (access_at row j).cell < most_cells
  pub writes_cells : (i : ℕ) → i < get_or row 2 0 → (operation_at row i).a < cells
  pub reads_cells : (i : ℕ) → i < get_or row 2 0 → (operation_at row i).b < cells

-- a file with so many tasks, whose rows are such
pub record Ready (file : List ℕ) (tasks cells : ℕ) : Type 0 where
  pub size : length file ≡ 512 * blocks_for tasks
  pub few_tasks : tasks ≤ most_tasks
  pub rows : (task : ℕ) → 1 ≤ task → task ≤ tasks → RowFits (row_at file task) cells
