-- The file of rows that keep a reader's rules: each of its blocks is the block of its rows, so that it keeps the rules, and each of its
-- rows is the row that was given.
use mathlib.Core.Path.{◌≡◌, sym, ap, ◌∙◌}
use mathlib.Core.List.{List}
use Prim.Native.Nat.{ℕ, ◌+◌, ◌*◌, ◌/◌, ◌%◌, ◌<◌, ◌≤◌}
use native.Mathlib.Omega.{arith}
use lib.ListN.{length, take, drop}
use lib.Seq.{take_all}
use lib.Dec.{lit<}
use Rattle.layout.specs.Lists.{each, joined}
use Rattle.layout.specs.Refusal.{success}
use Rattle.layout.specs.Row.{task_of, retired_in_reader}
use Rattle.layout.specs.Block.{blocks_for, rows_in, block_of}
use Rattle.layout.specs.File.{block_at, row_at, blocks_of, version_of, tasks_of, workers_of, cells_of}
use Rattle.layout.specs.File.{file_answer, flow_of, rows_of, check, accepted, checked_as}
use Rattle.layout.specs.Write.{file_of, row_count, row_of_task, flow_of_rows}
use Rattle.layout.proofs.Lists.{each_same}
use Rattle.roundtrip.proofs.Pieces.{joined_cut, joined_length, piece}
use Rattle.roundtrip.proofs.BlockRules.{BlockKept, keeps_block}
use Rattle.roundtrip.proofs.BlockWritten.{block_length, block_row, block_kept}
use Rattle.roundtrip.proofs.Answers.{RowsKept, keeps_file}
use Rattle.roundtrip.proofs.Places.{block_at_lem, row_at_lem, row_of_task_lem, in_first}

-- the file of rows
abbrev pub written : List ℕ → ℕ → ℕ → ℕ → List ℕ
written rows version workers cells = file_of version (row_count rows) workers cells rows

module _ (rows : List ℕ) (version workers cells : ℕ) (k : RowsKept (retired_in_reader version) rows version workers cells) where
  -- the rows of each block are there
  fits : (i : ℕ) → i < blocks_for (row_count rows) → 480 * i + 48 * rows_in (row_count rows) i ≤ length rows
  fits i l = omega arith

  block_sized : (i : ℕ) → i < blocks_for (row_count rows) → length (block_of version (row_count rows) workers cells rows i) ≡ 512
  block_sized i l = block_length version (row_count rows) workers cells rows i (fits i l)

  file_length : length (written rows version workers cells) ≡ 512 * blocks_for (row_count rows)
  unfolding file_of
  file_length =
      joined_length 512 (blocks_for (row_count rows)) (block_of version (row_count rows) workers cells rows) (λ index. index) block_sized

  block_same : (i : ℕ) → i < blocks_for (row_count rows)
      → block_at (written rows version workers cells) i ≡ block_of version (row_count rows) workers cells rows i
  unfolding file_of
  block_same i l =
      block_at_lem (written rows version workers cells) i
      ∙ piece 512 (blocks_for (row_count rows)) (block_of version (row_count rows) workers cells rows) (λ index. index) block_sized i l

  kept_block : (i : ℕ) → i < blocks_for (row_count rows)
      → BlockKept (blocks_for (row_count rows)) version (row_count rows) workers cells i (block_at (written rows version workers cells) i)
  kept_block i l = rw (block_same i l) (block_kept version (row_count rows) workers cells rows i (fits i l) k.known k.sizes)

  -- ---- what the file states

  first : BlockKept (blocks_for (row_count rows)) version (row_count rows) workers cells 0 (block_at (written rows version workers cells) 0)
  first = kept_block 0 (omega arith)

  pub blocks_back : blocks_of (written rows version workers cells) ≡ blocks_for (row_count rows)
  blocks_back = omega (arith, file_length)

  pub version_back : version_of (written rows version workers cells) ≡ version
  version_back = in_first (written rows version workers cells) 4 (lit< tt) ∙ first.head.of_version

  pub tasks_back : tasks_of (written rows version workers cells) ≡ row_count rows
  tasks_back =
      rw (in_first (written rows version workers cells) 10 (lit< tt), in_first (written rows version workers cells) 11 (lit< tt))
      first.head.of_tasks

  pub workers_back : workers_of (written rows version workers cells) ≡ workers
  workers_back = in_first (written rows version workers cells) 12 (lit< tt) ∙ first.head.of_workers

  pub cells_back : cells_of (written rows version workers cells) ≡ cells
  cells_back = in_first (written rows version workers cells) 13 (lit< tt) ∙ first.head.of_cells

  -- ---- its rows

  row_same : (i : ℕ) → i < row_count rows → row_at (written rows version workers cells) (i + 1) ≡ take 48 (drop (48 * i) rows)
  row_same i l =
      let there : 480 * (i / 10) + 48 * (i % 10) ≡ 48 * i = omega arith in
      row_at_lem (written rows version workers cells) i
      ∙ ap (λ (t : List ℕ). take 48 (drop (16 + 48 * (i % 10)) t)) (block_same (i / 10) (omega arith))
      ∙ block_row version (row_count rows) workers cells rows (i / 10) (fits (i / 10) (omega arith)) (i % 10) (omega arith)
      ∙ ap (λ (m : ℕ). take 48 (drop m rows)) there

  pub rows_back : rows_of (written rows version workers cells) ≡ rows
  unfolding rows_of
  rows_back =
      ap (λ (n : ℕ). joined (row_at (written rows version workers cells)) (each n (λ i. i + 1))) tasks_back
      ∙ joined_cut 48 (row_count rows) rows (row_at (written rows version workers cells)) (λ i. i + 1) row_same
      ∙ take_all (48 * row_count rows) rows (omega arith)

  -- ---- the check

  row_given : (i : ℕ) → i < row_count rows → row_at (written rows version workers cells) (i + 1) ≡ row_of_task rows (i + 1)
  row_given i l = row_same i l ∙ sym (row_of_task_lem rows i)

  pub succeeds : file_answer (written rows version workers cells) ≡ success
  succeeds = keeps_file (written rows version workers cells)
      record {
        some_byte = omega (arith, file_length);
        bytes_fit = omega (arith, file_length);
        whole_blocks = omega (arith, file_length);
        blocks =
            λ i l.
            rw (blocks_back, version_back, tasks_back, workers_back, cells_back)
            (keeps_block _ _ _ _ _ i _ (kept_block i (rw blocks_back at l)));
        rows =
            λ i l.
            let in_rows : i < row_count rows = rw tasks_back at l in
            rw (version_back, workers_back, cells_back, row_given i in_rows) (k.each_row i in_rows);
      }

  list_back : (flow_of (written rows version workers cells)).tasks ≡ (flow_of_rows rows version workers cells).tasks
  unfolding flow_of flow_of_rows
  list_back = rw tasks_back (each_same (row_count rows) _ _ (λ i l. ap task_of (row_given i l)))

  pub flow_back : flow_of (written rows version workers cells) ≡ flow_of_rows rows version workers cells
  unfolding flow_of flow_of_rows
  flow_back = λ i. record { version = version_back i; workers = workers_back i; cells = cells_back i; tasks = list_back i }

  pub accepts : check (written rows version workers cells) ≡ accepted (flow_of_rows rows version workers cells)
  unfolding checked_as
  accepts = rw succeeds (ap accepted flow_back)
