-- An accepted file: the rules name every byte of a block but its rows, so the file is the file of its rows, and those are rows
-- that keep a reader's rules.
use mathlib.Core.Path.{◌≡◌, sym, ap, ◌∙◌}
use mathlib.Core.Bool.{true}
use mathlib.Core.List.{List, ◌++◌}
use Prim.Native.Nat.{ℕ, ◌+◌, ◌*◌, ◌/◌, ◌%◌, ◌<◌}
use native.Mathlib.Omega.{arith}
use lib.ListN.{length, take, drop}
use lib.Seq.{take_all, drop-drop}
use Rattle.layout.specs.Flow.{known_version, WithinLimits}
use Rattle.layout.specs.Bytes.{IsBytes, padded}
use Rattle.layout.specs.Row.{retired_in_reader}
use Rattle.layout.specs.Block.{blocks_for, rows_in, head_of, body_of, sealed, block_of}
use Rattle.layout.specs.File.{block_at, row_start, row_at, blocks_of, version_of, tasks_of, workers_of, cells_of, rows_of}
use Rattle.layout.specs.Write.{file_of, row_count, row_of_task}
use Rattle.roundtrip.proofs.Parts.{part_length}
use Rattle.roundtrip.proofs.Pieces.{joined_cut, joined_length, piece, same_pieces}
use Rattle.roundtrip.proofs.Below.{bytes_part, bytes_joined}
use Rattle.roundtrip.proofs.BlockRules.{BlockKept, block_keeps}
use Rattle.roundtrip.proofs.BlockRead.{block_back}
use Rattle.roundtrip.proofs.Answers.{FileKept, RowsKept}
use Rattle.roundtrip.proofs.Places.{block_at_lem, row_at_lem, row_long, row_of_task_lem}

pub rows_bytes : (file : List ℕ) → IsBytes file → IsBytes (rows_of file)
unfolding rows_of
rows_bytes file bytes = bytes_joined (row_at file) _ (λ task. bytes_part (row_start task) (row_start task + 48) file bytes)

module _ (file : List ℕ) (k : FileKept file) where
  -- ---- its blocks

  kept_block : (i : ℕ) → i < blocks_of file
      → BlockKept (blocks_of file) (version_of file) (tasks_of file) (workers_of file) (cells_of file) i (block_at file i)
  kept_block i l = block_keeps (blocks_of file) (version_of file) (tasks_of file) (workers_of file) (cells_of file) i (block_at file i) (k.blocks i l)

  block_sized : (i : ℕ) → i < blocks_of file → length (block_at file i) ≡ 512
  block_sized i l = rw block_at_lem (part_length (512 * i) 512 file (omega arith))

  first : BlockKept (blocks_of file) (version_of file) (tasks_of file) (workers_of file) (cells_of file) 0 (block_at file 0)
  first = kept_block 0 (omega arith)

  pub fewest : blocks_of file ≡ blocks_for (tasks_of file)
  fewest = first.fewest

  pub version_known : known_version (version_of file) ≡ true
  version_known = first.known

  pub file_sizes : WithinLimits (tasks_of file) (workers_of file) (cells_of file)
  file_sizes = first.sizes

  -- ---- its rows

  pub row_sized : (i : ℕ) → i < tasks_of file → length (row_at file (i + 1)) ≡ 48
  row_sized i l = row_long file (tasks_of file) i (omega (arith, k, fewest)) l

  pub rows_length : length (rows_of file) ≡ 48 * tasks_of file
  unfolding rows_of
  rows_length = joined_length 48 (tasks_of file) (row_at file) (λ i. i + 1) row_sized

  pub count_back : row_count (rows_of file) ≡ tasks_of file
  count_back = omega (arith, rows_length)

  pub row_there : (i : ℕ) → i < tasks_of file → take 48 (drop (48 * i) (rows_of file)) ≡ row_at file (i + 1)
  unfolding rows_of
  row_there i l = piece 48 (tasks_of file) (row_at file) (λ j. j + 1) row_sized i l

  pub row_taken : (i : ℕ) → i < tasks_of file → row_of_task (rows_of file) (i + 1) ≡ row_at file (i + 1)
  row_taken i l = row_of_task_lem (rows_of file) i ∙ row_there i l

  pub rows_kept : RowsKept (retired_in_reader (version_of file)) (rows_of file) (version_of file) (workers_of file) (cells_of file)
  rows_kept =
      record {
        some_byte = omega (arith, rows_length, file_sizes);
        bytes_fit = omega (arith, rows_length, file_sizes);
        whole_rows = omega (arith, rows_length);
        known = version_known;
        sizes = rw count_back file_sizes;
        each_row =
            λ i l.
            let in_file : i < tasks_of file = rw count_back at l in
            rw (row_taken i in_file) (k.rows i in_file);
      }

  -- ---- a block's rows out of all rows

  block_row : (i : ℕ) → i < blocks_of file → (j : ℕ) → j < rows_in (tasks_of file) i
      → take 48 (drop (48 * j) (drop (480 * i) (rows_of file))) ≡ take 48 (drop (48 * j) (drop 16 (block_at file i)))
  block_row i l j m =
      let there : 480 * i + 48 * j ≡ 48 * (10 * i + j) = omega arith in
      let in_block : (10 * i + j) / 10 ≡ i = omega arith in
      let in_row : (10 * i + j) % 10 ≡ j = omega arith in
      rw (drop-drop (48 * j) (480 * i) (rows_of file), drop-drop (48 * j) 16 (block_at file i))
      (rw (there, row_there (10 * i + j) (omega arith), row_at_lem, in_block, in_row))

  block_rows : (i : ℕ) → i < blocks_of file
      → take (48 * rows_in (tasks_of file) i) (drop (480 * i) (rows_of file))
      ≡ take (48 * rows_in (tasks_of file) i) (drop 16 (block_at file i))
  block_rows i l = same_pieces 48 (rows_in (tasks_of file) i) _ _ (block_row i l)

  block_same : IsBytes file → (i : ℕ) → i < blocks_of file
      → block_of (version_of file) (tasks_of file) (workers_of file) (cells_of file) (rows_of file) i ≡ take 512 (drop (512 * i) file)
  unfolding block_of body_of
  block_same bytes i l =
      ap (λ (t : List ℕ). sealed (head_of (version_of file) (tasks_of file) (workers_of file) (cells_of file) i ++ padded 494 t)) (block_rows i l)
      ∙ sym
      (block_back (blocks_of file) (version_of file) (tasks_of file) (workers_of file) (cells_of file) i (block_at file i) (kept_block i l)
      (block_sized i l) (bytes_part (512 * i) (512 * i + 512) file bytes))
      ∙ block_at_lem file i

  pub file_back : IsBytes file → file_of (version_of file) (row_count (rows_of file)) (workers_of file) (cells_of file) (rows_of file) ≡ file
  unfolding file_of
  file_back bytes =
      rw (count_back, ← fewest)
      (joined_cut 512 (blocks_of file) file (block_of (version_of file) (tasks_of file) (workers_of file) (cells_of file) (rows_of file)) (λ i. i)
      (block_same bytes)
      ∙ take_all (512 * blocks_of file) file (omega arith))
