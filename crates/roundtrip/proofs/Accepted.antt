-- A file accepted as a flow: the flow is the one that its rows hold, so the flow's bytes are the file's, and what the rules
-- ask of the rows holds of the tasks.
use mathlib.Core.Path.{◌≡◌, refl}
use mathlib.Core.List.{List}
use Prim.Native.Nat.{ℕ, zero, suc, ◌+◌, ◌<◌}
use native.Mathlib.Omega.{arith}
use lib.ListN.{length}
use Rattle.layout.specs.Bytes.{IsBytes, at}
use Rattle.layout.specs.Flow.{Flow}
use Rattle.layout.specs.Row.{task_of, row_of, access_at, operation_at, operation_in_range, operation_sound, retired_in_reader}
use Rattle.layout.specs.File.{row_start, row_at, version_of, tasks_of, workers_of, cells_of, flow_of, rows_of, checked_as, accepted, check}
use Rattle.layout.specs.Write.{flow_rows, flow_bytes}
use Rattle.layout.proofs.Lists.{and_left, each-length, each_at, all_pass, all_keeps}
use Rattle.roundtrip.specs.Sound.{TaskSound, Sound}
use Rattle.roundtrip.proofs.Pieces.{joined_same}
use Rattle.roundtrip.proofs.Below.{bytes_part}
use Rattle.roundtrip.proofs.Rows.{RowKept, row_keeps, row_back}
use Rattle.roundtrip.proofs.Answers.{FileKept, file_keeps}
use Rattle.roundtrip.proofs.Read.{version_known, file_sizes, row_sized, count_back, file_back}

-- ---- what the rules say of a row, said of its task

task_sound : (version workers cells : ℕ) (row : List ℕ) → RowKept (retired_in_reader version) workers cells row
    → TaskSound version workers cells (task_of row)
unfolding task_of
task_sound version workers cells row k =
    let accesses = each-length (at row 1) (access_at row) in
    let operations = each-length (at row 2) (operation_at row) in
    record {
      owned = k.counts.owner;
      some_access = omega arith;
      accesses_fit = omega arith;
      operations_fit = omega arith;
      accesses_in_range = k.accesses;
      each_once = k.once;
      operations_in_range =
          all_pass (operation_in_range cells) (at row 2) (operation_at row)
          (λ i l. and_left _ _ (all_keeps (operation_sound cells row) (at row 2) (λ j. j) i l k.operations));
      keeps_retirement = k.retirement;
      modes_kept = k.modes;
      all_written = k.writes;
    }

-- ---- what "accepted as a flow" says

accepted_as : (number place : ℕ) (made flow : Flow) → checked_as number place made ≡ accepted flow → (number ≡ 0) × (made ≡ flow)
unfolding checked_as
accepted_as zero place made flow e = (refl, cc)
accepted_as (suc number) place made flow e = let no_such : ◌≡◌ {A = ℕ} 0 1 = cc in absurd (omega arith)

module _ (file : List ℕ) where
  pub accepted_kept : (flow : Flow) → check file ≡ accepted flow → FileKept file
  accepted_kept flow e = file_keeps file (accepted_as _ _ (flow_of file) flow e).0

  pub accepted_flow : (flow : Flow) → check file ≡ accepted flow → flow_of file ≡ flow
  accepted_flow flow e = (accepted_as _ _ (flow_of file) flow e).1

  -- ---- the flow's bytes

  module _ (k : FileKept file) where
    kept_row : (i : ℕ) → i < tasks_of file
        → RowKept (retired_in_reader (version_of file)) (workers_of file) (cells_of file) (row_at file (i + 1))
    kept_row i l = row_keeps (retired_in_reader (version_of file)) (workers_of file) (cells_of file) (row_at file (i + 1)) (k.rows i l)

    pub rows_of_flow : IsBytes file → flow_rows (flow_of file) ≡ rows_of file
    unfolding flow_rows flow_of rows_of
    rows_of_flow bytes =
        joined_same (tasks_of file) row_of (λ i. task_of (row_at file (i + 1))) (row_at file) (λ i. i + 1)
        (λ i l. row_back (retired_in_reader (version_of file)) (workers_of file) (cells_of file) (row_at file (i + 1)) (k.rows i l) (row_sized file k i l)
        (bytes_part (row_start (i + 1)) (row_start (i + 1) + 48) file bytes))

    flow_length : length (flow_of file).tasks ≡ tasks_of file
    unfolding flow_of
    flow_length = each-length (tasks_of file) _

    pub bytes_of_flow : IsBytes file → flow_bytes (flow_of file) ≡ file
    unfolding flow_bytes flow_of
    bytes_of_flow bytes = rw (flow_length, rows_of_flow bytes) (rw (count_back file k) at (file_back file k bytes))

    -- ---- its tasks

    pub flow_sound : Sound (flow_of file)
    unfolding flow_of
    flow_sound =
        record {
          known = version_known file k;
          sizes = rw flow_length (file_sizes file k);
          each_task =
              λ i none l.
              let in_file : i < tasks_of file = rw flow_length at l in
              rw (each_at (tasks_of file) (λ j. task_of (row_at file (j + 1))) i none in_file)
              (task_sound (version_of file) (workers_of file) (cells_of file) (row_at file (i + 1)) (kept_row i in_file));
        }
