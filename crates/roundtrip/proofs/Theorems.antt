-- The reader and the writer undo one another where no task has operation 6; so the files without it that the reader accepts are exactly
-- those that the writer makes (Exactly). For a file of accepted rows keeps every rule (Written), and the rules leave no byte of an accepted
-- file free but its rows (Read), nor any byte of an accepted row but those that its task holds (Rows, Accepted); and of what is read, the
-- writer can meet rule 18 alone (Retired).
use mathlib.Core.Path.{◌≡◌, ap}
use mathlib.Core.Bool.{true, false}
use mathlib.Core.List.{List}
use Prim.Native.Nat.{ℕ}
use Rattle.layout.specs.Bytes.{IsBytes}
use Rattle.layout.specs.Flow.{Flow}
use Rattle.layout.specs.Refusal.{Answer, success, refusal}
use Rattle.layout.specs.File.{file_answer, version_of, tasks_of, workers_of, cells_of, flow_of, rows_of, check, accepted}
use Rattle.layout.specs.Write.{file_of, flow_rows, flow_bytes, row_count, rows_answer, flow_of_rows}
use Rattle.roundtrip.specs.Sound.{Sound}
use Rattle.roundtrip.specs.Larger.{without_larger, FirstLarger}
use Rattle.roundtrip.proofs.Answers.{file_keeps, rows_keep}
use Rattle.roundtrip.proofs.Written
use Rattle.roundtrip.proofs.Read
use Rattle.roundtrip.proofs.Accepted
use Rattle.roundtrip.proofs.Retired

-- ---- 1. The reader after the writer: of rows that the writer accepts it makes a file that is accepted, and all that went in
-- ---- comes back

pub record ReadBack (file rows : List ℕ) (version workers cells : ℕ) : Type 0 where
  pub succeeds : file_answer file ≡ success
  pub same_rows : rows_of file ≡ rows
  pub same_version : version_of file ≡ version
  pub same_tasks : tasks_of file ≡ row_count rows
  pub same_workers : workers_of file ≡ workers
  pub same_cells : cells_of file ≡ cells
  pub same_flow : check file ≡ accepted (flow_of_rows rows version workers cells)
  -- "the writer no longer writes it in either version"
  pub no_larger : without_larger (flow_of file) ≡ true

pub reader_after_writer : (rows : List ℕ) (version workers cells : ℕ) → rows_answer rows version workers cells ≡ success
    → ReadBack (file_of version (row_count rows) workers cells rows) rows version workers cells
reader_after_writer rows version workers cells h =
    let taken = rows_keep rows version workers cells (ap (λ (a : Answer). a.number) h) in
    let k = Retired.readers_keep rows version workers cells taken in
    record {
      succeeds = Written.succeeds rows version workers cells k;
      same_rows = Written.rows_back rows version workers cells k;
      same_version = Written.version_back rows version workers cells k;
      same_tasks = Written.tasks_back rows version workers cells k;
      same_workers = Written.workers_back rows version workers cells k;
      same_cells = Written.cells_back rows version workers cells k;
      same_flow = Written.accepts rows version workers cells k;
      no_larger = rw (Written.flow_back rows version workers cells k) (Retired.no_larger rows version workers cells taken);
    }

-- ---- 2. The writer after the reader: the file of an accepted file's rows is the file itself. The writer accepts them, and so makes it, where no
-- ---- task has operation 6; and else it answers 18 with the first task that has one

pub rows_make_file : (file : List ℕ) → IsBytes file → file_answer file ≡ success
    → file_of (version_of file) (row_count (rows_of file)) (workers_of file) (cells_of file) (rows_of file) ≡ file
rows_make_file file bytes h = Read.file_back file (file_keeps file (ap (λ (a : Answer). a.number) h)) bytes

pub writer_after_reader : (file : List ℕ) → IsBytes file → file_answer file ≡ success → without_larger (flow_of file) ≡ true
    → (rows_answer (rows_of file) (version_of file) (workers_of file) (cells_of file) ≡ success)
    × (file_of (version_of file) (row_count (rows_of file)) (workers_of file) (cells_of file) (rows_of file) ≡ file)
writer_after_reader file bytes h none =
    (Retired.rows_accepted file (file_keeps file (ap (λ (a : Answer). a.number) h)) none, rows_make_file file bytes h)

pub writer_refuses : (file : List ℕ) → file_answer file ≡ success → without_larger (flow_of file) ≡ false
    → (task : ℕ) × FirstLarger (flow_of file) task
    × (rows_answer (rows_of file) (version_of file) (workers_of file) (cells_of file) ≡ refusal 18 task)
writer_refuses file h some = Retired.first_refused file (file_keeps file (ap (λ (a : Answer). a.number) h)) some

-- ---- 3. A file is accepted as a flow whose bytes are the file, and whose rows are the file's

pub flow_bytes_lem : (file : List ℕ) (flow : Flow) → IsBytes file → check file ≡ accepted flow
    → (flow_bytes flow ≡ file) × (flow_rows flow ≡ rows_of file)
flow_bytes_lem file flow bytes h =
    let k = Accepted.accepted_kept file flow h in
    rw (← Accepted.accepted_flow file flow h) (Accepted.bytes_of_flow file k bytes, Accepted.rows_of_flow file k bytes)

-- ---- 4. The flow that a file is accepted as is of a known version and within the limits, and each of its tasks keeps the rules

pub accepted_sound : (file : List ℕ) (flow : Flow) → check file ≡ accepted flow → Sound flow
accepted_sound file flow h =
    rw (← Accepted.accepted_flow file flow h) (Accepted.flow_sound file (Accepted.accepted_kept file flow h))
