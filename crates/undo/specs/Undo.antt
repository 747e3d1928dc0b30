-- The reader and the writer undo one another as calls: what `writer::write` and `reader::read` answer, and leave in the bytes lent to them, when the
-- one is called on what the other has written. `proofs/Theorems.antt` proves it of every outcome that their contracts allow, where the first of
-- the two calls is no refusal.
use Rattle.std.specs.Prelude.{◌≡◌, true, false, List, ℕ, ◌*◌, ◌<◌, ◌≤◌, length, take, drop}
use Rattle.layout.specs.Refusal.{refusal}
use Rattle.layout.specs.File.{flow_of}
use Rattle.layout.specs.Write.{row_count}
use Rattle.roundtrip.specs.Larger.{without_larger, FirstLarger}
use Rattle.reader.specs.Answers.{ReadAnswer, read_refused}
use Rattle.reader.specs.Promises.{ReadPromise}
use Rattle.writer.specs.Answers.{WriteAnswer, write_refused}
use Rattle.writer.specs.Promises.{WritePromise}

-- ---- what the second call gives

-- a read gives these rows, this version, workers and cells
pub record ReadGives (rows : List ℕ) (version workers cells : ℕ) (lent : List ℕ) (r : ReadAnswer) (lent_after : List ℕ) : Type 0 where
  -- it is no refusal
  pub number_is : r.number ≡ 0
  pub place_is : r.place ≡ 0
  -- the bytes are those of the rows, the tasks are as many as the rows, 48 bytes each
  pub bytes_are : r.bytes ≡ length rows
  pub tasks_are : r.tasks ≡ row_count rows
  pub whole_rows : 48 * r.tasks ≡ length rows
  -- the version, the workers and the cells are these
  pub version_is : r.version ≡ version
  pub workers_are : r.workers ≡ workers
  pub cells_are : r.cells ≡ cells
  -- the rows stand first in the lent rows, and the rest stays
  pub rows_first : take (length rows) lent_after ≡ rows
  pub rest_stays : drop (length rows) lent_after ≡ drop (length rows) lent

-- a write gives this file
pub record WriteGives (file out : List ℕ) (w : WriteAnswer) (left_out : List ℕ) : Type 0 where
  -- it is no refusal
  pub number_is : w.number ≡ 0
  pub place_is : w.place ≡ 0
  -- the bytes are those of the file
  pub bytes_are : w.bytes ≡ length file
  -- the file stands first in the lent output, and the rest stays
  pub file_first : take (length file) left_out ≡ file
  pub rest_stays : drop (length file) left_out ≡ drop (length file) out

-- ---- 1. The reader after the writer

-- after a write of rows, a version, workers and cells that is no refusal: the bytes written are the first `w.bytes` of the lent output
pub record ReaderAfterWriter (rows : List ℕ) (version workers cells : ℕ) (w : WriteAnswer) (left_out : List ℕ) : Type 0 where
  -- whoever reads them, into any lent rows that are long enough, has the rows, the version, the workers and the cells again
  pub comes_back : (lent : List ℕ) (r : ReadAnswer) (lent_after : List ℕ) → length rows ≤ length lent
      → ReadPromise (take w.bytes left_out) lent r lent_after
      → ReadGives rows version workers cells lent r lent_after
  -- into shorter ones: 16, place 0, zero counts, and no lent byte changed
  pub too_short : (lent : List ℕ) (r : ReadAnswer) (lent_after : List ℕ) → length lent < length rows
      → ReadPromise (take w.bytes left_out) lent r lent_after
      → (r ≡ read_refused (refusal 16 0)) × (lent_after ≡ lent)

-- ---- 2. The writer after the reader

-- after a read of a file that is no refusal: the rows read are the first `r.bytes` of the lent rows
pub record WriterAfterReader (file : List ℕ) (r : ReadAnswer) (lent_after : List ℕ) : Type 0 where
  -- without operation 6: whoever writes them, with the version, the workers and the cells that were answered, into any lent output that is long
  -- enough, has the file again
  pub comes_back : without_larger (flow_of file) ≡ true
      → (out : List ℕ) (w : WriteAnswer) (left_out : List ℕ)
      → length file ≤ length out
      → WritePromise (take r.bytes lent_after) r.version r.workers r.cells out w left_out
      → WriteGives file out w left_out
  -- into a shorter one: 16, place 0, zero bytes, and no lent byte changed
  pub too_short : without_larger (flow_of file) ≡ true
      → (out : List ℕ) (w : WriteAnswer) (left_out : List ℕ)
      → length out < length file
      → WritePromise (take r.bytes lent_after) r.version r.workers r.cells out w left_out
      → (w ≡ write_refused (refusal 16 0)) × (left_out ≡ out)
  -- with operation 6, into any lent output: 18, the first task that has it, zero bytes, and no lent byte changed
  pub refused : without_larger (flow_of file) ≡ false
      → (task : ℕ) × FirstLarger (flow_of file) task
      × ((out : List ℕ) (w : WriteAnswer) (left_out : List ℕ)
      → WritePromise (take r.bytes lent_after) r.version r.workers r.cells out w left_out
      → (w ≡ write_refused (refusal 18 task)) × (left_out ≡ out))
