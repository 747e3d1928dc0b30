-- The reader and the writer are calls that fill lent bytes: the reader's are the rows that stand in the file, 48 a task, and the writer's the
-- file of the rows, 512 a block.
use mathlib.Core.Path.{◌≡◌, refl, sym, ap, ◌∙◌}
use mathlib.Core.List.{List}
use Prim.Native.Nat.{ℕ, ◌*◌}
use native.Mathlib.Omega.{arith}
use lib.ListN.{length}
use Rattle.layout.specs.Refusal as Rules
use Rattle.layout.specs.Block.{blocks_for}
use Rattle.layout.specs.File.{file_answer, read_answer, rows_of, version_of, tasks_of, workers_of, cells_of}
use Rattle.layout.specs.Write.{file_of, row_count, rows_answer, write_answer}
use Rattle.roundtrip.proofs.Answers.{file_keeps, rows_keep, keep_rows}
use Rattle.roundtrip.proofs.Read.{rows_length}
use Rattle.roundtrip.proofs.Theorems.{ReadBack, reader_after_writer}
use Rattle.file.proofs.Outcomes.{rows_stand}
use Rattle.reader.specs.Answers.{ReadAnswer, read_with}
use Rattle.reader.specs.Promises.{ReadPromise}
use Rattle.writer.specs.Answers.{WriteAnswer, write_with}
use Rattle.writer.specs.Promises.{WritePromise}
use Rattle.undo.specs.Undo.{ReadGives, WriteGives}
use Rattle.undo.proofs.Filled.{Filled, rules_kept, tells_success, stands_first, rest_stays}

-- ---- the reader

-- a read fills the lent rows
abbrev pub FillsRows : List ℕ → List ℕ → ReadAnswer → List ℕ → Type 0
FillsRows file lent r after =
    Filled (λ (a : ReadAnswer). a.number) (λ (met : Rules.Answer). read_with met file) (file_answer file) (48 * tasks_of file) (rows_of file) lent r after

pub read_fills : {file lent : List ℕ} {r : ReadAnswer} {after : List ℕ} → ReadPromise file lent r after → FillsRows file lent r after
unfolding read_answer
read_fills promised = record { answer = promised.answer; numbered = λ a. refl; left = promised.lent }

-- the rows of an accepted file are as long as its tasks say
pub rows_long : (file : List ℕ) → (file_answer file).number ≡ 0 → length (rows_of file) ≡ 48 * tasks_of file
rows_long file accepted = rows_length file (file_keeps file accepted)

-- a read that answers 0 gives the rows, the version, the workers and the cells of the file
pub read_gives : {file lent : List ℕ} {r : ReadAnswer} {after : List ℕ} → ReadPromise file lent r after → r.number ≡ 0
    → ReadGives (rows_of file) (version_of file) (workers_of file) (cells_of file) lent r after
read_gives {file} {lent} {r} promised none =
    let f = read_fills promised in
    let is = tells_success f none in
    let long = rows_long file (rules_kept f none) in
    let tasks_told : r.tasks ≡ tasks_of file = ap (λ (a : ReadAnswer). a.tasks) is in
    record {
      number_is = none;
      place_is = ap (λ (a : ReadAnswer). a.place) is;
      bytes_are = ap (λ (a : ReadAnswer). a.bytes) is ∙ sym long;
      tasks_are = omega arith;
      whole_rows = omega arith;
      version_is = ap (λ (a : ReadAnswer). a.version) is;
      workers_are = ap (λ (a : ReadAnswer). a.workers) is;
      cells_are = ap (λ (a : ReadAnswer). a.cells) is;
      rows_first = stands_first f none;
      rest_stays = rest_stays f none;
    }

-- ---- the writer

-- the file of some rows
abbrev pub file_for : List ℕ → ℕ → ℕ → ℕ → List ℕ
file_for rows version workers cells = file_of version (row_count rows) workers cells rows

-- a write fills the lent output
abbrev pub FillsFile : List ℕ → ℕ → ℕ → ℕ → List ℕ → WriteAnswer → List ℕ → Type 0
FillsFile rows version workers cells out w after =
    Filled (λ (a : WriteAnswer). a.number) (λ (met : Rules.Answer). write_with met rows) (rows_answer rows version workers cells)
    (512 * blocks_for (row_count rows)) (file_for rows version workers cells) out w after

pub write_fills : {rows : List ℕ} {version workers cells : ℕ} {out : List ℕ} {w : WriteAnswer} {after : List ℕ}
    → WritePromise rows version workers cells out w after
    → FillsFile rows version workers cells out w after
unfolding write_answer
write_fills promised = record { answer = promised.answer; numbered = λ a. refl; left = promised.lent }

module _ (rows : List ℕ) (version workers cells : ℕ) (kept : (rows_answer rows version workers cells).number ≡ 0) where
  -- the file of rows that keep the rules is accepted, and holds them
  pub reads_back : ReadBack (file_for rows version workers cells) rows version workers cells
  reads_back = reader_after_writer rows version workers cells (keep_rows rows version workers cells (rows_keep rows version workers cells kept))

  pub accepts : (file_answer (file_for rows version workers cells)).number ≡ 0
  accepts = ap (λ (a : Rules.Answer). a.number) reads_back.succeeds

  -- it is as long as its blocks say
  pub file_long : length (file_for rows version workers cells) ≡ 512 * blocks_for (row_count rows)
  file_long =
      rows_stand (file_for rows version workers cells) accepts ∙ ap (λ (tasks : ℕ). 512 * blocks_for tasks) reads_back.same_tasks

-- a write that answers 0 gives the file of the rows
pub write_gives : {rows : List ℕ} {version workers cells : ℕ} {out : List ℕ} {w : WriteAnswer} {after : List ℕ}
    → WritePromise rows version workers cells out w after
    → w.number ≡ 0
    → WriteGives (file_for rows version workers cells) out w after
write_gives {rows} {version} {workers} {cells} promised none =
    let f = write_fills promised in
    let is = tells_success f none in
    record {
      number_is = none;
      place_is = ap (λ (a : WriteAnswer). a.place) is;
      bytes_are = ap (λ (a : WriteAnswer). a.bytes) is ∙ sym (file_long rows version workers cells (rules_kept f none));
      file_first = stands_first f none;
      rest_stays = rest_stays f none;
    }
