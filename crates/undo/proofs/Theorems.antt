-- The reader and the writer undo one another as calls. A call that answers 0 has kept its rules, and what it wrote stands first in what was lent: the
-- file of the rows, or the rows of the file. By the theorems of `roundtrip` the other call's rules are then kept, too, and of the file of the
-- rows it gives the rows, of the rows of the file the file. Only the room is left to ask; but where a task has operation 6, the writer refuses its rows.
use mathlib.Core.Path.{◌≡◌, sym, ap, ◌∙◌}
use mathlib.Core.Bool.{true}
use mathlib.Core.List.{List}
use Prim.Native.Nat.{ℕ, ◌*◌}
use native.Mathlib.Omega.{arith}
use lib.ListN.{length, take}
use Rattle.layout.specs.Bytes.{IsBytes}
use Rattle.layout.specs.Refusal as Rules
use Rattle.layout.specs.Refusal.{success, refusal}
use Rattle.layout.specs.Block.{blocks_for}
use Rattle.layout.specs.File.{file_answer, flow_of, rows_of, version_of, workers_of, cells_of}
use Rattle.layout.specs.Write.{row_count, rows_answer}
use Rattle.roundtrip.specs.Larger.{without_larger}
use Rattle.roundtrip.proofs.Answers.{file_keeps, keeps_file}
use Rattle.roundtrip.proofs.Theorems as ByRules
use Rattle.reader.specs.Answers.{ReadAnswer}
use Rattle.reader.specs.Promises.{ReadPromise}
use Rattle.writer.specs.Answers.{WriteAnswer, write_with}
use Rattle.writer.specs.Promises.{WritePromise}
use Rattle.undo.specs.Undo.{ReaderAfterWriter, WriterAfterReader}
use Rattle.undo.proofs.Filled.{rules_kept, fits, refused_16, refused_first}
use Rattle.undo.proofs.Calls.{read_fills, rows_long, read_gives, file_for, write_fills, reads_back, accepts, file_long, write_gives}

-- ---- 1. The reader after the writer

pub reader_after_writer : (rows : List ℕ) (version workers cells : ℕ) (out : List ℕ) (w : WriteAnswer) (left_out : List ℕ)
    → WritePromise rows version workers cells out w left_out
    → w.number ≡ 0
    → ReaderAfterWriter rows version workers cells w left_out
reader_after_writer rows version workers cells out w left_out promised none =
    let made = write_gives promised none in
    let kept = rules_kept (write_fills promised) none in
    let back = reads_back rows version workers cells kept in
    let accepted = accepts rows version workers cells kept in
    let file_is : take w.bytes left_out ≡ file_for rows version workers cells =
    ap (λ (n : ℕ). take n left_out) made.bytes_are ∙ made.file_first in
    let needed = sym (ap length back.same_rows) ∙ rows_long (file_for rows version workers cells) accepted in
    record {
      comes_back =
          λ lent r lent_after room read.
          let again = rw file_is at read in
          rw (back.same_rows, back.same_version, back.same_workers, back.same_cells)
          at (read_gives again (fits (read_fills again) accepted (rw needed at room)));
      too_short = λ lent r lent_after room read. refused_16 (read_fills (rw file_is at read)) accepted (rw needed at room);
    }

-- ---- 2. The writer after the reader

-- after a read that is no refusal
module _ {file lent : List ℕ} {r : ReadAnswer} {lent_after : List ℕ} (promised : ReadPromise file lent r lent_after) (none : r.number ≡ 0) where
  accepted : file_answer file ≡ success
  accepted = keeps_file file (file_keeps file (rules_kept (read_fills promised) none))

  -- whoever writes what was read writes the rows, the version, the workers and the cells of the file
  written_again : {out : List ℕ} {w : WriteAnswer} {left_out : List ℕ}
      → WritePromise (take r.bytes lent_after) r.version r.workers r.cells out w left_out
      → WritePromise (rows_of file) (version_of file) (workers_of file) (cells_of file) out w left_out
  written_again write =
      let read = read_gives promised none in
      let rows_are : take r.bytes lent_after ≡ rows_of file =
      ap (λ (n : ℕ). take n lent_after) read.bytes_are ∙ read.rows_first in
      rw (rows_are, read.version_is, read.workers_are, read.cells_are) at write

pub writer_after_reader : (file lent : List ℕ) (r : ReadAnswer) (lent_after : List ℕ) → IsBytes file
    → ReadPromise file lent r lent_after
    → r.number ≡ 0
    → WriterAfterReader file r lent_after
writer_after_reader file lent r lent_after bytes promised none =
    record {
      comes_back =
          λ without out w left_out room write.
          let again = written_again promised none write in
          rw same_file at (write_gives again (fits (write_fills again) (kept without) (rw (needed without) at room)));
      too_short =
          λ without out w left_out room write.
          refused_16 (write_fills (written_again promised none write)) (kept without) (rw (needed without) at room);
      refused =
          λ used.
          let met = ByRules.writer_refuses file (accepted promised none) used in (
            met.0,
            met.1,
            λ out w left_out write.
                let given = refused_first (write_fills (written_again promised none write)) (number_18 met.2) in
                (given.0 ∙ ap (λ (a : Rules.Answer). write_with a (rows_of file)) met.2, given.1),
          );
    }
  where
    same_file : file_for (rows_of file) (version_of file) (workers_of file) (cells_of file) ≡ file
    same_file = ByRules.rows_make_file file bytes (accepted promised none)

    kept : without_larger (flow_of file) ≡ true → (rows_answer (rows_of file) (version_of file) (workers_of file) (cells_of file)).number ≡ 0
    kept without = ap (λ (a : Rules.Answer). a.number) (ByRules.writer_after_reader file bytes (accepted promised none) without).0

    needed : without_larger (flow_of file) ≡ true → length file ≡ 512 * blocks_for (row_count (rows_of file))
    needed without = sym (ap length same_file) ∙ file_long (rows_of file) (version_of file) (workers_of file) (cells_of file) (kept without)

    number_18 : {task : ℕ} → rows_answer (rows_of file) (version_of file) (workers_of file) (cells_of file) ≡ refusal 18 task → (rows_answer (rows_of file) (version_of file) (workers_of file) (cells_of file)).number ≡ 0 → ⊥
    number_18 e zero = omega (arith, sym (ap (λ (a : Rules.Answer). a.number) e) ∙ zero)
