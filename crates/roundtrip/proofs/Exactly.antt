-- The accepted files without operation 6 are exactly those that the writer makes of rows that it accepts.
use mathlib.Core.Path.{◌≡◌, sym}
use mathlib.Core.Bool.{true}
use mathlib.Core.Logic.{◌↔◌}
use mathlib.Core.List.{List}
use Prim.Native.Nat.{ℕ}
use Rattle.layout.specs.Bytes.{IsBytes}
use Rattle.layout.specs.Refusal.{success}
use Rattle.layout.specs.File.{file_answer, version_of, workers_of, cells_of, flow_of, rows_of}
use Rattle.layout.specs.Write.{file_of, row_count, rows_answer}
use Rattle.roundtrip.specs.Larger.{without_larger}
use Rattle.roundtrip.proofs.Read
use Rattle.roundtrip.proofs.Theorems.{reader_after_writer, writer_after_reader}

pub accepted_exactly : (file : List ℕ) → IsBytes file
    → ((file_answer file ≡ success) × (without_larger (flow_of file) ≡ true))
    ↔ ((rows : List ℕ) × (version : ℕ) × (workers : ℕ) × (cells : ℕ) × IsBytes rows × (rows_answer rows version workers cells ≡ success)
    × (file ≡ file_of version (row_count rows) workers cells rows))
accepted_exactly file bytes = (
  (λ h.
      let back = writer_after_reader file bytes h.0 h.1 in
      (rows_of file, version_of file, workers_of file, cells_of file, Read.rows_bytes file bytes, back.0, sym back.1)),
  (λ made.
      let back = reader_after_writer made.0 made.1 made.2 made.3 made.5 in
      rw made.6 (back.succeeds, back.no_larger)),
)
