-- What the writer answers and what it leaves in the lent output, out of the definitions of the file (01, "Numbers of refusal").
-- The count of bytes is zero with a refusal, and no lent byte changes.
use Rattle.std.specs.Prelude.{List, ℕ, Result, Ok, Err, ◌*◌, length}
use Rattle.layout.specs.Refusal as Rules
use Rattle.layout.specs.Block.{blocks_for}
use Rattle.layout.specs.File.{told, lent_after}
use Rattle.layout.specs.Write.{write_answer, row_count, file_of}
use Rattle.refusal.specs.declared.Refusal.{Refusal}
use Rattle.refusal.specs.Numbers.{answer_of}

-- an answer in 01's terms: number and place, and the bytes written
pub record WriteAnswer : Type 0 where
  pub number : ℕ
  pub place : ℕ
  pub bytes : ℕ

-- a refusal, with zero bytes
abbrev pub write_refused : Rules.Answer → WriteAnswer
write_refused met = record { number = met.number; place = met.place; bytes = 0 }

-- the answer for a number and a place that are met: 512 bytes a block, zero with a refusal
abbrev pub write_with : Rules.Answer → List ℕ → WriteAnswer
write_with met rows =
    record { number = met.number; place = met.place; bytes = told met (512 * blocks_for (row_count rows)) }

-- the number and values of each case
abbrev pub answer_by : Result ℕ Refusal → WriteAnswer
answer_by (Ok bytes) = record { number = 0; place = 0; bytes = bytes }
answer_by (Err met) = write_refused (answer_of met)

-- the writer's answer
abbrev pub write_is : List ℕ → ℕ → ℕ → ℕ → List ℕ → WriteAnswer
write_is rows version workers cells out = write_with (write_answer rows version workers cells (length out)) rows

-- the lent output after the call
abbrev pub out_after : List ℕ → ℕ → ℕ → ℕ → List ℕ → List ℕ
out_after rows version workers cells out =
    lent_after (write_answer rows version workers cells (length out)) (file_of version (row_count rows) workers cells rows) out
