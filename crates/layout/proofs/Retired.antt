-- Where 'the larger of' is not retired, a row is asked what it was asked before rule 18; and the definitions compute, so each worked case of the
-- rule gives what is expected.
use mathlib.Core.Path.{◌≡◌, refl}
use mathlib.Core.Bool.{false}
use mathlib.Core.List.{List, [], ◌∷◌, map}
use Prim.Native.Nat.{ℕ}
use Rattle.layout.specs.Lists.{each, all, any, joined}
use Rattle.layout.specs.Bytes.{all_zero, padded}
use Rattle.layout.specs.Refusal.{first_broken, first_at}
use Rattle.layout.specs.Fletcher.{after}
use Rattle.layout.specs.Row.{task_of, mode_of, written, keeps_modes, all_keep_modes, owner_sound, counts_sound, accesses_sound, names, named_once}
use Rattle.layout.specs.Row.{operations_sound, modes_sound, writes_made, row_refusal}
use Rattle.layout.specs.Block.{block_refusal, body_of, block_of}
use Rattle.layout.specs.File.{file_answer}
use Rattle.layout.specs.Write.{file_of, rows_answer, write_answer}
use Rattle.layout.specs.Cases.{Case, once_written, no_such_owner}
use Rattle.layout.specs.Versions.{writing}
use Rattle.layout.specs.Retired.{of_codes, larger, reading, retirement}

-- the rules of a row before 02's Q-9
pub as_before : (workers cells : ℕ) (row : List ℕ)
    → row_refusal false workers cells row
    ≡ first_broken
    ((6, owner_sound workers row)
    ∷ (7, counts_sound row)
    ∷ (8, accesses_sound cells row)
    ∷ (9, named_once (task_of row).accesses)
    ∷ (10, operations_sound cells row)
    ∷ (11, modes_sound (task_of row))
    ∷ (17, writes_made (task_of row))
    ∷ [])
unfolding row_refusal first_broken
as_before workers cells row = refl

-- every case of the table gives what is expected
pub retirement_holds : map (λ (c : Case). c.got) retirement ≡ map (λ (c : Case). c.expected) retirement
unfolding each all any joined all_zero padded first_broken first_at after task_of mode_of written keeps_modes all_keep_modes accesses_sound names named_once operations_sound row_refusal block_refusal body_of block_of file_answer file_of rows_answer write_answer once_written no_such_owner writing of_codes larger reading retirement
retirement_holds = refl
