-- The definitions compute, so each worked case of the check gives what is expected.
use mathlib.Core.Path.{◌≡◌, refl}
use mathlib.Core.List.{map}
use Rattle.layout.specs.Lists.{each, all, any, joined}
use Rattle.layout.specs.Bytes.{all_zero, padded}
use Rattle.layout.specs.Refusal.{first_broken, first_at}
use Rattle.layout.specs.Fletcher.{after}
use Rattle.layout.specs.Row.{task_of, mode_of, written, keeps_modes, all_keep_modes, accesses_sound, names, named_once, operations_sound, row_refusal}
use Rattle.layout.specs.Block.{block_refusal, body_of, block_of}
use Rattle.layout.specs.File.{file_answer}
use Rattle.layout.specs.Write.{file_of}
use Rattle.layout.specs.Cases.{Case, check_of, once_written, never_written, never_changed, no_such_owner, another_cell, two_written, cases}

-- every case of the table gives what is expected
pub cases_hold : map (λ (c : Case). c.got) cases ≡ map (λ (c : Case). c.expected) cases
unfolding each all any joined all_zero padded first_broken first_at after task_of mode_of written keeps_modes all_keep_modes accesses_sound names named_once operations_sound row_refusal block_refusal body_of block_of file_answer file_of check_of once_written never_written never_changed no_such_owner another_cell two_written cases
cases_hold = refl
