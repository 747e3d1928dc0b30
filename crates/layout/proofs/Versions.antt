-- The definitions compute, so each worked case of the version gives what is expected.
use mathlib.Core.Path.{◌≡◌, refl}
use mathlib.Core.List.{map}
use Rattle.layout.specs.Lists.{each, all, any, joined}
use Rattle.layout.specs.Bytes.{all_zero, padded}
use Rattle.layout.specs.Refusal.{first_broken, first_at}
use Rattle.layout.specs.Fletcher.{after}
use Rattle.layout.specs.Row.{task_of, mode_of, written, keeps_modes, all_keep_modes, accesses_sound, names, named_once, operations_sound, row_refusal}
use Rattle.layout.specs.Block.{block_refusal, body_of, block_of}
use Rattle.layout.specs.File.{file_answer}
use Rattle.layout.specs.Write.{file_of, rows_answer, write_answer}
use Rattle.layout.specs.Cases.{Case, once_written}
use Rattle.layout.specs.Versions.{version_told, in_version, eleven_rows, in_versions, writing, versions}

-- every case of the table gives what is expected
pub versions_hold : map (λ (c : Case). c.got) versions ≡ map (λ (c : Case). c.expected) versions
unfolding each all any joined all_zero padded first_broken first_at after task_of mode_of written keeps_modes all_keep_modes accesses_sound names named_once operations_sound row_refusal block_refusal body_of block_of file_answer file_of rows_answer write_answer once_written version_told in_version eleven_rows in_versions writing versions
versions_hold = refl
