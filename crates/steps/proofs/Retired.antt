-- The definitions compute, so each worked case of operation 6 gives what is expected.
use mathlib.Core.Path.{◌≡◌, refl}
use mathlib.Core.List.{map}
use Rattle.layout.specs.Lists.{each, all, any, joined}
use Rattle.layout.specs.Bytes.{all_zero, padded}
use Rattle.layout.specs.Refusal.{first_broken, first_at}
use Rattle.layout.specs.Fletcher.{after}
use Rattle.layout.specs.Row.{task_of, row_of, mode_of, written, keeps_modes, all_keep_modes, accesses_sound, names, named_once, operations_sound, row_refusal}
use Rattle.layout.specs.Block.{block_refusal, body_of, block_of}
use Rattle.layout.specs.File.{file_answer, flow_of}
use Rattle.layout.specs.Write.{file_of, flow_rows, flow_bytes}
use Rattle.layout.specs.Cases.{Case}
use Rattle.steps.specs.Operations.{becomes}
use Rattle.steps.specs.Plain.{after_operations, after_tasks}
use Rattle.steps.specs.Step.{of_each, own_steps, outcome, register_all, change, attempted, own_step, step_from, step}
use Rattle.steps.specs.Run.{counted, run_from, done_from, finished, access_steps, total_of}
use Rattle.steps.specs.Answers.{plain_answer, plain_cells, run_answer, run_told, run_cells}
use Rattle.steps.specs.Retired.{compares, comparing, compared_plainly, compared_stepwise, compared}

-- every case of the table gives what is expected
pub compared_hold : map (λ (c : Case). c.got) compared ≡ map (λ (c : Case). c.expected) compared
unfolding each all any joined all_zero padded first_broken first_at after task_of row_of mode_of written keeps_modes all_keep_modes accesses_sound names named_once operations_sound row_refusal block_refusal body_of block_of file_answer flow_of file_of flow_rows flow_bytes becomes after_operations after_tasks of_each own_steps outcome register_all change attempted own_step step_from step counted run_from done_from finished access_steps total_of plain_answer plain_cells run_answer run_told run_cells compares comparing compared_plainly compared_stepwise compared
compared_hold = refl
