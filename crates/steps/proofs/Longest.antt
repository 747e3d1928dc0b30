-- Each case of the longest waits gives its figures: the definitions compute.
use mathlib.Core.Path.{◌≡◌, refl}
use mathlib.Core.List.{map}
use Rattle.layout.specs.Lists.{each, all, any, joined}
use Rattle.layout.specs.Bytes.{all_zero, padded}
use Rattle.layout.specs.Refusal.{first_broken, first_at}
use Rattle.layout.specs.Fletcher.{after}
use Rattle.layout.specs.Row.{task_of, row_of, mode_of, written, keeps_modes, all_keep_modes, accesses_sound, names, named_once, operations_sound, row_refusal}
use Rattle.layout.specs.Block.{block_refusal, body_of, block_of}
use Rattle.layout.specs.File.{file_answer, flow_of}
use Rattle.layout.specs.Write.{file_of, flow_rows, flow_bytes}
use Rattle.layout.specs.Cases.{Case}
use Rattle.steps.specs.Operations.{becomes}
use Rattle.steps.specs.Step.{of_each, own_steps, outcome, register_all, change, attempted, own_step, step_from, step}
use Rattle.steps.specs.Run.{counted, run_from, finished, access_steps, total_of}
use Rattle.steps.specs.Bench.{head, row1, row2, row3, flow_a, whole}
use Rattle.steps.specs.Turns.{turn}
use Rattle.steps.specs.Waiting.{own_total}
use Rattle.steps.specs.Longest.{long_task, long_flow, two_readers, as_number, figures, longest_of, held_after, longest}

pub longest_met : map (λ (c : Case). c.got) longest ≡ map (λ (c : Case). c.expected) longest
unfolding each all any joined all_zero padded first_broken first_at after task_of row_of mode_of written keeps_modes all_keep_modes accesses_sound names named_once operations_sound row_refusal block_refusal body_of block_of file_answer flow_of file_of flow_rows flow_bytes becomes of_each own_steps outcome register_all change attempted own_step step_from step counted run_from finished access_steps total_of head row1 row2 row3 flow_a whole turn own_total long_task long_flow two_readers as_number figures longest_of held_after longest
longest_met = refl
