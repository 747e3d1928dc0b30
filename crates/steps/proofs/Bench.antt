-- P1 to P10: the definitions compute, so each case gives what is expected.
use mathlib.Core.Path.{◌≡◌, refl}
use mathlib.Core.List.{map}
use Rattle.layout.specs.Lists.{each, all, any}
use Rattle.layout.specs.Bytes.{all_zero, padded}
use Rattle.layout.specs.Refusal.{first_broken, first_at}
use Rattle.layout.specs.Fletcher.{after}
use Rattle.layout.specs.Row.{task_of, mode_of, written, keeps_modes, all_keep_modes, accesses_sound, names, named_once, operations_sound, row_refusal}
use Rattle.layout.specs.Block.{block_refusal, body_of, block_of}
use Rattle.layout.specs.File.{file_answer, flow_of, checked_as}
use Rattle.layout.specs.Cases.{Case}
use Rattle.steps.specs.Operations.{becomes}
use Rattle.steps.specs.Plain.{after_operations, after_tasks}
use Rattle.steps.specs.Step.{of_each, own_steps, outcome, register_all, change, attempted, own_step, step_from, step}
use Rattle.steps.specs.Run.{counted, run_from, done_from, finished, access_steps, total_of}
use Rattle.steps.specs.Held.{named_from, held_for, latter, latest_of}
use Rattle.steps.specs.Answers.{plain_answer, plain_cells, run_answer, run_told, run_held, run_cells}
use Rattle.steps.specs.Bench.{head, row1, row2, row3, flow_a, plain_of, ran_on, held_numbers, held_on, read_then_written, held_by_reads, latest, posted_on, sums_of, made_on, unposted, whole, bench}

-- every case of the table gives what is expected
pub bench_holds : map (λ (c : Case). c.got) bench ≡ map (λ (c : Case). c.expected) bench
unfolding each all any all_zero first_broken first_at after task_of mode_of written keeps_modes all_keep_modes accesses_sound names named_once operations_sound row_refusal block_refusal body_of block_of file_answer flow_of checked_as becomes after_operations after_tasks of_each own_steps outcome register_all change attempted own_step step_from step counted run_from done_from finished access_steps total_of plain_answer plain_cells run_answer run_told run_held run_cells named_from held_for latter latest_of padded head row1 row2 row3 flow_a plain_of ran_on held_numbers held_on read_then_written held_by_reads latest posted_on sums_of made_on unposted whole bench
bench_holds = refl
