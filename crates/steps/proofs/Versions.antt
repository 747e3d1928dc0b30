-- Operation 5 byte by byte is arithmetic with halves and bytes, and the two runs of the worked flow compute.
use mathlib.Core.Path.{◌≡◌, refl}
use mathlib.Core.Bool.{Bool, true, false, cond}
use mathlib.Core.List.{map}
use Prim.Native.Nat.{ℕ, ◌+◌, ◌*◌, ◌/◌, ◌%◌, ◌<◌}
use native.Mathlib.Omega.{arith}
use borrow.Author.Tests.{ne_eqb}
use lib.Dec.{eqb}
use Rattle.layout.specs.Lists.{each, all, any, joined}
use Rattle.layout.specs.Bytes.{word_size, all_zero, padded}
use Rattle.layout.specs.Refusal.{first_broken, first_at}
use Rattle.layout.specs.Fletcher.{after}
use Rattle.layout.specs.Row.{task_of, row_of, mode_of, written, keeps_modes, all_keep_modes, accesses_sound, names, named_once, operations_sound, row_refusal}
use Rattle.layout.specs.Block.{block_refusal, body_of, block_of}
use Rattle.layout.specs.File.{file_answer, flow_of}
use Rattle.layout.specs.Write.{file_of, flow_rows, flow_bytes}
use Rattle.layout.specs.Cases.{Case}
use Rattle.steps.specs.Operations.{cell_size, exchanged, high_half, becomes}
use Rattle.steps.specs.Plain.{after_operations, after_tasks}
use Rattle.steps.specs.Step.{of_each, own_steps, outcome, register_all, change, attempted, own_step, step_from, step}
use Rattle.steps.specs.Run.{counted, run_from, done_from, finished, access_steps, total_of}
use Rattle.steps.specs.Answers.{plain_answer, plain_cells, run_answer, run_told, run_cells}
use Rattle.steps.specs.Versions.{Swap, packs, fills, swaps, drives, two_fields, plain_in, owners_first, ran_in, both_versions}

-- what is kept of the high half, by whether the version is 2
abbrev kept : Bool → ℕ → ℕ
kept second b = cond second (high_half b) 0 + exchanged b

kept_low : (second : Bool) (b : ℕ) → kept second b % 256 ≡ b / 256 % 256
kept_low true b = omega arith
kept_low false b = omega arith

-- the last byte of a number with so many 256s before it
last_of : (upper last : ℕ) → last < 256 → (upper * 256 + last) % 256 ≡ last
last_of upper last h = omega arith

kept_high : (second : Bool) (b : ℕ) → kept second b / 256 % 256 ≡ b % 256
kept_high true b =
    let upper : kept true b / 256 ≡ b / word_size * 256 + b % 256 = omega arith in
    rw upper (last_of (b / word_size) (b % 256) (omega arith))
kept_high false b = omega arith

kept_fits : (second : Bool) (b : ℕ) → b < cell_size → kept second b < cell_size
kept_fits true b h = omega arith
kept_fits false b h = omega arith

pub swap : Swap
unfolding becomes
swap =
    record {
      low = λ version b. kept_low (eqb version 2) b;
      high = λ version b. kept_high (eqb version 2) b;
      keeps = λ b. omega arith;
      clears = λ b. omega arith;
      fits = λ version b h. kept_fits (eqb version 2) b h;
      of_b_alone = λ version k a a' b. refl;
      others_same = λ version code k a b other. rw (ne_eqb code 5 other);
    }

-- every case of the table gives what is expected
pub both_versions_hold : map (λ (c : Case). c.got) both_versions ≡ map (λ (c : Case). c.expected) both_versions
unfolding each all any joined all_zero padded first_broken first_at after task_of row_of mode_of written keeps_modes all_keep_modes accesses_sound names named_once operations_sound row_refusal block_refusal body_of block_of file_answer flow_of file_of flow_rows flow_bytes becomes after_operations after_tasks of_each own_steps outcome register_all change attempted own_step step_from step counted run_from done_from finished access_steps total_of plain_answer plain_cells run_answer run_told run_cells packs fills swaps drives two_fields plain_in owners_first ran_in both_versions
both_versions_hold = refl
