-- The worst case from what is measured: the owners' steps are the total less the others', and each task has one of them at least, so as many stretches have no
-- fewer steps than the total.
use mathlib.Core.Path.{◌≡◌, refl, sym, ap, ap₂, ◌∙◌}
use mathlib.Core.List.{List, [], ◌∷◌}
use Prim.Native.Nat.{ℕ, suc, ◌+◌, ◌-◌, ◌*◌, ◌≤◌, ◌<◌}
use native.Mathlib.Nat.{mul-le-mul_right}
use native.Mathlib.Omega.{arith}
use borrow.Author.Tests.{ne_eqb}
use Rattle.std.proofs.Common.{Ok, Err}
use lib.ListN.{length}
use Rattle.layout.specs.Flow.{Task, most_tasks, most_workers}
use Rattle.layout.specs.Refusal as Rules
use Rattle.layout.specs.Refusal.{refusal}
use Rattle.layout.specs.File.{file_answer, flow_of}
use Rattle.roundtrip.specs.Sound.{Sound}
use Rattle.roundtrip.proofs.Theorems.{accepted_sound}
use Rattle.file.proofs.Outcomes.{succeeds}
use Rattle.steps.specs.Run.{total, largest_total}
use Rattle.steps.specs.Conflict.{no_task, task_at}
use Rattle.steps.specs.Waiting.{own_total}
use Rattle.steps.proofs.Accepted.{accepted_flow}
use Rattle.steps.proofs.Largest.{total_fits}
use Rattle.steps.proofs.OwnSteps.{own_steps_lem, some_own_step}
use Rattle.steps.proofs.Waiting.{total_split, times_less}
use Rattle.refusal.specs.declared.Refusal.{Refusal}
use Rattle.refusal.specs.Numbers.{number_of, answer_of}
use Rattle.refusal.proofs.Unique.{number_positive}
use Rattle.measure.specs.declared.Measured.{Measured}
use Rattle.measure.specs.Answers.{MeasureAnswer, answer_by as measured_by}
use Rattle.measure.specs.Promises.{MeasurePromise}
use Rattle.measure.proofs.Accepted.{accepted, tasks_are, workers_are, total_is}
use Rattle.longest.specs.Answers.{LongestAnswer, longest_with, answer_by}
use Rattle.longest.specs.Promises.{WorstCasePromise}

abbrev told : ℕ → ℕ → ℕ → ℕ → ℕ → ℕ → LongestAnswer
told number place total stretches steps held =
    record { number = number; place = place; total = total; stretches = stretches; steps = steps; held = held }

-- each task has a step of its owner
own_some : (tasks : List Task) → ((i : ℕ) → i < length tasks → 1 ≤ length (task_at tasks i).accesses) → length tasks ≤ own_total tasks
unfolding own_total
own_some [] some = omega arith
own_some (task ∷ tasks) some =
    omega (arith, own_steps_lem task, some_own_step task (some 0 (omega arith)), own_some tasks (λ i h. some (suc i) (omega arith)))

-- a refusal tells zeros
pub figures_refused : (file : List ℕ) (met : Refusal) → MeasurePromise file (measured_by (Err met)) → WorstCasePromise file (answer_by (Err met))
figures_refused file met promised =
    let zeros : answer_by (Err met) ≡ longest_with (answer_of met) (flow_of file) = rw (ne_eqb (number_of met.rule) 0 (number_positive met.rule)) in
    let number_is : number_of met.rule ≡ (file_answer file).number = ap (λ (m : MeasureAnswer). m.number) promised.answer in
    let place_is : met.place ≡ (file_answer file).place = ap (λ (m : MeasureAnswer). m.place) promised.answer in
    record {
      answer = zeros ∙ ap₂ (λ (number place : ℕ). longest_with (refusal number place) (flow_of file)) number_is place_is;
    }

-- what the sums of the code rest on, where `own` is the owners' steps
pub record Figures (measured : Measured) (own : ℕ) : Type 0 where
  pub some_worker : 1 ≤ measured.flow.workers
  pub workers_fit : measured.flow.workers ≤ most_workers
  pub others_fit : measured.flow.tasks * (measured.flow.workers - 1) ≤ most_tasks * (most_workers - 1)
  pub total_fits : measured.total ≤ largest_total
  pub total_is : measured.total ≡ own + measured.flow.tasks * (measured.flow.workers - 1)
  pub steps_fit : own * measured.flow.workers ≤ largest_total * most_workers
  pub total_below : measured.total ≤ own * measured.flow.workers

module _ (file : List ℕ) (measured : Measured) (promised : MeasurePromise file (measured_by (Ok measured))) where
  abbrev own : ℕ
  own = own_total (flow_of file).tasks

  is_accepted : (file_answer file).number ≡ 0
  is_accepted = accepted file (measured_by (Ok measured)) promised refl

  with_workers : measured.flow.workers ≡ (flow_of file).workers
  with_workers = workers_are file (measured_by (Ok measured)) promised refl

  with_tasks : measured.flow.tasks ≡ length (flow_of file).tasks
  with_tasks = tasks_are file (measured_by (Ok measured)) promised refl

  with_total : measured.total ≡ total (flow_of file)
  with_total = total_is file (measured_by (Ok measured)) promised refl

  sound : Sound (flow_of file)
  sound = accepted_sound file (flow_of file) (accepted_flow file is_accepted)

  some : 1 ≤ measured.flow.workers
  some = omega (arith, with_workers, sound.sizes.some_worker)

  most : measured.flow.workers ≤ most_workers
  most = omega (arith, with_workers, sound.sizes.workers_fit)

  largest : measured.total ≤ largest_total
  largest = omega (arith, with_total, total_fits file is_accepted)

  few : measured.flow.tasks ≤ most_tasks
  few = omega (arith, with_tasks, sound.sizes.tasks_fit)

  split : measured.total ≡ own + measured.flow.tasks * (measured.flow.workers - 1)
  split =
      with_total ∙ total_split (flow_of file).workers (flow_of file).tasks
      ∙ ap₂ (λ (tasks workers : ℕ). own + tasks * (workers - 1)) (sym with_tasks) (sym with_workers)

  tasks_below : measured.flow.tasks ≤ own
  tasks_below = omega (arith, with_tasks, own_some (flow_of file).tasks (λ i h. (sound.each_task i no_task h).some_access))

  pub figures : Figures measured own
  figures =
      record {
        some_worker = some;
        workers_fit = most;
        others_fit = omega (arith, mul-le-mul_right (measured.flow.workers - 1) few);
        total_fits = largest;
        total_is = split;
        steps_fit = omega (arith, mul-le-mul_right measured.flow.workers (own_fits (omega (arith, split))));
        total_below = omega (arith, split, times_less own measured.flow.workers some, mul-le-mul_right (measured.flow.workers - 1) tasks_below);
      }
    where
      own_fits : own ≤ measured.total → own ≤ largest_total
      own_fits h = omega (arith, largest)

  -- what is left of the total is the owners' steps
  pub left_is : measured.total - measured.flow.tasks * (measured.flow.workers - 1) ≡ own
  left_is = omega (arith, split)

  pub figures_are : (stretches steps : ℕ) → stretches ≡ own → steps ≡ stretches * measured.flow.workers
      → WorstCasePromise file (told 0 0 measured.total stretches steps (steps - measured.total))
  figures_are stretches steps e f =
      let steps-are : steps ≡ own * (flow_of file).workers = f ∙ ap₂ ◌*◌ e with_workers in
      record {
        answer =
            (λ i. told 0 0 (with_total i) (e i) (steps-are i) (steps-are i - with_total i))
            ∙ ap (λ (met : Rules.Answer). longest_with met (flow_of file)) (succeeds file is_accepted);
      }
