-- No accepted flow has a total above the largest, so naming its workers in turn, the total times over, is a schedule that the stepped run takes.
use mathlib.Core.Path.{◌≡◌}
use mathlib.Core.Bool.{Bool, true, false, cond}
use mathlib.Core.List.{List, [], ◌∷◌}
use Prim.Native.Nat.{ℕ, suc, ◌*◌, ◌≤◌, ◌<◌}
use native.Mathlib.Nat.{mul-le-mul_right}
use native.Mathlib.Omega.{arith}
use lib.ListN.{length}
use Rattle.layout.specs.Flow.{Access, Task, most_workers, most_accesses, most_operations}
use Rattle.layout.specs.File.{file_answer, flow_of}
use Rattle.roundtrip.specs.Sound.{Sound}
use Rattle.roundtrip.proofs.Theorems.{accepted_sound}
use Rattle.steps.specs.Step.{writes}
use Rattle.steps.specs.Run.{access_steps, total_of, total, most_of_task, largest_total}
use Rattle.steps.specs.Conflict.{no_task, task_at}
use Rattle.steps.proofs.Accepted.{accepted_flow}

access_most : (accesses : List Access) → access_steps accesses ≤ 4 * length accesses
unfolding access_steps
access_most [] = omega arith
access_most (access ∷ accesses) = omega (arith, one (writes access), access_most accesses)
  where
    one : (t : Bool) → cond t 4 2 ≤ 4
    one true = omega arith
    one false = omega arith

totals_most : (workers : ℕ) (tasks : List Task) → workers ≤ most_workers
    → ((i : ℕ) → i < length tasks → (length (task_at tasks i).accesses ≤ most_accesses) × (length (task_at tasks i).operations ≤ most_operations))
    → total_of workers tasks ≤ length tasks * most_of_task
unfolding total_of
totals_most workers [] few fit = omega arith
totals_most workers (task ∷ tasks) few fit =
    let here = fit 0 (omega arith) in
    omega (arith, here.0, here.1, access_most task.accesses, totals_most workers tasks few (λ i h. fit (suc i) (omega arith)))

module _ (file : List ℕ) (accepted : (file_answer file).number ≡ 0) where
  sound : Sound (flow_of file)
  sound = accepted_sound file (flow_of file) (accepted_flow file accepted)

  pub workers_fit : (flow_of file).workers ≤ most_workers
  workers_fit = sound.sizes.workers_fit

  pub total_fits : total (flow_of file) ≤ largest_total
  total_fits =
      omega (
        arith,
        sound.sizes.tasks_fit,
        totals_most (flow_of file).workers (flow_of file).tasks workers_fit
            (λ i h. ((sound.each_task i no_task h).accesses_fit, (sound.each_task i no_task h).operations_fit)),
      )

  pub steps_fit : (flow_of file).workers * total (flow_of file) ≤ most_workers * largest_total
  steps_fit = omega (arith, total_fits, mul-le-mul_right (total (flow_of file)) workers_fit)
