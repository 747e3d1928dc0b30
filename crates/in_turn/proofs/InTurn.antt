-- A run under the schedule that names all workers in turn, the total times over, is no refusal and has finished.
use Rattle.std.proofs.Common.{◌≡◌, ℕ, ◌*◌, ◌≤◌, List, true, Result, Ok, Err, sym, ap₂, subst, ◌∙◌, rules}
use Rattle.std.specs.Result.{IsOk}
use Rattle.layout.specs.Flow.{most_workers}
use Rattle.layout.specs.File.{flow_of}
use Rattle.refusal.specs.declared.Refusal.{Refusal}
use Rattle.refusal.proofs.Unique.{number_positive}
use Rattle.steps.specs.Run.{largest_total}
use Rattle.steps.specs.Turns.{turns, in_turn}
use Rattle.steps.proofs.Largest.{steps_fit}
use Rattle.run.specs.declared.Ran.{Ran}
use Rattle.run.specs.Answers.{RunAnswer, answer_by}
use Rattle.run.specs.Promises.{RunPromise}
use Rattle.run.proofs.Unique.{finished_told}
use Rattle.run.proofs.Waiting.{run_waiting}
use Rattle.in_turn.specs.Promises.{Measures, InTurnPromise}

module _ {file : List ℕ} {workers total : ℕ} {cells : List ℕ} (measures : Measures file workers total cells) where
  -- no flow that was measured has more steps to make than there are bytes in the room
  pub few_steps : workers * total ≤ most_workers * largest_total
  few_steps =
      subst (λ (n : ℕ). n ≤ most_workers * largest_total) (sym (ap₂ ◌*◌ measures.workers_are measures.total_is)) (steps_fit _ measures.accepted)

  -- what the stepped run promises of that schedule
  pub in_turn_promised : (schedule : List ℕ) (r : RunAnswer) (after : List ℕ) → schedule ≡ turns workers (workers * total)
      → RunPromise file cells schedule r after
      → InTurnPromise file cells r after
  in_turn_promised schedule r after named promised =
      let here : RunPromise file cells (in_turn (flow_of file)) r after =
      subst (λ (bytes : List ℕ). RunPromise file cells bytes r after)
      (named ∙ ap₂ (λ (w t : ℕ). turns w (w * t)) measures.workers_are measures.total_is) promised in
      record { run = here; all_made = (run_waiting file cells measures.accepted measures.start).named_in_turn r after here }

-- it is no refusal
pub never_refused : (file cells : List ℕ) (r : Result Ran Refusal) (after : List ℕ) → InTurnPromise file cells (answer_by r) after → IsOk r
never_refused file cells (Ok ran) after promised = search rules
never_refused file cells (Err met) after promised = absurd (number_positive met.rule promised.all_made.taken)

-- and it has finished
pub has_finished : (file cells : List ℕ) (ran : Ran) (after : List ℕ) → InTurnPromise file cells (answer_by (Ok ran)) after → ran.finished ≡ true
has_finished file cells ran after promised = finished_told ran.finished true promised.all_made.is_finished
