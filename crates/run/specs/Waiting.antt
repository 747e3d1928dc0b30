-- How long it can be kept waiting, of the code (02, Q-10): what the stepped run answers under schedules of stretches. `proofs/Waiting.antt` proves it of every
-- accepted file, of as many starting cells as the flow's, and of every outcome that the contract of the stepped run allows.
use Rattle.std.specs.Prelude.{◌≡◌, List, [], ◌∷◌, ◌++◌, ℕ, ◌+◌, ◌<◌, ◌≤◌, length, take}
use Rattle.layout.specs.Flow.{most_schedule}
use Rattle.layout.specs.File.{flow_of}
use Rattle.steps.specs.Run.{total}
use Rattle.steps.specs.Turns.{Stretch, Turn, stretches, in_turn}
use Rattle.steps.specs.Waiting.{Budget}
use Rattle.run.specs.Answers.{RunAnswer}
use Rattle.run.specs.Promises.{RunPromise}
use Rattle.run.specs.Demand.{flow_in}

-- no refusal, finished, and as many steps advanced as the total
pub record AllMade (file : List ℕ) (r : RunAnswer) : Type 0 where
  pub taken : r.number ≡ 0
  pub is_finished : r.finished ≡ 1
  pub advanced_is : r.advanced ≡ total (flow_of file)

-- an outcome that the contract allows, and that is no refusal
pub record Answers (file cells schedule : List ℕ) (r : RunAnswer) : Type 0 where
  pub after : List ℕ
  pub promised : RunPromise file cells schedule r after
  pub taken : r.number ≡ 0

pub record RunWaiting (file cells : List ℕ) : Type 0 where
  -- a. where naming a worker next makes the count of advancing steps one more, it still does after a step of another
  pub stays_free : (schedule : List ℕ) (w other : ℕ) → (other ≡ w → ⊥)
      → (r r_named later later_named : RunAnswer) → Answers file cells schedule r → Answers file cells (schedule ++ w ∷ []) r_named
      → Answers file cells (schedule ++ other ∷ []) later → Answers file cells ((schedule ++ other ∷ []) ++ w ∷ []) later_named
      → r_named.advanced ≡ r.advanced + 1
      → later_named.advanced ≡ later.advanced + 1
  -- b. where it answers that it has not finished, a stretch that names each worker makes the count larger
  pub some_advances : (schedule stretch : List ℕ) (r s : RunAnswer) → Answers file cells schedule r → r.finished ≡ 0
      → Stretch (flow_of file).workers stretch → Answers file cells (schedule ++ stretch) s
      → r.advanced < s.advanced
  -- c. as many stretches as the total, in a schedule that is not too long, finish
  pub stretches_finish : (order : ℕ → List ℕ) → ((k : ℕ) → k < total (flow_of file) → Stretch (flow_of file).workers (order k))
      → length (stretches order (total (flow_of file))) ≤ most_schedule
      → (r : RunAnswer) (after : List ℕ) → RunPromise file cells (stretches order (total (flow_of file))) r after → AllMade file r
  -- "so naming all workers in turn, the total times over, always finishes"
  pub named_in_turn : (r : RunAnswer) (after : List ℕ) → RunPromise file cells (in_turn (flow_of file)) r after → AllMade file r
  -- the worst case: with every worker named once in each stretch, as long as it answers that it has not finished
  pub within_budget : (order : ℕ → List ℕ) → ((k : ℕ) → Turn (flow_of file).workers (order k))
      → (n many : ℕ) → n ≤ length (stretches order many)
      → (r : RunAnswer) → Answers file cells (take n (stretches order many)) r → r.finished ≡ 0
      → Budget (flow_in file) (flow_of file).workers n r.held
