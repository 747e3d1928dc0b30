-- Why a worker was held, of the code (02, Q-1): what the stepped run answers, said of the bytes of the schedule. `proofs/Held.antt` proves it of every
-- outcome that the contract of the stepped run allows.
use Rattle.std.specs.Prelude.{◌≡◌, List, ℕ, ◌+◌, ◌<◌, ◌≤◌, get_or, replicate}
use Rattle.layout.specs.Flow.{most_workers}
use Rattle.layout.specs.File.{flow_of}
use Rattle.steps.specs.Step.{Outcome}
use Rattle.steps.specs.Held.{reason_of, cell_of, Latest}
use Rattle.steps.specs.Answers.{run_told}
use Rattle.run.specs.Answers.{RunAnswer}
use Rattle.run.specs.Demand.{flow_in}

-- the reason and the cell that are answered for a worker, as numbers
pub record Says (r : RunAnswer) (w : ℕ) (why : Outcome) : Type 0 where
  pub reason_is : get_or r.reasons w 0 ≡ reason_of why
  pub cell_is : get_or r.cells w 0 ≡ cell_of why

-- nothing was held
pub record NoneHeld (r : RunAnswer) : Type 0 where
  pub counts : (r.past_last ≡ 0) × (r.write_differs ≡ 0) × (r.reads_differ ≡ 0)
  pub latest : (r.reasons ≡ replicate most_workers 0) × (r.cells ≡ replicate most_workers 0)

pub record RunHeld (file cells schedule : List ℕ) (r : RunAnswer) : Type 0 where
  -- "the three add up to held"
  pub adds_up : r.past_last + r.write_differs + r.reads_differ ≡ r.held
  -- "the reason and cell of its latest held step": of the last byte at which the worker was named and held
  pub latest : r.number ≡ 0 → (w : ℕ) → w < most_workers → (why : Outcome) × Latest (flow_in file) cells schedule w why × Says r w why
  -- a worker that the flow does not have has 0, 0
  pub not_there : (w : ℕ) → (flow_of file).workers ≤ w → w < most_workers → (get_or r.reasons w 0 ≡ 0) × (get_or r.cells w 0 ≡ 0)
  -- "none if refused"
  pub refused : (r.number ≡ 0 → ⊥) → NoneHeld r
  -- every earlier field of the answer is what it was
  pub number_is : r.number ≡ (run_told file cells schedule).number
  pub place_is : r.place ≡ (run_told file cells schedule).place
  pub advanced_is : r.advanced ≡ (run_told file cells schedule).advanced
  pub held_is : r.held ≡ (run_told file cells schedule).held
  pub done_is : r.done ≡ (run_told file cells schedule).done
  pub finished_is : r.finished ≡ (run_told file cells schedule).finished
