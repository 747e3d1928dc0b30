-- Declared writes of the code (02, Q-6): what the stepped run leaves in the lent cells. `proofs/Written.antt` proves it of every outcome that
-- the contract of the stepped run allows, where that outcome is no refusal.
use Rattle.std.specs.Prelude.{◌≡◌, true, List, ℕ, ◌+◌, ◌≤◌, length, get_or, take}
use Rattle.layout.specs.File.{flow_of}
use Rattle.steps.specs.Demand.{numbered}
use Rattle.steps.specs.Written.{write_only, left_by, NoneBetween, WriteMade}
use Rattle.run.specs.Answers.{RunAnswer}
use Rattle.run.specs.Demand.{flow_in}

pub record RunWrites (file cells schedule : List ℕ) (r : RunAnswer) (after : List ℕ) : Type 0 where
  -- at any point of the schedule, of each cell that a task declares write only
  pub each_made : (n writer cell : ℕ) → 1 ≤ writer → writer ≤ length (flow_of file).tasks
      → write_only (numbered (flow_in file) writer) cell ≡ true
      → WriteMade (flow_in file) (flow_of file).workers cells (take n schedule) writer cell
  -- where it answers that it has finished, the lent cell holds what the task left there, unless a later one declares the cell written
  pub left_behind : r.finished ≡ 1 → (writer cell : ℕ) → 1 ≤ writer → writer ≤ length (flow_of file).tasks
      → write_only (numbered (flow_in file) writer) cell ≡ true
      → NoneBetween (flow_in file) writer (length (flow_of file).tasks + 1) cell
      → get_or after cell 0 ≡ get_or (left_by (flow_in file) cells writer) cell 0
