-- What the programs' run of a flow promises: all workers are named in turn, the total times over, and so it has finished (02, Q-10).
use Rattle.std.specs.Prelude.{◌≡◌, List, ℕ, length}
use Rattle.layout.specs.File.{file_answer, flow_of}
use Rattle.steps.specs.Run as Rules
use Rattle.steps.specs.Turns.{in_turn}
use Rattle.run.specs.Answers.{RunAnswer}
use Rattle.run.specs.Promises.{RunPromise}
use Rattle.run.specs.Waiting.{AllMade}

-- an accepted file with its workers and its total, and as many lent cells as the flow has
pub record Measures (file : List ℕ) (workers total : ℕ) (cells : List ℕ) : Type 0 where
  pub accepted : (file_answer file).number ≡ 0
  pub workers_are : workers ≡ (flow_of file).workers
  pub total_is : total ≡ Rules.total (flow_of file)
  pub start : length cells ≡ (flow_of file).cells

pub record InTurnPromise (file cells : List ℕ) (r : RunAnswer) (after : List ℕ) : Type 0 where
  -- what the stepped run promises of that schedule
  pub run : RunPromise file cells (in_turn (flow_of file)) r after
  -- no refusal, finished, and as many steps advanced as the total
  pub all_made : AllMade file r
