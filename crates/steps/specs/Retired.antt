-- Operation 6, 'the larger of', in a run (02, Q-9): a flow that has it, in both versions. `proofs/Retired.antt` proves the table under a single
-- statement.
use Rattle.std.specs.Prelude.{List, [], ◌∷◌, ℕ, replicate}
use Rattle.layout.specs.Flow.{Task}
use Rattle.layout.specs.Write.{flow_bytes}
use Rattle.layout.specs.Cases.{Case, gives}
use Rattle.steps.specs.Answers.{Told, plain_answer, plain_cells, run_told, run_cells}
use Rattle.steps.specs.Errors.{access, operation, task}

-- of 7 in cell 0 and 9 in cell 1, cell 1 becomes the larger and stays 9, and then cell 0 becomes the larger, 9
unfoldable pub compares : Task
compares =
    task 0 (access 0 2 ∷ access 1 2 ∷ []) (operation 1 0 0 7 ∷ operation 1 1 0 9 ∷ operation 6 1 0 0 ∷ operation 6 0 1 0 ∷ [])

-- the file of this task in a version: 1 worker, 2 cells
unfoldable pub comparing : ℕ → List ℕ
comparing version = flow_bytes record { version = version; workers = 1; cells = 2; tasks = compares ∷ [] }

-- the start
abbrev pub from_zeros : List ℕ
from_zeros = 0 ∷ 0 ∷ []

-- the plain run's number, and the cells
unfoldable pub compared_plainly : ℕ → List ℕ
compared_plainly version = (plain_answer (comparing version) from_zeros).number ∷ plain_cells (comparing version) from_zeros

-- the worker named as often as the total: the stepped run's number, whether it has finished, and the cells
unfoldable pub compared_stepwise : ℕ → List ℕ
compared_stepwise version =
    let said : Told = run_told (comparing version) from_zeros (replicate 12 0) in
    said.number ∷ said.finished ∷ run_cells (comparing version) from_zeros (replicate 12 0)

unfoldable pub compared : List Case
compared =
    -- "Stored version 1 flows that have it are still read, run"
    gives (compared_plainly 1) (0 ∷ 9 ∷ 9 ∷ [])
    ∷ gives (compared_stepwise 1) (0 ∷ 1 ∷ 9 ∷ 9 ∷ [])
    -- "Version 2 flows may not use it"
    ∷ gives (compared_plainly 2) (18 ∷ from_zeros)
    ∷ gives (compared_stepwise 2) (18 ∷ 0 ∷ from_zeros)
    ∷ []
