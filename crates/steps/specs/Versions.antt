-- Operation 5 in the two versions (02, Q-8): what it does to each byte of b, and a flow that packs two fields in a cell, run in both.
-- `proofs/Versions.antt` proves the facts of every value and the table under single statements.
use Rattle.std.specs.Prelude.{◌≡◌, List, [], ◌∷◌, ◌++◌, ℕ, ◌/◌, ◌%◌, ◌<◌, replicate}
use Rattle.layout.specs.Bytes.{word_size}
use Rattle.layout.specs.Flow.{Task}
use Rattle.layout.specs.Write.{flow_bytes}
use Rattle.layout.specs.Cases.{Case, gives}
use Rattle.steps.specs.Operations.{cell_size, swapped, becomes}
use Rattle.steps.specs.Answers.{Told, plain_answer, plain_cells, run_told, run_cells}
use Rattle.steps.specs.Errors.{access, operation, task}

-- ---- every value

pub record Swap : Type 0 where
  -- "exchanges the two bytes of the low half", in either version
  pub low : (version b : ℕ) → swapped version b % 256 ≡ b / 256 % 256
  pub high : (version b : ℕ) → swapped version b / 256 % 256 ≡ b % 256
  -- "and keeps the high half of b; in version 1 it clears it"
  pub keeps : (b : ℕ) → swapped 2 b / word_size ≡ b / word_size
  pub clears : (b : ℕ) → swapped 1 b / word_size ≡ 0
  -- a cell has room for it
  pub fits : (version b : ℕ) → b < cell_size → swapped version b < cell_size
  -- nothing of the target remains
  pub of_b_alone : (version k a a' b : ℕ) → becomes version 5 k a b ≡ becomes version 5 k a' b
  -- every other operation does the same in all versions
  pub others_same : (version code k a b : ℕ) → (code ≡ 5 → ⊥) → becomes version code k a b ≡ becomes 1 code k a b

-- ---- two fields packed in a cell: 3 workers, 4 cells

-- task 1, owner 0: cell 0 becomes 74565, 1 in its high half and 9029 in its low half
unfoldable pub packs : Task
packs =
    task 0 (access 0 2 ∷ access 1 2 ∷ [])
    (operation 1 0 0 65535 ∷ operation 1 1 0 1 ∷ operation 3 0 1 0 ∷ operation 1 1 0 9029 ∷ operation 3 0 1 0 ∷ [])

-- task 2, owner 1: cell 2 becomes 4294967295
unfoldable pub fills : Task
fills = task 1 (access 1 2 ∷ access 2 2 ∷ []) (operation 1 1 0 1 ∷ operation 1 2 0 0 ∷ operation 4 2 1 0 ∷ [])

-- task 3, owner 2: cell 2 becomes cell 0 swapped
unfoldable pub swaps : Task
swaps = task 2 (access 0 1 ∷ access 2 2 ∷ []) (operation 5 2 0 0 ∷ [])

-- task 4, owner 0: cell 3 becomes cell 2
unfoldable pub drives : Task
drives = task 0 (access 2 1 ∷ access 3 2 ∷ []) (operation 2 3 2 0 ∷ [])

-- the file of these tasks in a version
unfoldable pub two_fields : ℕ → List ℕ
two_fields version = flow_bytes record { version = version; workers = 3; cells = 4; tasks = packs ∷ fills ∷ swaps ∷ drives ∷ [] }

abbrev pub four_zeros : List ℕ
four_zeros = 0 ∷ 0 ∷ 0 ∷ 0 ∷ []

-- the plain run's number, and the cells
unfoldable pub plain_in : ℕ → List ℕ
plain_in version = (plain_answer (two_fields version) four_zeros).number ∷ plain_cells (two_fields version) four_zeros

-- the steps of task 1's owner up to its wait for task 3, then all of the others', then the drive
unfoldable pub owners_first : List ℕ
owners_first = replicate 15 0 ++ (replicate 14 1 ++ (replicate 10 2 ++ replicate 7 0))

-- under that schedule: the stepped run's number, whether it has finished, the steps that advanced, and the cells
unfoldable pub ran_in : ℕ → List ℕ
ran_in version =
    let said : Told = run_told (two_fields version) four_zeros owners_first in
    said.number ∷ said.finished ∷ said.advanced ∷ run_cells (two_fields version) four_zeros owners_first

unfoldable pub both_versions : List Case
both_versions =
    gives (plain_in 1) (0 ∷ 74565 ∷ 1 ∷ 17699 ∷ 17699 ∷ [])
    ∷ gives (plain_in 2) (0 ∷ 74565 ∷ 1 ∷ 83235 ∷ 83235 ∷ [])
    ∷ gives (ran_in 1) (0 ∷ 1 ∷ 46 ∷ 74565 ∷ 1 ∷ 17699 ∷ 17699 ∷ [])
    ∷ gives (ran_in 2) (0 ∷ 1 ∷ 46 ∷ 74565 ∷ 1 ∷ 83235 ∷ 83235 ∷ [])
    -- no other version runs
    ∷ gives (plain_in 3) (3 ∷ four_zeros)
    ∷ gives (ran_in 3) (3 ∷ 0 ∷ 0 ∷ four_zeros)
    ∷ []
