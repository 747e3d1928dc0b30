-- The auditor's question: in which orders of work can a drive task read a field before the task that swaps it? Put over a run: swap stands
-- before drive in the list, swap declares a cell written, and drive names that cell.
use Rattle.std.specs.Prelude.{◌≡◌, List, [], ◌∷◌, ℕ, ◌-◌, ◌<◌, length, get_or, take}
use Rattle.steps.specs.Plain.{after_operations, after_tasks}
use Rattle.steps.specs.Step.{Setting}
use Rattle.steps.specs.Run.{run}
use Rattle.steps.specs.History.{made, made_by}
use Rattle.steps.specs.Demand.{history, numbered, entry}

-- the cells in the plain run when a task is about to make its operation at an index: the tasks before it and its operations before that one are done
unfoldable pub plain_before : Setting → List ℕ → ℕ → ℕ → List ℕ
plain_before s cells task index =
    after_operations s.does (take index (numbered s task).operations) (after_tasks s.does (take (task - 1) s.tasks) cells)

-- in no order: every operation of swap stands in the history before any operation of drive; and when a worker's step, named next, makes an
-- operation of drive, the cell holds what the plain run has there at that operation
pub record NeverEarly (s : Setting) (cells schedule : List ℕ) (swap drive cell : ℕ) : Type 0 where
  pub swapped_first : (k : ℕ) → k < length (history s cells schedule) → (entry (history s cells schedule) k).task ≡ drive
      → (index : ℕ) → index < length (numbered s swap).operations
      → (before : ℕ) × (before < k) × (entry (history s cells schedule) before ≡ made swap index)
  pub reads_as_plain : (w index : ℕ) → made_by s (run s cells schedule).machine w ≡ made drive index ∷ []
      → get_or (run s cells schedule).machine.cells cell 0 ≡ get_or (plain_before s cells drive index) cell 0
