-- Errors that look right (01): for each of the first three, a flow and an order of work in which it shows. Each case says of a run what demand 3
-- says of it: it has finished, as many steps advanced as the total, and the cells are the plain run's. The fifth error shows in every case, since
-- fewer steps advance than the total; the fourth in case P10. `proofs/Errors.antt` proves the table under a single statement.
use Rattle.std.specs.Prelude.{cond, List, [], ◌∷◌, ◌++◌, ℕ, replicate}
use Rattle.layout.specs.Flow.{Access, Operation, Task, Flow}
use Rattle.layout.specs.Cases.{Case, gives}
use Rattle.steps.specs.Operations.{effect}
use Rattle.steps.specs.Plain.{after_tasks}
use Rattle.steps.specs.Run.{Run, run, setting_of, finished, total}
use Rattle.steps.specs.Turns.{turns}

-- ---- the tasks, each of a worker, over two cells

abbrev pub access : ℕ → ℕ → Access
access cell mode = record { cell = cell; mode = mode }

abbrev pub operation : ℕ → ℕ → ℕ → ℕ → Operation
operation code a b k = record { code = code; a = a; b = b; k = k }

abbrev pub task : ℕ → List Access → List Operation → Task
task owner accesses operations = record { owner = owner; accesses = accesses; operations = operations }

-- a worker sets cell 0
abbrev pub sets : ℕ → ℕ → Task
sets owner k = task owner (access 0 2 ∷ []) (operation 1 0 0 k ∷ [])

-- a worker copies cell 0 to cell 1
abbrev pub copies : ℕ → Task
copies owner = task owner (access 0 1 ∷ access 1 2 ∷ []) (operation 2 1 0 0 ∷ [])

-- a worker sets cell 0, which it declares read and written; a worker doubles it
abbrev pub resets : ℕ → ℕ → Task
resets owner k = task owner (access 0 3 ∷ []) (operation 1 0 0 k ∷ [])

abbrev pub doubles : ℕ → Task
doubles owner = task owner (access 0 3 ∷ []) (operation 3 0 0 0 ∷ [])

-- ---- the table

abbrev pub small_flow : List Task → Flow
small_flow tasks = record { version = 1; workers = 2; cells = 2; tasks = tasks }

abbrev pub zeros : List ℕ
zeros = 0 ∷ 0 ∷ []

-- whether the run has finished, the steps that advanced, and the cells; and what demand 3 says of them
unfoldable pub ends_well : List Task → List ℕ → Case
ends_well tasks schedule =
    let after : Run = run (setting_of (small_flow tasks)) zeros schedule in
    gives (cond (finished 2 tasks after.machine) 1 0 ∷ after.advanced ∷ after.machine.cells)
    (1 ∷ total (small_flow tasks) ∷ after_tasks (effect 1) tasks zeros)

unfoldable pub errors : List Case
errors =
    -- the last write posted before the shared reads are 0: worker 1 ends its read between the two, the read is lost, and the last task waits for ever
    ends_well (sets 0 7 ∷ copies 1 ∷ sets 0 9 ∷ []) (replicate 4 0 ++ (replicate 9 1 ++ turns 2 40))
    -- read and write taken as a read: cell 0 is doubled before it is set
    ∷ ends_well (resets 0 7 ∷ doubles 1 ∷ []) (replicate 6 1 ++ turns 2 24)
    -- a writer that waits for the last write only: cell 0 is set before it is copied, and the copy waits for ever
    ∷ ends_well (copies 0 ∷ sets 1 7 ∷ []) (replicate 6 1 ++ turns 2 32)
    ∷ []
