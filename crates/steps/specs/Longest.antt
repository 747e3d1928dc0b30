-- The worst case of 02, Q-10, as worked cases: flows that are kept waiting longest, and how close they come to total times workers steps. All tasks are
-- of the last worker, and each has the most steps that a task can have: four writes and six operations, 22 in all. With the workers in turn the owner is
-- named last in each stretch, and the others soon have nothing left to do. `proofs/Longest.antt` proves the table under a single statement.
use Rattle.std.specs.Prelude.{Bool, cond, List, [], ◌∷◌, ℕ, ◌-◌, ◌*◌}
use Rattle.layout.specs.Lists.{each}
use Rattle.layout.specs.Flow.{Task, Flow}
use Rattle.layout.specs.File.{file_answer, flow_of}
use Rattle.layout.specs.Write.{flow_bytes}
use Rattle.layout.specs.Cases.{Case, gives}
use Rattle.steps.specs.Step.{step}
use Rattle.steps.specs.Run.{run, setting_for, setting_of, total}
use Rattle.steps.specs.Held.{reason_of}
use Rattle.steps.specs.Bench.{flow_a, start, whole}
use Rattle.steps.specs.Errors.{access, operation, task}
use Rattle.steps.specs.Turns.{turns}
use Rattle.steps.specs.Waiting.{finished_after, most_steps, found}

-- ---- the flows

unfoldable pub long_task : ℕ → Task
long_task owner =
    task owner (access 0 2 ∷ access 1 2 ∷ access 2 2 ∷ access 3 2 ∷ [])
    (operation 1 0 0 1 ∷ operation 1 1 0 2 ∷ operation 1 2 0 3 ∷ operation 1 3 0 4 ∷ operation 2 0 1 0 ∷ operation 3 1 2 0 ∷ [])

-- so many of them, with so many workers
unfoldable pub long_flow : ℕ → ℕ → Flow
long_flow workers many = record { version = 1; workers = workers; cells = 4; tasks = each many (λ i. long_task (workers - 1)) }

-- two workers that read a cell, one task each
abbrev pub reader : ℕ → Task
reader owner = task owner (access 0 1 ∷ []) []

unfoldable pub two_readers : List Task
two_readers = reader 0 ∷ reader 1 ∷ []

-- ---- what a case gives

unfoldable pub as_number : Bool → ℕ
as_number b = cond b 1 0

-- whether the run has finished one step before the last of the most steps, and after it; those steps, and total times workers; the held steps, and total times
-- (workers less 1)
unfoldable pub figures : Flow → List ℕ → List ℕ
figures flow cells =
    let w : ℕ = flow.workers in
    let longest : ℕ = most_steps w flow.tasks in
    as_number (finished_after (setting_of flow) w cells (turns w (longest - 1)))
    ∷ as_number (finished_after (setting_of flow) w cells (turns w longest))
    ∷ longest
    ∷ total flow * w
    ∷ (run (setting_of flow) cells (turns w longest)).held
    ∷ total flow * (w - 1)
    ∷ []

unfoldable pub longest_of : ℕ → ℕ → List ℕ
longest_of workers many = figures (long_flow workers many) (0 ∷ 0 ∷ 0 ∷ 0 ∷ [])

-- the reason for which a worker's step is held after a schedule, 0 where it advances
unfoldable pub held_after : ℕ → List ℕ → ℕ
held_after w schedule = reason_of (step (setting_for 1 two_readers) (run (setting_for 1 two_readers) (0 ∷ []) schedule).machine w).outcome

-- ---- the table

unfoldable pub longest : List Case
longest =
    -- with one worker no step is held, and the bound of total times workers steps is met
    gives (longest_of 1 1) (0 ∷ 1 ∷ 22 ∷ 22 ∷ 0 ∷ 0 ∷ [])
    -- with two it comes closest: 22 of 23
    ∷ gives (longest_of 2 1) (0 ∷ 1 ∷ 44 ∷ 46 ∷ 21 ∷ 23 ∷ [])
    ∷ gives (longest_of 2 2) (0 ∷ 1 ∷ 88 ∷ 92 ∷ 42 ∷ 46 ∷ [])
    ∷ gives (longest_of 3 1) (0 ∷ 1 ∷ 66 ∷ 72 ∷ 42 ∷ 48 ∷ [])
    ∷ gives (longest_of 8 1) (0 ∷ 1 ∷ 176 ∷ 232 ∷ 147 ∷ 203 ∷ [])
    -- the check accepts their files
    ∷ gives ((file_answer (flow_bytes (long_flow 2 2))).number ∷ (file_answer (flow_bytes (long_flow 8 1))).number ∷ []) (0 ∷ 0 ∷ [])
    -- a. worker 0 may read, and still may once worker 1 has ended its read; and no read waits for another
    ∷ gives (held_after 0 [] ∷ held_after 0 (1 ∷ 1 ∷ 1 ∷ []) ∷ held_after 1 (1 ∷ []) ∷ []) (0 ∷ 0 ∷ 0 ∷ [])
    -- d. the swap of flow A finds 4660 in cell 0 at byte 10 of P7's schedule, and at byte 15 of the workers in turn
    ∷ gives (found (setting_of (flow_of flow_a)) start whole 10 0 ∷ found (setting_of (flow_of flow_a)) start (turns 2 44) 15 0 ∷ []) (4660 ∷ 4660 ∷ [])
    ∷ []
