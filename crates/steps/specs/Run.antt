-- A run under a schedule, its counts, and the flow's total (01, "The steps"; 02, Q-3).
use Rattle.std.specs.Prelude.{Bool, cond, List, [], ◌∷◌, ℕ, ◌+◌, ◌-◌, ◌*◌, ◌<◌, length, get_or, leb, ltb}
use Rattle.layout.specs.Lists.{each, all}
use Rattle.layout.specs.Flow.{Access, Task, Flow, most_tasks, most_workers, most_accesses, most_operations}
use Rattle.steps.specs.Operations.{effect}
use Rattle.steps.specs.Machine.{Place, Machine, fresh}
use Rattle.steps.specs.Step.{Setting, writes, Outcome, advanced, past_last, write_differs, reads_differ, step}

-- ---- the run

-- the machine after some steps, and how many of them advanced and were held
pub record Run : Type 0 where
  pub machine : Machine
  pub advanced : ℕ
  pub held : ℕ

-- one step more: "only the held count changes", or it advances
unfoldable pub counted : Run → Outcome → Machine → Run
counted before advanced after = record { machine = after; advanced = before.advanced + 1; held = before.held }
counted before past_last after = record { machine = after; advanced = before.advanced; held = before.held + 1 }
counted before (write_differs c) after = record { machine = after; advanced = before.advanced; held = before.held + 1 }
counted before (reads_differ c) after = record { machine = after; advanced = before.advanced; held = before.held + 1 }

-- a schedule's bytes "each name a worker"
unfoldable pub run_from : Setting → Run → List ℕ → Run
run_from s before [] = before
run_from s before (w ∷ schedule) =
    run_from s (counted before (step s before.machine w).outcome (step s before.machine w).machine) schedule

-- the schedule's steps one after another from a fresh start
abbrev pub run : Setting → List ℕ → List ℕ → Run
run s cells schedule = run_from s (record { machine = fresh (s.number 0) cells; advanced = 0; held = 0 }) schedule

-- a schedule of any length whose bytes each name one of so many workers
abbrev pub Names : ℕ → List ℕ → Type 0
Names workers schedule = (i : ℕ) → i < length schedule → get_or schedule i 0 < workers

-- tasks are numbered "from 1 in list order", and operations do what 01 and 02 say in a flow of the version
abbrev pub setting_for : ℕ → List Task → Setting
setting_for version tasks = record { tasks = tasks; number = λ t. t; does = effect version }

abbrev pub setting_of : Flow → Setting
setting_of flow = setting_for flow.version flow.tasks

-- ---- what is told of a run

-- "A task is done once the last end of its last access has been made" (02, Q-3): its owner has gone past the task at that index
abbrev pub is_done : ℕ → Place → Bool
is_done index owner = ltb index owner.passed

-- the done tasks among those from an index on
unfoldable pub done_from : (ℕ → Place) → ℕ → List Task → ℕ
done_from places index [] = 0
done_from places index (task ∷ tasks) = cond (is_done index (places task.owner)) 1 0 + done_from places (index + 1) tasks

abbrev pub done_tasks : List Task → Machine → ℕ
done_tasks tasks m = done_from m.places 0 tasks

-- "Finished means all workers are past the last task"
unfoldable pub finished : ℕ → List Task → Machine → Bool
finished workers tasks m = all (λ w. leb (length tasks) (m.places w).passed) (each workers (λ w. w))

-- ---- the total from the flow alone

-- "2 for each read, 4 for each write"
unfoldable pub access_steps : List Access → ℕ
access_steps [] = 0
access_steps (access ∷ accesses) = cond (writes access) 4 2 + access_steps accesses

-- "the sum over tasks of 2 for each read, 4 for each write, 1 for each operation, and workers less 1"
unfoldable pub total_of : ℕ → List Task → ℕ
total_of workers [] = 0
total_of workers (task ∷ tasks) =
    access_steps task.accesses + length task.operations + (workers - 1) + total_of workers tasks

abbrev pub total : Flow → ℕ
total flow = total_of flow.workers flow.tasks

-- the most that a task adds to it: all of its accesses are writes
abbrev pub most_of_task : ℕ
most_of_task = 4 * most_accesses + most_operations + (most_workers - 1)

-- "Its largest value is 5,800"
abbrev pub largest_total : ℕ
largest_total = most_tasks * most_of_task
