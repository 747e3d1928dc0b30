-- What the plain run and the stepped run promise: the answer, and every lent cell, refusals included.
use Rattle.std.specs.Prelude.{◌≡◌, cond, List, ℕ, ◌≤◌}
use Rattle.layout.specs.Refusal.{success}
use Rattle.layout.specs.Flow.{Task}
use Rattle.layout.specs.File.{flow_of}
use Rattle.steps.specs.Run.{setting_for, run, done_tasks, finished, total}
use Rattle.steps.specs.Held.{named_by}
use Rattle.steps.specs.Answers.{plain_answer, plain_cells, run_told, held_of, run_held, run_cells}
use Rattle.run.specs.Answers.{PlainAnswer, plain_is, RunAnswer, run_is}

-- the contract of the plain run
pub record PlainPromise (file cells : List ℕ) (r : PlainAnswer) (after : List ℕ) : Type 0 where
  pub answer : r ≡ plain_is (plain_answer file cells)
  pub cells_after : after ≡ plain_cells file cells

-- the contract of the stepped run
pub record RunPromise (file cells schedule : List ℕ) (r : RunAnswer) (after : List ℕ) : Type 0 where
  pub answer : r ≡ run_is (run_told file cells schedule) (run_held file cells schedule)
  pub cells_after : after ≡ run_cells file cells schedule
  pub bounded : r.advanced ≤ total (flow_of file)

-- what the steps of an accepted schedule give in a flow of a version, from a fresh start
pub record Walked (version : ℕ) (tasks : List Task) (workers : ℕ) (cells schedule : List ℕ) (r : RunAnswer) (after : List ℕ) : Type 0 where
  pub answer : r
      ≡ run_is
      (record {
        number = 0;
        place = 0;
        advanced = (run (setting_for version tasks) cells schedule).advanced;
        held = (run (setting_for version tasks) cells schedule).held;
        done = done_tasks tasks (run (setting_for version tasks) cells schedule).machine;
        finished = cond (finished workers tasks (run (setting_for version tasks) cells schedule).machine) 1 0;
      })
      (held_of success (named_by (setting_for version tasks) cells schedule))
  pub cells_after : after ≡ (run (setting_for version tasks) cells schedule).machine.cells
