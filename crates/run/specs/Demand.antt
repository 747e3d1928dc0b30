-- Demand 3 of the code: what the stepped run and the plain run answer, and leave in the lent cells. `proofs/Demand.antt` proves it of every
-- outcome that the contract of the stepped run allows, where that outcome is no refusal.
use Rattle.std.specs.Prelude.{◌≡◌, true, ◌↔◌, List, [], ◌∷◌, ◌++◌, ℕ, ◌+◌, ◌<◌, ◌≤◌, length, take}
use Rattle.layout.specs.Flow.{most_schedule}
use Rattle.layout.specs.File.{flow_of}
use Rattle.steps.specs.Step.{Setting}
use Rattle.steps.specs.Run.{run, setting_of, total}
use Rattle.steps.specs.History.{after_history}
use Rattle.steps.specs.Conflict.{names_cell, declares_written}
use Rattle.steps.specs.Demand.{history, numbered, OnlyDeclared, OnlyTouched, InOrder}
use Rattle.steps.specs.Auditor.{NeverEarly}
use Rattle.run.specs.Answers.{PlainAnswer, RunAnswer}
use Rattle.run.specs.Promises.{PlainPromise, RunPromise}

-- the flow's tasks under their numbers from 1, with 01's operations
abbrev pub flow_in : List ℕ → Setting
flow_in file = setting_of (flow_of file)

pub record RunDemand (file cells schedule : List ℕ) (r : RunAnswer) (after : List ℕ) : Type 0 where
  -- the count and the cells are those of the steps that the theorems speak of
  pub advanced_are : r.advanced ≡ (run (flow_in file) cells schedule).advanced
  pub cells_are : after ≡ (run (flow_in file) cells schedule).machine.cells
  -- a. and b., of the operations that made the cells what they are; no others did
  pub cells_made : after ≡ after_history (flow_in file) (history (flow_in file) cells schedule) cells
  pub declared : OnlyDeclared (flow_in file) (history (flow_in file) cells schedule)
  pub touched : (n : ℕ) → OnlyTouched (flow_in file) (run (flow_in file) cells (take n schedule)).machine
  pub in_order : InOrder (flow_in file) (history (flow_in file) cells schedule)
  -- c. where it answers that it has not finished, and the schedule may be longer, there is a worker that, named next, makes the count one more
  pub progress : r.finished ≡ 0 → length schedule < most_schedule
      → (w : ℕ) × (w < (flow_of file).workers)
      × ((s : RunAnswer) (s_after : List ℕ) → RunPromise file cells (schedule ++ w ∷ []) s s_after
      → (s.number ≡ 0) × (s.advanced ≡ r.advanced + 1))
  -- d.
  pub at_most : r.advanced ≤ total (flow_of file)
  pub exactly : (r.finished ≡ 1) ↔ (r.advanced ≡ total (flow_of file))
  -- e. where it answers that it has finished, the plain run is no refusal and leaves the same cells
  pub values : r.finished ≡ 1 → (p : PlainAnswer) (p_after : List ℕ) → PlainPromise file cells p p_after
      → (p.number ≡ 0) × (after ≡ p_after)
  -- the auditor's question, at any point of the schedule: swap stands before drive in the list, swap declares a cell written, and drive names it
  pub never_early : (n swap drive cell : ℕ) → 1 ≤ swap → swap < drive → drive ≤ length (flow_of file).tasks
      → declares_written (numbered (flow_in file) swap) cell ≡ true
      → names_cell (numbered (flow_in file) drive) cell ≡ true
      → NeverEarly (flow_in file) cells (take n schedule) swap drive cell
