-- Demand 3, proved of every accepted flow, every start and every schedule of any length, and the auditor's question. Each statement is defined in specs/:
-- the five of demand 3 and what is given in specs/Demand.antt, the auditor's in specs/Auditor.antt. What is said of the end of a schedule is said of every
-- point of it, since its first bytes are a schedule too (`at_any_point`, `never_early_at`). A schedule that the stepped run accepts is one of these (`accepted_given` in
-- proofs/Given.antt), so all of it holds of what the run accepts (`accepted_holds`): the run asks besides only that the schedule is not too long.
use mathlib.Core.Path.{◌≡◌, ap}
use mathlib.Core.Bool.{Bool, true, ◌||◌}
use mathlib.Core.List.{List}
use Prim.Native.Nat.{ℕ, ◌<◌, ◌≤◌}
use lib.ListN.{length, take}
use Rattle.layout.specs.File.{flow_of}
use Rattle.steps.specs.Step.{Setting}
use Rattle.steps.specs.Run.{run, setting_of}
use Rattle.steps.specs.Answers.{run_answer}
use Rattle.steps.specs.History.{after_history}
use Rattle.steps.specs.Conflict.{names_cell, declares_written}
use Rattle.steps.specs.Demand.{Given, history, numbered, OnlyDeclared, OnlyTouched, InOrder, Progress, Total, Values, Demand3}
use Rattle.steps.specs.Auditor.{NeverEarly}
use Rattle.steps.proofs.Accepted.{asked, reads_only_a}
use Rattle.steps.proofs.Demand3.{demand_3, cells_left}
use Rattle.steps.proofs.Given.{given_first, accepted_given}
use Rattle.steps.proofs.Naming.{written_named}
use Rattle.steps.proofs.Reading.{reads_plain}

module _ (file cells schedule : List ℕ) (given : Given file cells schedule) where
  -- the flow's tasks under their numbers from 1, with 01's operations
  abbrev flow : Setting
  flow = setting_of (flow_of file)

  abbrev workers : ℕ
  workers = (flow_of file).workers

  pub holds : Demand3 flow workers cells schedule
  holds = demand_3 flow workers cells schedule (asked file cells schedule given)

  -- at any point of the schedule: the same of its first n bytes
  pub at_any_point : (n : ℕ) → Demand3 flow workers cells (take n schedule)
  at_any_point n = demand_3 flow workers cells (take n schedule) (asked file cells (take n schedule) (given_first file cells schedule n given))

  -- a. no operation, made at any point of any schedule, reads or writes a cell that its task didn't declare so
  pub only_declared : OnlyDeclared flow (history flow cells schedule)
  only_declared = holds.declared

  -- and, said of the cells: a step that makes one changes no cell but one that its task declares written, to what follows from the cells that its
  -- task declares readable at that point; a step that makes none changes no cell
  pub only_touched : OnlyTouched flow (run flow cells schedule).machine
  only_touched = holds.touched (reads_only_a (flow_of file).version)

  -- b. where two tasks name one cell and at least one declares it written, no operation of the later stands in the history before all of the earlier
  pub in_order : InOrder flow (history flow cells schedule)
  in_order = holds.in_order

  -- the history is all that the cells have seen: they are what its operations leave, one after another
  pub history_leaves : (run flow cells schedule).machine.cells ≡ after_history flow (history flow cells schedule) cells
  history_leaves = cells_left flow workers cells schedule (asked file cells schedule given)

  -- c. while a worker has tasks left, there is a worker whose step, if named next, advances
  pub progress : Progress flow workers (run flow cells schedule).machine
  progress = holds.progress

  -- d. the advancing steps never exceed the total worked out from the flow alone, and the run has finished exactly when they equal it
  pub total : Total flow workers cells schedule
  total = holds.total

  -- e. when it has finished, every cell holds what the plain run gives from the same start
  pub values : Values flow workers cells schedule
  values = holds.values

  -- the auditor's question: swap stands before drive in the list, swap declares a cell written, and drive names it. In no order of work does drive
  -- make an operation before swap's last, and drive finds in the cell what the plain run has there
  pub never_early : (swap drive cell : ℕ) → 1 ≤ swap → swap < drive → drive ≤ length (flow_of file).tasks
      → declares_written (numbered flow swap) cell ≡ true
      → names_cell (numbered flow drive) cell ≡ true
      → NeverEarly flow cells schedule swap drive cell
  never_early swap drive cell some before inside written named =
      record {
        swapped_first = in_order swap drive cell some before inside
            (record {
              one_names = written_named (numbered flow swap) cell written;
              other_names = named;
              written = ap (λ (b : Bool). b || declares_written (numbered flow drive) cell) written;
            });
        reads_as_plain = λ w index e. reads_plain flow workers cells schedule (asked file cells schedule given) w drive index cell e named;
      }

-- at any point of the schedule, too: after its first n bytes
pub never_early_at : (file cells schedule : List ℕ) → Given file cells schedule
    → (n swap drive cell : ℕ) → 1 ≤ swap → swap < drive → drive ≤ length (flow_of file).tasks
    → declares_written (numbered (setting_of (flow_of file)) swap) cell ≡ true
    → names_cell (numbered (setting_of (flow_of file)) drive) cell ≡ true
    → NeverEarly (setting_of (flow_of file)) cells (take n schedule) swap drive cell
never_early_at file cells schedule given n = never_early file cells (take n schedule) (given_first file cells schedule n given)

-- a file, starting cells and a schedule that the stepped run accepts
pub accepted_holds : (file cells schedule : List ℕ) → (run_answer file cells schedule).number ≡ 0
    → Demand3 (setting_of (flow_of file)) (flow_of file).workers cells schedule
accepted_holds file cells schedule taken = holds file cells schedule (accepted_given file cells schedule taken)
