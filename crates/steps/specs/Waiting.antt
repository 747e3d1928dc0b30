-- How long it can be kept waiting (02, Q-10): what an energy budget can rest on. A named worker makes a step that advances or is held, and a held step costs
-- energy and brings nothing. `proofs/Waiting.antt` proves the statements of every accepted flow, every start and every schedule of any length; the figures are
-- met by the flows of `Longest.antt`.
use Rattle.std.specs.Prelude.{◌≡◌, Bool, true, false, ◌&&◌, ◌||◌, List, [], ◌∷◌, ◌++◌, ℕ, ◌+◌, ◌-◌, ◌*◌, ◌<◌, ◌≤◌, length, get_or, take, eqb}
use Rattle.layout.specs.Flow.{Operation, Task}
use Rattle.layout.specs.Row.{reads_a, reads_b}
use Rattle.steps.specs.Machine.{Machine}
use Rattle.steps.specs.Step.{Setting, advanced, step}
use Rattle.steps.specs.Run.{run, finished, access_steps, total_of}
use Rattle.steps.specs.History.{made, made_by}
use Rattle.steps.specs.Held.{outcome_at}
use Rattle.steps.specs.Conflict.{task_at, operation_of}
use Rattle.steps.specs.Demand.{numbered}
use Rattle.steps.specs.Turns.{NamedIn, times_named, Stretch, Turn, stretches, turns}

-- the run has finished after a schedule, or it has not
abbrev pub finished_after : Setting → ℕ → List ℕ → List ℕ → Bool
finished_after s workers cells schedule = finished workers s.tasks (run s cells schedule).machine

-- ---- the four statements

-- a. "once a worker's step would advance, no step of another worker makes it held"
abbrev pub StaysFree : Setting → Machine → Type 0
StaysFree s m =
    (w other : ℕ) → (other ≡ w → ⊥) → (step s m w).outcome ≡ advanced → (step s (step s m other).machine w).outcome ≡ advanced

-- however many steps the others make: it advances when it is named next
abbrev pub FreeUntilNamed : Setting → List ℕ → List ℕ → Type 0
FreeUntilNamed s cells schedule =
    (w : ℕ) → (step s (run s cells schedule).machine w).outcome ≡ advanced
    → (later : List ℕ) → (NamedIn w later → ⊥) → (step s (run s cells (schedule ++ later)).machine w).outcome ≡ advanced

-- b. "in any stretch of a schedule in which each worker is named at least once, at least one step advances unless the run has finished"
abbrev pub SomeAdvances : Setting → ℕ → List ℕ → List ℕ → Type 0
SomeAdvances s workers cells schedule =
    (stretch : List ℕ) → Stretch workers stretch → finished_after s workers cells schedule ≡ false
    → (k : ℕ) × (k < length stretch) × (outcome_at s cells (schedule ++ stretch) (length schedule + k) ≡ advanced)

-- c. as many stretches as the total finish, whatever the order within each
abbrev pub StretchesFinish : Setting → ℕ → List ℕ → Type 0
StretchesFinish s workers cells =
    (order : ℕ → List ℕ) → ((k : ℕ) → k < total_of workers s.tasks → Stretch workers (order k))
    → finished_after s workers cells (stretches order (total_of workers s.tasks)) ≡ true

-- "so naming all workers in turn, the total times over, always finishes"
abbrev pub InTurnFinishes : Setting → ℕ → List ℕ → Type 0
InTurnFinishes s workers cells = finished_after s workers cells (turns workers (workers * total_of workers s.tasks)) ≡ true

-- the cells that an operation reads by its code
abbrev pub reads_cell : Operation → ℕ → Bool
reads_cell o cell = (reads_a o.code && eqb o.a cell) || (reads_b o.code && eqb o.b cell)

-- a schedule reaches an operation of a task at its byte of an index: the step of that byte makes it
pub record Reaches (s : Setting) (cells schedule : List ℕ) (task index k : ℕ) : Type 0 where
  pub inside : k < length schedule
  pub makes : made_by s (run s cells (take k schedule)).machine (get_or schedule k 0) ≡ made task index ∷ []

-- what the step of a byte finds in a cell
abbrev pub found : Setting → List ℕ → List ℕ → ℕ → ℕ → ℕ
found s cells schedule k cell = get_or (run s cells (take k schedule)).machine.cells cell 0

-- d. "each operation reads the same values under any two schedules from one start that reach it"
abbrev pub ReadsTheSame : Setting → List ℕ → List ℕ → List ℕ → Type 0
ReadsTheSame s cells one other =
    (task index k l : ℕ) → Reaches s cells one task index k → Reaches s cells other task index l
    → (cell : ℕ) → reads_cell (operation_of (numbered s task) index) cell ≡ true
    → found s cells one k cell ≡ found s cells other l cell

-- ---- the worst case as numbers

-- the steps that the owners make: of the total, all but the "workers less 1" of each task
unfoldable pub own_total : List Task → ℕ
own_total [] = 0
own_total (task ∷ tasks) = access_steps task.accesses + length task.operations + own_total tasks

-- a run takes no more stretches than there are steps of the owners; so these are the most steps with every worker named once in each stretch, and the most of
-- them that are held. `Longest.antt` has flows that take as many
abbrev pub most_steps : ℕ → List Task → ℕ
most_steps workers tasks = own_total tasks * workers

abbrev pub most_held : ℕ → List Task → ℕ
most_held workers tasks = most_steps workers tasks - total_of workers tasks

-- with every worker named once in each stretch, what holds of the first n steps as long as the run has not finished; so many were held. (The step that
-- finishes it advances, and is not one of the held)
pub record Budget (s : Setting) (workers n held : ℕ) : Type 0 where
  -- it has finished after at most total times workers steps, so these are fewer
  pub steps : n < total_of workers s.tasks * workers
  -- and at most total times (workers less 1) were held
  pub held_steps : held ≤ total_of workers s.tasks * (workers - 1)
  -- closer: fewer than the most steps, and no more held than the most
  pub fewer_steps : n < most_steps workers s.tasks
  pub fewer_held : held ≤ most_held workers s.tasks

abbrev pub WithinBudget : Setting → ℕ → List ℕ → Type 0
WithinBudget s workers cells =
    (order : ℕ → List ℕ) → ((k : ℕ) → Turn workers (order k))
    → (n many : ℕ) → n ≤ length (stretches order many)
    → finished_after s workers cells (take n (stretches order many)) ≡ false
    → Budget s workers n (run s cells (take n (stretches order many))).held

-- is the first bound ever met? With one worker the most steps are as many as the total, and no run has finished sooner; with more they are fewer than the first
-- bound
pub record FirstBound (s : Setting) (workers : ℕ) (cells schedule : List ℕ) : Type 0 where
  pub total_is : total_of workers s.tasks ≡ own_total s.tasks + length s.tasks * (workers - 1)
  pub no_sooner : finished_after s workers cells schedule ≡ true → total_of workers s.tasks ≤ length schedule
  pub with_one : workers ≡ 1 → own_total s.tasks ≡ total_of workers s.tasks
  pub with_more : 2 ≤ workers → 1 ≤ length s.tasks → most_steps workers s.tasks < total_of workers s.tasks * workers
  -- the most steps are met where one worker owns all tasks: it has to be named as often as the owners have steps, so it takes as many stretches
  pub one_owner : (owner : ℕ) → owner < workers → ((i : ℕ) → i < length s.tasks → (task_at s.tasks i).owner ≡ owner)
      → finished_after s workers cells schedule ≡ true
      → own_total s.tasks ≤ times_named owner schedule

pub record Waiting (s : Setting) (workers : ℕ) (cells schedule : List ℕ) : Type 0 where
  pub stays_free : StaysFree s (run s cells schedule).machine
  pub until_named : FreeUntilNamed s cells schedule
  pub some_advances : SomeAdvances s workers cells schedule
  pub stretches_finish : StretchesFinish s workers cells
  pub in_turn_finishes : InTurnFinishes s workers cells
  pub within_budget : WithinBudget s workers cells
  pub first_bound : FirstBound s workers cells schedule
