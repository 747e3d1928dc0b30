-- What the plain run and the stepped run answer and leave in the lent cells (01, "Numbers of refusal").
use Rattle.std.specs.Prelude.{Bool, cond, List, ℕ, length, get_or, eqb, leb, ltb}
use Rattle.layout.specs.Lists.{each}
use Rattle.layout.specs.Flow.{Flow, most_workers, most_schedule}
use Rattle.layout.specs.Refusal.{Answer, refusal, unless, or_else, first_at}
use Rattle.layout.specs.File.{file_answer, flow_of, told}
use Rattle.steps.specs.Operations.{effect}
use Rattle.steps.specs.Plain.{after_tasks}
use Rattle.steps.specs.Run.{Run, run, setting_of, done_tasks, finished}
use Rattle.steps.specs.Held.{Named, named_by, held_for, reason_of, cell_of, latest_of}

-- 12: "starting cells not as many as the flow's"
abbrev pub start_sound : Flow → List ℕ → Bool
start_sound flow cells = eqb (length cells) flow.cells

-- 13: "schedule over 65,536 bytes"
abbrev pub schedule_sound : List ℕ → Bool
schedule_sound schedule = leb (length schedule) most_schedule

-- 14: "a schedule byte not below workers", place "its index"
abbrev pub byte_number : Flow → List ℕ → ℕ → ℕ
byte_number flow schedule index = unless (ltb (get_or schedule index 0) flow.workers) 14

-- ---- the plain run: "12 only"

unfoldable pub plain_answer : List ℕ → List ℕ → Answer
plain_answer file cells = or_else (file_answer file) (refusal (unless (start_sound (flow_of file) cells) 12) 0)

-- the lent cells after it
unfoldable pub plain_cells : List ℕ → List ℕ → List ℕ
plain_cells file cells =
    cond (eqb (plain_answer file cells).number 0) (after_tasks (effect (flow_of file).version) (flow_of file).tasks cells) cells

-- ---- the stepped run: "A run then has 12, 13, 14"

unfoldable pub run_answer : List ℕ → List ℕ → List ℕ → Answer
run_answer file cells schedule =
    or_else (plain_answer file cells)
    (or_else (refusal (unless (schedule_sound schedule) 13) 0) (first_at (byte_number (flow_of file) schedule) 0 (length schedule)))

-- the run itself
abbrev pub ran : List ℕ → List ℕ → List ℕ → Run
ran file cells schedule = run (setting_of (flow_of file)) cells schedule

-- what the stepped run tells: the number and the place, and the four counts
pub record Told : Type 0 where
  pub number : ℕ
  pub place : ℕ
  pub advanced : ℕ
  pub held : ℕ
  pub done : ℕ
  pub finished : ℕ

-- "A refusal .. reports zero counts", and "a refused run isn't finished"
abbrev pub told_of : Answer → Flow → Run → Told
told_of met flow after =
    record {
      number = met.number;
      place = met.place;
      advanced = told met after.advanced;
      held = told met after.held;
      done = told met (done_tasks flow.tasks after.machine);
      finished = told met (cond (finished flow.workers flow.tasks after.machine) 1 0);
    }

-- what it tells of a file, starting cells and a schedule
unfoldable pub run_told : List ℕ → List ℕ → List ℕ → Told
run_told file cells schedule = told_of (run_answer file cells schedule) (flow_of file) (ran file cells schedule)

-- why its steps were held (02, Q-1): "a count of each", and of workers 0 to 7 "the reason and cell of its latest held step, or that it had none"
pub record HeldTold : Type 0 where
  pub past_last : ℕ
  pub write_differs : ℕ
  pub reads_differ : ℕ
  pub reasons : List ℕ
  pub cells : List ℕ

-- "none if refused"
abbrev pub held_of : Answer → List Named → HeldTold
held_of met steps =
    record {
      past_last = told met (held_for 1 steps);
      write_differs = told met (held_for 2 steps);
      reads_differ = told met (held_for 3 steps);
      reasons = each most_workers (λ w. told met (reason_of (latest_of w steps)));
      cells = each most_workers (λ w. told met (cell_of (latest_of w steps)));
    }

unfoldable pub run_held : List ℕ → List ℕ → List ℕ → HeldTold
run_held file cells schedule = held_of (run_answer file cells schedule) (named_by (setting_of (flow_of file)) cells schedule)

-- the lent cells after it
unfoldable pub run_cells : List ℕ → List ℕ → List ℕ → List ℕ
run_cells file cells schedule =
    cond (eqb (run_answer file cells schedule).number 0) (ran file cells schedule).machine.cells cells
