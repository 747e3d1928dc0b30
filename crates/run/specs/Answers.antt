-- What the plain run and the stepped run answer in 01's terms: number and place, and of a stepped run what came of it, zero with a refusal.
use Rattle.std.specs.Prelude.{cond, List, ℕ, Result, Ok, Err, replicate}
use Rattle.layout.specs.Refusal as Rules
use Rattle.layout.specs.Flow.{most_workers}
use Rattle.steps.specs.Answers.{Told, HeldTold}
use Rattle.refusal.specs.declared.Refusal.{Refusal}
use Rattle.refusal.specs.Numbers.{answer_of, met_by}
use Rattle.notes.specs.Noted.{reasons_of, cells_of}
use Rattle.run.specs.declared.Ran.{Ran}

-- ---- the plain run

-- it answers number and place only
pub record PlainAnswer : Type 0 where
  pub number : ℕ
  pub place : ℕ

abbrev pub plain_is : Rules.Answer → PlainAnswer
plain_is met = record { number = met.number; place = met.place }

-- the number and the place of each case
abbrev pub plain_by : Result (Unit {0}) Refusal → PlainAnswer
plain_by result = plain_is (met_by result)

-- ---- the stepped run

-- a refusal, or the steps that advanced and were held, the done tasks, and 1 where it has finished; of the held steps, how many for each
-- reason; and by worker the reason and the cell of its latest held step, 0 and 0 where it had none
pub record RunAnswer : Type 0 where
  pub number : ℕ
  pub place : ℕ
  pub advanced : ℕ
  pub held : ℕ
  pub done : ℕ
  pub finished : ℕ
  pub past_last : ℕ
  pub write_differs : ℕ
  pub reads_differ : ℕ
  pub reasons : List ℕ
  pub cells : List ℕ

-- field by field: what 01 tells of a run, and why its steps were held (02, Q-1)
abbrev pub run_is : Told → HeldTold → RunAnswer
run_is told why =
    record {
      number = told.number;
      place = told.place;
      advanced = told.advanced;
      held = told.held;
      done = told.done;
      finished = told.finished;
      past_last = why.past_last;
      write_differs = why.write_differs;
      reads_differ = why.reads_differ;
      reasons = why.reasons;
      cells = why.cells;
    }

-- a refusal, with zero counts, not finished, and no held step
abbrev pub run_refused : Rules.Answer → RunAnswer
run_refused met =
    record {
      number = met.number;
      place = met.place;
      advanced = 0;
      held = 0;
      done = 0;
      finished = 0;
      past_last = 0;
      write_differs = 0;
      reads_differ = 0;
      reasons = replicate most_workers 0;
      cells = replicate most_workers 0;
    }

-- the number and values of each case
abbrev pub answer_by : Result Ran Refusal → RunAnswer
answer_by (Ok ran) =
    record {
      number = 0;
      place = 0;
      advanced = ran.advanced;
      held = ran.held;
      done = ran.done;
      finished = cond ran.finished 1 0;
      past_last = ran.notes.past_last;
      write_differs = ran.notes.write_differs;
      reads_differ = ran.notes.reads_differ;
      reasons = reasons_of ran.notes;
      cells = cells_of ran.notes;
    }
answer_by (Err met) = run_refused (answer_of met)
