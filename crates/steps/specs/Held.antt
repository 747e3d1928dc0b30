-- Why steps were held (02, Q-1): the numbers of the answer, the count of each reason, and each worker's latest held step. The reasons
-- themselves are the cases of `Outcome` in `Step.antt`. `proofs/Held.antt` proves the statements of every setting, start and schedule.
use Rattle.std.specs.Prelude.{◌≡◌, cond, List, [], ◌∷◌, ℕ, ◌+◌, ◌<◌, length, get_or, take, eqb}
use Rattle.steps.specs.Machine.{Machine, fresh}
use Rattle.steps.specs.Step.{Setting, Outcome, advanced, past_last, write_differs, reads_differ, step}
use Rattle.steps.specs.Run.{run}

-- ---- the numbers of the answer

-- the reason: "the worker is past the last task, the last write differs, or the reads differ"; 0 where there is none
abbrev pub reason_of : Outcome → ℕ
reason_of advanced = 0
reason_of past_last = 1
reason_of (write_differs cell) = 2
reason_of (reads_differ cell) = 3

-- "in the two latter cases also the cell"; 0 where none is named
abbrev pub cell_of : Outcome → ℕ
cell_of advanced = 0
cell_of past_last = 0
cell_of (write_differs cell) = cell
cell_of (reads_differ cell) = cell

-- ---- the steps of a schedule

-- a worker that a byte of the schedule names, and what became of its step
pub record Named : Type 0 where
  pub worker : ℕ
  pub outcome : Outcome

abbrev pub named : ℕ → Outcome → Named
named w why = record { worker = w; outcome = why }

-- the steps that a schedule names, from a machine on, one for each byte
unfoldable pub named_from : Setting → Machine → List ℕ → List Named
named_from s m [] = []
named_from s m (w ∷ schedule) = named w (step s m w).outcome ∷ named_from s (step s m w).machine schedule

-- and from a fresh start
abbrev pub named_by : Setting → List ℕ → List ℕ → List Named
named_by s cells schedule = named_from s (fresh (s.number 0) cells) schedule

-- ---- what is told of them

-- "a count of each": the steps held for the reason of a number
unfoldable pub held_for : ℕ → List Named → ℕ
held_for reason [] = 0
held_for reason (one ∷ steps) = cond (eqb (reason_of one.outcome) reason) 1 0 + held_for reason steps

-- the latter of two outcomes that is held; `advanced` where none is
unfoldable pub latter : Outcome → Outcome → Outcome
latter before advanced = before
latter before past_last = past_last
latter before (write_differs cell) = write_differs cell
latter before (reads_differ cell) = reads_differ cell

-- what a step says of a worker: nothing, where it is another's
abbrev pub says_of : ℕ → Named → Outcome
says_of w one = cond (eqb one.worker w) one.outcome advanced

-- "its latest held step, or that it had none": `advanced` for none
unfoldable pub latest_of : ℕ → List Named → Outcome
latest_of w [] = advanced
latest_of w (one ∷ steps) = latter (says_of w one) (latest_of w steps)

-- ---- the statements, over the bytes of the schedule

-- what became of the step at an index of the schedule
abbrev pub outcome_at : Setting → List ℕ → List ℕ → ℕ → Outcome
outcome_at s cells schedule k = (step s (run s cells (take k schedule)).machine (get_or schedule k 0)).outcome

-- the byte at an index names a worker, and its step is held
pub record HeldAt (s : Setting) (cells schedule : List ℕ) (w k : ℕ) : Type 0 where
  pub inside : k < length schedule
  pub names : get_or schedule k 0 ≡ w
  pub held : outcome_at s cells schedule k ≡ advanced → ⊥

-- a worker was never held, or this is the outcome of the last byte at which it was named and held
pub data Latest (s : Setting) (cells schedule : List ℕ) (w : ℕ) : Outcome → Type 0 where
  never : ((k : ℕ) → HeldAt s cells schedule w k → ⊥) → Latest s cells schedule w advanced
  last : (k : ℕ) → HeldAt s cells schedule w k → ((j : ℕ) → k < j → HeldAt s cells schedule w j → ⊥)
      → Latest s cells schedule w (outcome_at s cells schedule k)

pub record WhyHeld (s : Setting) (cells schedule : List ℕ) : Type 0 where
  -- the steps that are counted are those of the schedule's bytes
  pub as_many : length (named_by s cells schedule) ≡ length schedule
  pub named_are : (k : ℕ) → k < length schedule
      → get_or (named_by s cells schedule) k (named 0 advanced) ≡ named (get_or schedule k 0) (outcome_at s cells schedule k)
  -- "the three add up to held"
  pub adds_up : held_for 1 (named_by s cells schedule) + held_for 2 (named_by s cells schedule) + held_for 3 (named_by s cells schedule)
      ≡ (run s cells schedule).held
  pub latest : (w : ℕ) → Latest s cells schedule w (latest_of w (named_by s cells schedule))
  -- a worker that no byte names has none
  pub unnamed : (w : ℕ) → ((k : ℕ) → k < length schedule → get_or schedule k 0 ≡ w → ⊥) → latest_of w (named_by s cells schedule) ≡ advanced
