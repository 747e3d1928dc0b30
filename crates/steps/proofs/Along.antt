-- What holds of the fresh start and is kept by each step of a worker holds of every run, since a run is its schedule's steps one after
-- another.
use mathlib.Core.Path.{◌≡◌, refl}
use mathlib.Core.List.{List, [], ◌∷◌, ◌++◌, append-nil, append_assoc}
use Prim.Native.Nat.{ℕ, suc, ◌<◌}
use native.Mathlib.Omega.{arith}
use Rattle.steps.specs.Machine.{Machine, fresh}
use Rattle.steps.specs.Step.{Setting, Outcome, advanced, past_last, write_differs, reads_differ, step}
use Rattle.steps.specs.Run.{Run, counted, run_from, run, Names}
use Rattle.steps.specs.History.{Entry, made_by, history_from}

-- the run before any step
abbrev pub fresh_run : Setting → List ℕ → Run
fresh_run s cells = record { machine = fresh (s.number 0) cells; advanced = 0; held = 0 }

-- a run after one step more, of the named worker
abbrev pub after_step : Setting → Run → ℕ → Run
after_step s before w = counted before (step s before.machine w).outcome (step s before.machine w).machine

-- the counts aside, a run is the machine after its steps
pub counted_machine : (before : Run) (why : Outcome) (after : Machine) → (counted before why after).machine ≡ after
unfolding counted
counted_machine before advanced after = refl
counted_machine before past_last after = refl
counted_machine before (write_differs c) after = refl
counted_machine before (reads_differ c) after = refl

-- bytes laid end to end are run one after another
pub from_append : (s : Setting) (before : Run) (one other : List ℕ) → run_from s before (one ++ other) ≡ run_from s (run_from s before one) other
unfolding run_from
from_append s before [] other = refl
from_append s before (w ∷ one) other = from_append s (after_step s before w) one other

module _ (s : Setting) (workers : ℕ) where
  -- P tells of the operations made so far and of the run that made them
  pub along_history : (P : List Entry → Run → Type 0)
      → ((history : List Entry) (before : Run) (w : ℕ) → w < workers → P history before
      → P (history ++ made_by s before.machine w) (after_step s before w))
      → (history : List Entry) (before : Run) → P history before
      → (schedule : List ℕ) → Names workers schedule → P (history ++ history_from s before.machine schedule) (run_from s before schedule)
  unfolding run_from history_from counted
  along_history P kept history before p [] names = rw append-nil p
  along_history P kept history before p (w ∷ schedule) names =
      rw (append_assoc, counted_machine) at
      (along_history P kept (history ++ made_by s before.machine w) (after_step s before w)
      (kept history before w (names 0 (omega arith)) p) schedule (λ i h. names (suc i) (omega arith)))

  -- where it tells of the run alone, from the fresh start
  pub along : (P : Run → Type 0) (cells : List ℕ) → P (fresh_run s cells)
      → ((before : Run) (w : ℕ) → w < workers → P before → P (after_step s before w))
      → (schedule : List ℕ) → Names workers schedule → P (run s cells schedule)
  along P cells start kept = along_history (λ history. P) (λ history. kept) [] (fresh_run s cells) start

  -- and where it tells of the machine alone
  pub along_machine : (P : Machine → Type 0) (cells : List ℕ) → P (fresh (s.number 0) cells)
      → ((m : Machine) (w : ℕ) → w < workers → P m → P (step s m w).machine)
      → (schedule : List ℕ) → Names workers schedule → P (run s cells schedule).machine
  along_machine P cells start kept =
      along (λ r. P r.machine) cells start (λ before w h p. rw counted_machine (kept before.machine w h p))
