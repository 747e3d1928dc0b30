-- Each advancing step moves its worker on by one of the steps that it has to make at each task, so the steps that advance are those
-- that the workers have walked. A worker's whole walk has each of its own tasks' steps and one for each other task, and each task has
-- one owner: all the walks together are the total, and they are walked to the end exactly where each worker is past the last task.
use mathlib.Core.Path.{◌≡◌, refl, sym, ap, ◌∙◌}
use mathlib.Core.Bool.{Bool, true}
use mathlib.Core.Logic.{◌↔◌, ⊎_elim}
use mathlib.Core.List.{List, [], ◌∷◌}
use Prim.Native.Nat.{ℕ, zero, suc, ◌+◌, ◌-◌, ◌≤◌, ◌<◌}
use native.Mathlib.Nat.{eq-or-lt_of_le}
use native.Mathlib.Omega.{arith}
use lib.ListN.{length, get_or, take}
use lib.Dec.{leb}
use borrow.Author.Tests.{eq-eqb, ne_eqb, leb-true, le-leb}
use Rattle.layout.specs.Lists.{each, all}
use Rattle.layout.proofs.Lists.{all_pass, all_keeps}
use Rattle.layout.specs.Flow.{Task}
use Rattle.steps.specs.Machine.{Machine, Place, put}
use Rattle.steps.specs.Step.{Setting, own_steps, Outcome, advanced, past_last, write_differs, reads_differ, step}
use Rattle.steps.specs.Run.{Run, counted, run_from, run, Names, finished, total_of}
use Rattle.steps.specs.Conflict.{task_at}
use Rattle.steps.proofs.Along.{fresh_run, after_step, counted_machine, along}
use Rattle.steps.proofs.OwnSteps.{own_steps_lem}
use Rattle.steps.proofs.Places.{steps_of, PlaceFits, PlacesFit, Held, NextPlace, within, beyond, Moves, stays, goes, moves}
use Rattle.steps.proofs.Places.{standing_fresh, standing_kept}
use Rattle.steps.proofs.Put.{put_here, put_other}
use Rattle.steps.proofs.Sums.{sum, sum_more, sum_plus, sum_const, sum_longer, sum_over, sum_above, sum_same, sum_but_one}

-- ---- how far a worker has walked

-- the steps that a worker makes to come past so many tasks
abbrev pub walk : List Task → ℕ → ℕ → ℕ
walk tasks w passed = sum passed (λ i. steps_of w (task_at tasks i))

-- the steps that it has made to come to a place
abbrev pub walked : List Task → ℕ → Place → ℕ
walked tasks w at = walk tasks w at.passed + at.made

abbrev pub whole_walk : List Task → ℕ → ℕ
whole_walk tasks w = walk tasks w (length tasks)

-- a worker that stands at a task has not walked to the end, and one past the last task has
pub under_way : (tasks : List Task) (w : ℕ) (at : Place) → PlaceFits tasks w at → at.passed < length tasks
    → walked tasks w at < whole_walk tasks w
under_way tasks w at stands h =
    let f : ℕ → ℕ = λ i. steps_of w (task_at tasks i) in
    omega (arith, stands.unmade h, sum_more at.passed f, sum_longer (at.passed + 1) (length tasks) f (omega arith))

pub walked_out : (tasks : List Task) (w : ℕ) (at : Place) → PlaceFits tasks w at → length tasks ≤ at.passed
    → walked tasks w at ≡ whole_walk tasks w
walked_out tasks w at stands h =
    let e : at.passed ≡ length tasks = omega arith in
    omega (arith, stands.at_end e, ap (walk tasks w) e)

pub no_further : (tasks : List Task) (w : ℕ) (at : Place) → PlaceFits tasks w at → walked tasks w at ≤ whole_walk tasks w
no_further tasks w at stands =
    ⊎_elim (λ e. omega (arith, walked_out tasks w at stands (omega arith))) (λ l. omega (arith, under_way tasks w at stands l))
    (eq-or-lt_of_le stands.in_list)

-- an advancing step takes it one step on
pub next_walked : (tasks : List Task) (w : ℕ) {at next : Place} → NextPlace tasks w at next → walked tasks w next ≡ walked tasks w at + 1
next_walked tasks w (within h more) = omega arith
next_walked tasks w {at} (beyond h last) = omega (arith, sum_more at.passed (λ i. steps_of w (task_at tasks i)))

-- ---- the steps that advance are those that the workers have walked

abbrev pub all_walked : ℕ → List Task → (ℕ → Place) → ℕ
all_walked workers tasks places = sum workers (λ w. walked tasks w (places w))

moved_on : (workers : ℕ) (tasks : List Task) (places : ℕ → Place) (w : ℕ) (next : Place) → w < workers
    → walked tasks w next ≡ walked tasks w (places w) + 1 → all_walked workers tasks (put places w next) ≡ all_walked workers tasks places + 1
moved_on workers tasks places w next h e =
    omega (
      arith,
      ap (walked tasks w) (put_here places w next),
      sum_but_one workers (λ v. walked tasks v (put places w next v)) (λ v. walked tasks v (places v)) w h
          (λ v apart. ap (walked tasks v) (put_other places w next v apart)),
    )

-- of every run: where workers stand, and how many steps have advanced
pub record Counts (s : Setting) (workers : ℕ) (r : Run) : Type 0 where
  pub standing : PlacesFit s.tasks r.machine.places
  pub counts : r.advanced ≡ all_walked workers s.tasks r.machine.places

module _ (s : Setting) (workers : ℕ) (some_access : (i : ℕ) → i < length s.tasks → 1 ≤ length (task_at s.tasks i).accesses) where
  pub counts_kept : (before : Run) (w : ℕ) → w < workers → Counts s workers before → Counts s workers (after_step s before w)
  unfolding counted
  counts_kept before w h so_far =
      record {
        standing = rw counted_machine (standing_kept s some_access before.machine w so_far.standing);
        counts = rw counted_machine (go (moves s before.machine w (so_far.standing.each_worker w)) (step s before.machine w).machine);
      }
    where
      held : (why : Outcome) (after : Machine) → Held why → (counted before why after).advanced ≡ before.advanced
      held advanced after still = absurd still
      held past_last after still = refl
      held (write_differs c) after still = refl
      held (reads_differ c) after still = refl

      go : {why : Outcome} {places : ℕ → Place} → Moves s before.machine w why places → (after : Machine)
          → (counted before why after).advanced ≡ all_walked workers s.tasks places
      go (stays {why} still) after = held why after still ∙ so_far.counts
      go (goes {next} on) after =
          rw so_far.counts (sym (moved_on workers s.tasks before.machine.places w next h (next_walked s.tasks w on)))

  pub counts_fresh : (cells : List ℕ) → Counts s workers (fresh_run s cells)
  unfolding sum
  counts_fresh cells = record { standing = standing_fresh s some_access cells; counts = omega (arith, sum_const workers 0) }

  pub run_counts : (cells schedule : List ℕ) → Names workers schedule → Counts s workers (run s cells schedule)
  run_counts cells = along s workers (Counts s workers) cells (counts_fresh cells) counts_kept

-- each step advances or is held
pub counted_from : (s : Setting) (before : Run) (schedule : List ℕ)
    → (run_from s before schedule).held + (run_from s before schedule).advanced ≡ before.held + before.advanced + length schedule
unfolding run_from counted
counted_from s before [] = omega arith
counted_from s before (w ∷ schedule) = omega (arith, counted_from s (after_step s before w) schedule, one (step s before.machine w).outcome)
  where
    one : (why : Outcome) → (counted before why (step s before.machine w).machine).held
        + (counted before why (step s before.machine w).machine).advanced ≡ before.held + before.advanced + 1
    one advanced = omega arith
    one past_last = omega arith
    one (write_differs c) = omega arith
    one (reads_differ c) = omega arith

-- and neither count falls
pub counts_no_less : (s : Setting) (before : Run) (schedule : List ℕ)
    → (before.held ≤ (run_from s before schedule).held) × (before.advanced ≤ (run_from s before schedule).advanced)
unfolding run_from counted
counts_no_less s before [] = (omega arith, omega arith)
counts_no_less s before (w ∷ schedule) =
    let first = one (step s before.machine w).outcome in
    let rest = counts_no_less s (after_step s before w) schedule in
    (omega (arith, first.0, rest.0), omega (arith, first.1, rest.1))
  where
    one : (why : Outcome)
        → (before.held ≤ (counted before why (step s before.machine w).machine).held)
        × (before.advanced ≤ (counted before why (step s before.machine w).machine).advanced)
    one advanced = (omega arith, omega arith)
    one past_last = (omega arith, omega arith)
    one (write_differs c) = (omega arith, omega arith)
    one (reads_differ c) = (omega arith, omega arith)

-- where the step of a byte advances, the count is larger
pub advances_one : (s : Setting) (before : Run) (schedule : List ℕ) (k : ℕ) → k < length schedule
    → (step s (run_from s before (take k schedule)).machine (get_or schedule k 0)).outcome ≡ advanced
    → before.advanced < (run_from s before schedule).advanced
unfolding run_from counted
advances_one s before [] k h free = absurd (omega arith)
advances_one s before (w ∷ schedule) zero h free =
    let first : (after_step s before w).advanced ≡ before.advanced + 1 =
    ap (λ (why : Outcome). (counted before why (step s before.machine w).machine).advanced) free in
    omega (arith, (counts_no_less s (after_step s before w) schedule).1)
advances_one s before (w ∷ schedule) (suc k) h free =
    omega (arith, (counts_no_less s before (w ∷ [])).1, advances_one s (after_step s before w) schedule k (omega arith) free)

pub all_counted : (s : Setting) (cells schedule : List ℕ)
    → (run s cells schedule).held + (run s cells schedule).advanced ≡ length schedule
all_counted s cells schedule = omega (arith, counted_from s (fresh_run s cells) schedule)

-- ---- the whole walks make the total

-- the steps that all workers make at a task
at_task : (workers : ℕ) (task : Task) → task.owner < workers
    → sum workers (λ w. steps_of w task) ≡ length (own_steps task) + (workers - 1)
at_task workers task owned =
    let own : steps_of task.owner task ≡ length (own_steps task) = rw (eq-eqb task.owner task.owner refl) in
    omega (
      arith,
      own,
      sum_const workers 1,
      sum_but_one workers (λ w. steps_of w task) (λ w. 1) task.owner owned
          (λ v apart. rw (ne_eqb task.owner v (λ e. apart (sym e)))),
    )

pub whole_total : (workers : ℕ) (tasks : List Task) → ((i : ℕ) → i < length tasks → (task_at tasks i).owner < workers)
    → sum workers (whole_walk tasks) ≡ total_of workers tasks
unfolding sum total_of
whole_total workers [] owned = omega (arith, sum_const workers 0)
whole_total workers (task ∷ tasks) owned =
    omega (
      arith,
      at_task workers task (owned 0 (omega arith)),
      own_steps_lem task,
      whole_total workers tasks (λ i h. owned (suc i) (omega arith)),
      sum_plus workers (λ w. steps_of w task) (whole_walk tasks),
    )

-- ---- the theorems

module _ (s : Setting) (workers : ℕ) (owned : (i : ℕ) → i < length s.tasks → (task_at s.tasks i).owner < workers)
    (r : Run) (so_far : Counts s workers r) where
  stands : (w : ℕ) → PlaceFits s.tasks w (r.machine.places w)
  stands = so_far.standing.each_worker

  abbrev steps : ℕ → ℕ
  steps w = walked s.tasks w (r.machine.places w)

  below : (w : ℕ) → w < workers → steps w ≤ whole_walk s.tasks w
  below w h = no_further s.tasks w (r.machine.places w) (stands w)

  pub bounded : r.advanced ≤ total_of workers s.tasks
  bounded =
      omega (arith, so_far.counts, whole_total workers s.tasks owned, sum_over workers steps (whole_walk s.tasks) below)

  pub ends_exactly : finished workers s.tasks r.machine ≡ true ↔ r.advanced ≡ total_of workers s.tasks
  unfolding finished
  ends_exactly = (to, from)
    where
      ended : ℕ → Bool
      ended w = leb (length s.tasks) (r.machine.places w).passed

      to : all ended (each workers (λ w. w)) ≡ true → r.advanced ≡ total_of workers s.tasks
      to all_ended =
          so_far.counts
          ∙ sum_same workers steps (whole_walk s.tasks)
          (λ w h. walked_out s.tasks w (r.machine.places w) (stands w) (leb-true _ _ (all_keeps ended workers (λ v. v) w h all_ended)))
          ∙ whole_total workers s.tasks owned

      past_last_lem : (w : ℕ) → w < workers → r.advanced ≡ total_of workers s.tasks → length s.tasks ≤ (r.machine.places w).passed
      past_last_lem w h e =
          ⊎_elim (λ p. omega arith)
          (λ l.
          omega (
            arith,
            so_far.counts,
            whole_total workers s.tasks owned,
            sum_above workers steps (whole_walk s.tasks) below w h (under_way s.tasks w (r.machine.places w) (stands w) l),
          ))
          (eq-or-lt_of_le (stands w).in_list)

      from : r.advanced ≡ total_of workers s.tasks → all ended (each workers (λ w. w)) ≡ true
      from e = all_pass ended workers (λ w. w) (λ w h. le-leb _ _ (past_last_lem w h e))

module _ (s : Setting) (workers : ℕ) (owned : (i : ℕ) → i < length s.tasks → (task_at s.tasks i).owner < workers)
    (some_access : (i : ℕ) → i < length s.tasks → 1 ≤ length (task_at s.tasks i).accesses)
    (cells schedule : List ℕ) (names : Names workers schedule) where
  -- "the total": a run advances at most so often
  pub total_bound : (run s cells schedule).advanced ≤ total_of workers s.tasks
  total_bound = bounded s workers owned (run s cells schedule) (run_counts s workers some_access cells schedule names)

  -- and so often exactly where it is finished
  pub finished_exactly : finished workers s.tasks (run s cells schedule).machine ≡ true
      ↔ (run s cells schedule).advanced ≡ total_of workers s.tasks
  finished_exactly = ends_exactly s workers owned (run s cells schedule) (run_counts s workers some_access cells schedule names)
