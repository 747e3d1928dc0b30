-- How far every worker has come, measured by the owners' steps: a worker at a task of its own has come as far as its steps there, and one at another's task
-- has one step to make where the owner has many, so it is as good as at the owner's last. Where all have come so far and a stretch names each of them, all
-- come one step further: one that had come no further than that has gone past the fewest tasks, and is not held. So as many stretches as the owners have steps
-- bring all workers past the last task.
use mathlib.Core.Path.{◌≡◌, refl, sym, ap, subst}
use mathlib.Core.Bool.{Bool, true, false, cond}
use mathlib.Core.Logic.{⊎_elim}
use mathlib.Core.List.{List, [], ◌∷◌, ◌++◌}
use Prim.Native.Nat.{ℕ, zero, suc, ◌+◌, ◌-◌, ◌≤◌, ◌<◌}
use native.Mathlib.Nat.{eq-or-lt_of_le, lt_of_not-le, le_refl}
use native.Mathlib.Omega.{arith}
use borrow.Author.Tests.{eqb-true, le-leb}
use lib.ListN.{length}
use lib.Dec.{eqb, leb}
use Rattle.layout.specs.Flow.{Task}
use Rattle.layout.proofs.Lists.{all_pass}
use Rattle.steps.specs.Machine.{Machine, Place, put}
use Rattle.steps.specs.Step.{Setting, own_steps, Outcome, advanced, step}
use Rattle.steps.specs.Run.{Run, run_from, run, finished}
use Rattle.steps.specs.Conflict.{task_at, AllKeep, TellsApart}
use Rattle.steps.specs.Turns.{NamedIn, Stretch, stretches}
use Rattle.steps.proofs.Advance.{lowest}
use Rattle.steps.proofs.Along.{fresh_run, after_step, counted_machine, from_append}
use Rattle.steps.proofs.Invariant.{Kept, kept_fresh, kept_step}
use Rattle.steps.proofs.OwnMade.{order}
use Rattle.steps.proofs.OwnSteps.{some_own_step}
use Rattle.steps.proofs.Places.{PlaceFits, own_unmade, NextPlace, within, beyond, Held, Moves, stays, goes, moves}
use Rattle.steps.proofs.Put.{put_here, put_other}
use Rattle.steps.proofs.Sums.{sum, sum_more, sum_longer}

-- ---- one worker

-- the owners' steps at the task of an index, and at the tasks before it
abbrev pub own_at : List Task → ℕ → ℕ
own_at tasks i = length (own_steps (task_at tasks i))

abbrev pub own_before : List Task → ℕ → ℕ
own_before tasks i = sum i (own_at tasks)

abbrev pub reach : List Task → ℕ → Place → ℕ
reach tasks w at = own_before tasks at.passed + cond (eqb (task_at tasks at.passed).owner w) at.made (own_at tasks at.passed - 1)

module _ (tasks : List Task) (some_access : (i : ℕ) → i < length tasks → 1 ≤ length (task_at tasks i).accesses) (w : ℕ) where
  some_own : (i : ℕ) → i < length tasks → 1 ≤ own_at tasks i
  some_own i h = some_own_step (task_at tasks i) (some_access i h)

  -- an advancing step takes it further
  next_reach : {at next : Place} → NextPlace tasks w at next → reach tasks w at < reach tasks w next
  next_reach {at} (within h more) = go (eqb (task_at tasks at.passed).owner w) more
    where
      go : (t : Bool) → at.made + 1 < cond t (own_at tasks at.passed) 1
          → own_before tasks at.passed + cond t at.made (own_at tasks at.passed - 1)
          < own_before tasks at.passed + cond t (at.made + 1) (own_at tasks at.passed - 1)
      go true l = omega arith
      go false l = absurd (omega arith)
  next_reach {at} (beyond h last) =
      omega (arith, go (eqb (task_at tasks at.passed).owner w) last, sum_more at.passed (own_at tasks))
    where
      go : (t : Bool) → at.made + 1 ≡ cond t (own_at tasks at.passed) 1
          → cond t at.made (own_at tasks at.passed - 1) < own_at tasks at.passed
      go true l = omega arith
      go false l = omega (arith, some_own at.passed h)

  -- one that stands at a task has not come past its steps
  reach_below : (at : Place) → PlaceFits tasks w at → at.passed < length tasks → reach tasks w at < own_before tasks (at.passed + 1)
  reach_below at stands h =
      omega (arith, go (eqb (task_at tasks at.passed).owner w) refl, sum_more at.passed (own_at tasks))
    where
      go : (t : Bool) → eqb (task_at tasks at.passed).owner w ≡ t
          → cond t at.made (own_at tasks at.passed - 1) < own_at tasks at.passed
      go true e = own_unmade stands h (eqb-true _ _ e)
      go false e = omega (arith, some_own at.passed h)

  -- so one that has come as far as the steps before a task has gone past all of those tasks
  pub reach_passed : (at : Place) → PlaceFits tasks w at → (p : ℕ) → p ≤ length tasks → own_before tasks p ≤ reach tasks w at → p ≤ at.passed
  reach_passed at stands p inside far = omega (arith, lt_of_not-le short)
    where
      short : at.passed + 1 ≤ p → ⊥
      short l = omega (arith, reach_below at stands (omega arith), sum_longer (at.passed + 1) p (own_at tasks) l)

-- ---- all workers

module _ (s : Setting) (workers cells : ℕ) (keep : AllKeep workers cells s.tasks) (apart : TellsApart s.tasks s.number) where
  some_access : (i : ℕ) → i < length s.tasks → 1 ≤ length (task_at s.tasks i).accesses
  some_access i h = (keep.each_task i h).some_access

  abbrev reach_of : Machine → ℕ → ℕ
  reach_of m w = reach s.tasks w (m.places w)

  -- all have come so far
  abbrev pub AllReach : Machine → ℕ → Type 0
  AllReach m n = (w : ℕ) → w < workers → n ≤ reach_of m w

  module _ (m : Machine) (k : Kept s m) where
    -- nobody falls back
    no_less : (v w : ℕ) → reach_of m w ≤ reach_of (step s m v).machine w
    no_less v w = go (moves s m v (k.standing.each_worker v))
      where
        go : {why : Outcome} {places : ℕ → Place} → Moves s m v why places → reach_of m w ≤ reach s.tasks w (places w)
        go (stays still) = le_refl _
        go (goes {next} on) =
            order w v (λ l. omega (arith, elsewhere (λ e. omega arith)))
            (λ e. subst (λ (u : ℕ). reach_of m u ≤ reach s.tasks u (put m.places v next u)) (sym e) here)
            (λ l. omega (arith, elsewhere (λ e. omega arith)))
          where
            here : reach_of m v ≤ reach s.tasks v (put m.places v next v)
            here = omega (arith, next_reach s.tasks some_access v on, ap (reach s.tasks v) (put_here m.places v next))

            elsewhere : (w ≡ v → ⊥) → reach s.tasks w (put m.places v next w) ≡ reach_of m w
            elsewhere other = ap (reach s.tasks w) (put_other m.places v next w other)

    -- one that advances comes further
    further : (w : ℕ) → (step s m w).outcome ≡ advanced → reach_of m w < reach_of (step s m w).machine w
    further w free = go (moves s m w (k.standing.each_worker w)) free
      where
        go : {why : Outcome} {places : ℕ → Place} → Moves s m w why places → why ≡ advanced → reach_of m w < reach s.tasks w (places w)
        go (stays still) e = absurd (subst Held e still)
        go (goes {next} on) e =
            omega (arith, next_reach s.tasks some_access w on, ap (reach s.tasks w) (put_here m.places w next))

    -- one that has come no further than all have is not held
    last_free : (n : ℕ) → n < own_before s.tasks (length s.tasks) → AllReach m n → (w : ℕ) → w < workers → reach_of m w ≡ n
        → (step s m w).outcome ≡ advanced
    last_free n more all w h here =
        lowest s workers cells keep m k w at_task
        (λ v l. reach_passed s.tasks some_access v (m.places v) (k.standing.each_worker v) (m.places w).passed (k.standing.each_worker w).in_list
        (omega (arith, all v l)))
      where
        at_task : (m.places w).passed < length s.tasks
        at_task =
            ⊎_elim (λ e. absurd (omega (arith, ap (own_before s.tasks) e))) (λ l. l)
            (eq-or-lt_of_le (k.standing.each_worker w).in_list)

    -- its step takes every worker past what all had come to
    one_further : (n : ℕ) → n < own_before s.tasks (length s.tasks) → AllReach m n → (w : ℕ) → w < workers
        → suc n ≤ reach_of (step s m w).machine w
    one_further n more all w h =
        ⊎_elim (λ e. omega (arith, further w (last_free n more all w h (sym e)))) (λ l. omega (arith, no_less w w)) (eq-or-lt_of_le (all w h))

  -- ---- a schedule

  pub kept_next : (before : Run) (v : ℕ) → Kept s before.machine → Kept s (after_step s before v).machine
  kept_next before v k = rw counted_machine (kept_step s workers cells keep apart before.machine v k)

  pub kept_from : (before : Run) (bytes : List ℕ) → Kept s before.machine → Kept s (run_from s before bytes).machine
  unfolding run_from
  kept_from before [] k = k
  kept_from before (v ∷ bytes) k = kept_from (after_step s before v) bytes (kept_next before v k)

  next_no_less : (before : Run) (v w : ℕ) → Kept s before.machine → reach_of before.machine w ≤ reach_of (after_step s before v).machine w
  next_no_less before v w k = rw counted_machine (no_less before.machine k v w)

  no_less_from : (before : Run) (bytes : List ℕ) → Kept s before.machine → (w : ℕ)
      → reach_of before.machine w ≤ reach_of (run_from s before bytes).machine w
  unfolding run_from
  no_less_from before [] k w = le_refl _
  no_less_from before (v ∷ bytes) k w =
      omega (arith, next_no_less before v w k, no_less_from (after_step s before v) bytes (kept_next before v k) w)

  -- a worker that is named comes further than all had come
  named_further : (bytes : List ℕ) (before : Run) → Kept s before.machine → (n : ℕ) → n < own_before s.tasks (length s.tasks)
      → AllReach before.machine n
      → (w : ℕ) → w < workers → NamedIn w bytes → suc n ≤ reach_of (run_from s before bytes).machine w
  unfolding run_from
  named_further [] before k n more all w h (i, inside, names) = absurd (omega arith)
  named_further (v ∷ bytes) before k n more all w h (zero, inside, names) =
      omega (arith, here, no_less_from (after_step s before v) bytes (kept_next before v k) w)
    where
      here : suc n ≤ reach_of (after_step s before v).machine w
      here = rw (counted_machine, names) (one_further before.machine k n more all w h)
  named_further (v ∷ bytes) before k n more all w h (suc i, inside, names) =
      named_further bytes (after_step s before v) (kept_next before v k) n more
      (λ u l. omega (arith, all u l, next_no_less before v u k)) w h (i, omega arith, names)

  -- ---- stretch after stretch

  module _ (start : List ℕ) (named : ℕ → List ℕ) where
    abbrev after : ℕ → Machine
    after n = (run s start (stretches named n)).machine

    kept_run : (schedule : List ℕ) → Kept s (run s start schedule).machine
    kept_run schedule = kept_from (fresh_run s start) schedule (kept_fresh s workers cells keep apart start)

    stretches_reach : (n : ℕ) → n ≤ own_before s.tasks (length s.tasks) → ((i : ℕ) → i < n → Stretch workers (named i)) → AllReach (after n) n
    unfolding stretches
    stretches_reach zero inside each w h = omega arith
    stretches_reach (suc n) inside each w h =
        subst (λ (r : Run). suc n ≤ reach_of r.machine w) (sym (from_append s (fresh_run s start) (stretches named n) (named n)))
        (named_further (named n) (run s start (stretches named n)) (kept_run (stretches named n)) n inside
        (stretches_reach n (omega arith) (λ i l. each i (omega arith))) w h ((each n (omega arith)).each_worker w h))

    -- once all have come past all steps of the owners, the run has finished, and it stays so
    pub past_all : (schedule : List ℕ) → AllReach (run s start schedule).machine (own_before s.tasks (length s.tasks))
        → finished workers s.tasks (run s start schedule).machine ≡ true
    unfolding finished
    past_all schedule all =
        let m : Machine = (run s start schedule).machine in
        all_pass (λ w. leb (length s.tasks) (m.places w).passed) workers (λ w. w)
        (λ w h. le-leb _ _
        (reach_passed s.tasks some_access w (m.places w) ((kept_run schedule).standing.each_worker w) (length s.tasks) (le_refl _) (all w h)))

    pub stretches_finish : ((i : ℕ) → i < own_before s.tasks (length s.tasks) → Stretch workers (named i)) → (more : List ℕ)
        → finished workers s.tasks (run s start (stretches named (own_before s.tasks (length s.tasks)) ++ more)).machine ≡ true
    stretches_finish each more =
        let n : ℕ = own_before s.tasks (length s.tasks) in
        let whole = stretches_reach n (le_refl _) each in
        past_all (stretches named n ++ more)
        (λ w h.
        subst (λ (r : Run). n ≤ reach_of r.machine w) (sym (from_append s (fresh_run s start) (stretches named n) more))
        (omega (arith, whole w h, no_less_from (run s start (stretches named n)) more (kept_run (stretches named n)) w)))
