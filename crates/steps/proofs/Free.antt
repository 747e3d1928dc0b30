-- Once a worker's step would advance, no step of another worker makes it held. The other leaves the worker's place, and tasks that have ended on a cell stay
-- ended there; so a wait that passes goes on passing, since it passes exactly where the earlier tasks that it is about have ended.
use mathlib.Core.Path.{◌≡◌, refl, sym, ap, subst, ◌∙◌}
use mathlib.Core.Bool.{Bool, true, false, cond}
use mathlib.Core.List.{List}
use Prim.Native.Nat.{ℕ, ◌+◌, ◌<◌, ◌≤◌}
use native.Mathlib.Nat.{le_refl}
use native.Mathlib.Omega.{arith}
use borrow.Author.Tests.{eqb-true, eq-eqb}
use lib.ListN.{length, get_or}
use lib.Dec.{eqb}
use Rattle.layout.specs.Row.{named_once}
use Rattle.steps.specs.Machine.{Machine, Place}
use Rattle.steps.specs.Step.{Setting, Try, wait_write, wait_reads, Outcome, advanced, Stepped, step}
use Rattle.steps.specs.Conflict.{task_at, AllKeep, TellsApart}
use Rattle.steps.proofs.Invariant.{Kept, kept_step}
use Rattle.steps.proofs.OnCell.{on, stage, stage_more}
use Rattle.steps.proofs.OwnMade.{own_made, own_there, own_then, own_made_past}
use Rattle.steps.proofs.Places.{facing, Trying, Passes, on_write, on_reads, StepView, past, other, held, view, Held, Moves, stays, goes, moves}
use Rattle.steps.proofs.Protocol.{inv_stays}
use Rattle.steps.proofs.Protocol.Words.{Allowed, Ended}
use Rattle.steps.proofs.Put.{put_other}
use Rattle.steps.proofs.Rows.{kinds}
use Rattle.steps.proofs.Seen.{seen, below_there, allowed_there, passes_there}

-- what a worker tries depends on its own place alone
same_trying : (s : Setting) (m later : Machine) (w : ℕ) {try : Try} → later.places w ≡ m.places w → Trying s m w try → Trying s later w try
same_trying s m later w same trying =
    record { at_task = rw same trying.at_task; owns = rw same trying.owns; unmade = rw same trying.unmade; here = rw same trying.here }

-- a worker whose step advances has passed what it tries
free_passes : (s : Setting) (m : Machine) (w : ℕ) → Kept s m → (step s m w).outcome ≡ advanced → {try : Try} → Trying s m w try → Passes m w try
free_passes s m w k free {try} trying = go (view s m w (k.standing.each_worker w)) free
  where
    go : {r : Stepped} → StepView s m w r → r.outcome ≡ advanced → Passes m w try
    go (past e) q = absurd (omega (arith, trying.at_task))
    go (other h not_own none) q = absurd (not_own trying.owns)
    go (held t e (on_write p)) q = absurd (subst Held q tt)
    go (held t e (on_reads p)) q = absurd (subst Held q tt)
    go (StepView.made t e passes) q =
        subst (Passes m w) (ap (λ (steps : List Try). get_or steps 0 try) (sym t.here ∙ trying.here)) passes

module _ (s : Setting) (workers cells : ℕ) (keep : AllKeep workers cells s.tasks) (apart : TellsApart s.tasks s.number) (m : Machine)
    (k : Kept s m) (v : ℕ) where
  abbrev later : Machine
  later = (step s m v).machine

  kept_later : Kept s later
  kept_later = kept_step s workers cells keep apart m v k

  -- no task has fewer own steps made than before
  own_more : (j : ℕ) → own_made s.tasks m.places j ≤ own_made s.tasks later.places j
  own_more j = go (view s m v (k.standing.each_worker v))
    where
      go : {r : Stepped} → StepView s m v r → own_made s.tasks m.places j ≤ own_made s.tasks r.machine.places j
      go (past e) = le_refl _
      go (other h not_own none) = omega (arith, own_made_past s.tasks m.places v not_own none j)
      go (held trying e waits) = le_refl _
      go (StepView.made {try} trying e passes) = rw (own_then s m v try trying j) (at (eqb j (m.places v).passed) refl)
        where
          at : (t : Bool) → eqb j (m.places v).passed ≡ t
              → own_made s.tasks m.places j ≤ cond t ((m.places v).made + 1) (own_made s.tasks m.places j)
          at true q =
              omega (arith, ap (own_made s.tasks m.places) (eqb-true j (m.places v).passed q), own_there s m v try trying)
          at false q = le_refl _

  -- so one that has ended on a cell stays so
  still_ended : (c i : ℕ) → Ended (kinds s c) (seen s m c).stage i → Ended (kinds s c) (seen s later c).stage i
  still_ended c i ended =
      omega (arith, ended, stage_more (task_at s.tasks i) c _ _ (own_more i), (kept_later.cells c).order.bounded i)

  module _ (w : ℕ) (others : v ≡ w → ⊥) where
    same_place : later.places w ≡ m.places w
    same_place = go (moves s m v (k.standing.each_worker v))
      where
        go : {why : Outcome} {places : ℕ → Place} → Moves s m v why places → places w ≡ m.places w
        go (stays still) = refl
        go (goes {next} on) = put_other m.places v next w (λ e. others (sym e))

    -- a wait that passes goes on passing
    still_passes : (try : Try) (c : ℕ) → on c try ≡ true → Trying s m w try → Passes m w try → Passes later w try
    still_passes try c o trying passes =
        let there : Trying s later w try = same_trying s m later w same_place trying in
        let p : ℕ = (m.places w).passed in
        let once : named_once (facing s m w).accesses ≡ true = (keep.each_task _ trying.at_task).each_once in
        let once_later : named_once (facing s later w).accesses ≡ true = (keep.each_task _ there.at_task).each_once in
        let passed_same : (later.places w).passed ≡ p = ap (λ (at : Place). at.passed) same_place in
        let made_same : own_made s.tasks later.places p ≡ own_made s.tasks m.places p =
        ap (own_made s.tasks later.places) (sym passed_same) ∙ own_there s later w try there
        ∙ ap (λ (at : Place). at.made) same_place ∙ sym (own_there s m w try trying) in
        passes_there s later w try there c once_later o (kept_later.rows w)
        (subst (Allowed (kinds s c) s.number (seen s later c)) (sym passed_same)
        (inv_stays (kinds s c) s.number (length s.tasks) apart.apart (seen s m c) (seen s later c) (k.cells c) (kept_later.cells c)
        (still_ended c) p trying.at_task (below_there s m w try trying c once o)
        (ap (stage (facing s m w) c) made_same)
        (allowed_there s m w try trying c once o (k.rows w) passes)))

    pub stays_free : (step s m w).outcome ≡ advanced → (step s later w).outcome ≡ advanced
    stays_free free = go (view s later w (kept_later.standing.each_worker w))
      where
        back : {try : Try} → Trying s later w try → Trying s m w try
        back = same_trying s later m w (sym same_place)

        not_past : {r : Stepped} → StepView s m w r → r.outcome ≡ advanced → (m.places w).passed < length s.tasks
        not_past (past e) q = absurd (subst Held q tt)
        not_past (other h not_own none) q = h
        not_past (held trying e waits) q = trying.at_task
        not_past (StepView.made trying e passes) q = trying.at_task

        go : {r : Stepped} → StepView s later w r → r.outcome ≡ advanced
        go (past e) =
            absurd (omega (arith, not_past (view s m w (k.standing.each_worker w)) free, ap (λ (at : Place). at.passed) same_place))
        go (other h not_own none) = refl
        go (held trying e (on_write {c} differs)) =
            absurd (differs (still_passes (wait_write c) c (eq-eqb c c refl) (back trying) (free_passes s m w k free (back trying))))
        go (held trying e (on_reads {c} differs)) =
            absurd (differs (still_passes (wait_reads c) c (eq-eqb c c refl) (back trying) (free_passes s m w k free (back trying))))
        go (StepView.made trying e passes) = refl
