-- Progress. Take a worker that has gone past the fewest tasks. At another's task it registers it, which is never held. At a task of its own all earlier
-- tasks are complete, so nobody later can have posted or zeroed a cell that it still waits for, and its step advances.
use mathlib.Core.Path.{◌≡◌, refl, ap, ◌∙◌}
use mathlib.Core.Bool.{Bool, true, false}
use Prim.Native.Nat.{ℕ, zero, suc, ◌<◌, ◌≤◌}
use native.Mathlib.Nat.{not-suc-le-zero}
use native.Mathlib.Omega.{arith}
use borrow.Author.Tests.{eq-eqb, leb-true, leb-false}
use lib.ListN.{length}
use lib.Dec.{leb}
use Rattle.layout.specs.Row.{named_once}
use Rattle.steps.specs.Machine.{Machine}
use Rattle.steps.specs.Step.{Setting, Try, wait_write, wait_reads, own_steps, Outcome, advanced, Stepped, step}
use Rattle.steps.specs.Conflict.{task_at, AllKeep}
use Rattle.steps.specs.Demand.{Progress}
use Rattle.steps.proofs.Kind.{full}
use Rattle.steps.proofs.OnCell.{on, stage, stage_end}
use Rattle.steps.proofs.OwnMade.{made_past, order}
use Rattle.steps.proofs.Places.{facing, Trying, Passes, Waits, on_write, on_reads, StepView, past, other, held, view}
use Rattle.steps.proofs.Protocol.{inv_free}
use Rattle.steps.proofs.Protocol.Words.{InConflict}
use Rattle.steps.proofs.Rows.{kinds}
use Rattle.steps.proofs.Seen.{seen, below_there, passes_there}
use Rattle.steps.proofs.Invariant.{Kept}

-- ---- one that has the least

pub record Least (f : ℕ → ℕ) (n : ℕ) : Type 0 where
  pub at : ℕ
  pub inside : at < n
  pub least : (v : ℕ) → v < n → f at ≤ f v

least_of : (f : ℕ → ℕ) (n : ℕ) → Least f (suc n)
least_of f zero = record { at = 0; inside = omega arith; least = λ v h. only v (omega arith) }
  where
    only : (v : ℕ) → v ≡ 0 → f 0 ≤ f v
    only v e = omega (arith, ap f e)
least_of f (suc n) = go (least_of f n)
  where
    go : Least f (suc n) → Least f (suc (suc n))
    go before = pick (leb (f before.at) (f (suc n))) refl
      where
        pick : (t : Bool) → leb (f before.at) (f (suc n)) ≡ t → Least f (suc (suc n))
        pick true e =
            record {
              at = before.at;
              inside = omega (arith, before.inside);
              least = λ v h. order v (suc n) (before.least v) (λ q. omega (arith, leb-true (f before.at) (f (suc n)) e, ap f q)) (λ l. absurd (omega arith));
            }
        pick false e =
            record {
              at = suc n;
              inside = omega arith;
              least = λ v h. order v (suc n) (λ l. omega (arith, before.least v l, leb-false (f before.at) (f (suc n)) e)) (λ q. omega (arith, ap f q)) (λ l. absurd (omega arith));
            }

least_below : (f : ℕ → ℕ) (n v : ℕ) → v < n → Least f n
least_below f zero v h = absurd (not-suc-le-zero h)
least_below f (suc n) v h = least_of f n

module _ (s : Setting) (workers cells : ℕ) (keep : AllKeep workers cells s.tasks) (m : Machine) (k : Kept s m) where
  -- a task that its owner has gone past is complete on every cell
  pub past_ended : (c i : ℕ) → i < length s.tasks → i < (m.places (task_at s.tasks i).owner).passed
      → (seen s m c).stage i ≡ full (kinds s c i)
  past_ended c i inside gone =
      ap (stage (task_at s.tasks i) c)
      (made_past (length (own_steps (task_at s.tasks i))) i (m.places (task_at s.tasks i).owner) gone)
      ∙ stage_end (task_at s.tasks i) c (keep.each_task i inside).each_once

  -- the tasks before a worker's that are in conflict with it on a cell are complete there
  abbrev pub Clear : ℕ → Type 0
  Clear w =
      (c i : ℕ) → i < (m.places w).passed → InConflict (kinds s c i) (kinds s c (m.places w).passed) → (seen s m c).stage i ≡ full (kinds s c i)

  -- so it is not held
  passing : (w : ℕ) → Clear w → (try : Try) (c : ℕ) → on c try ≡ true → Trying s m w try → Passes m w try
  passing w clear try c o trying =
      let once : named_once (facing s m w).accesses ≡ true = (keep.each_task _ trying.at_task).each_once in
      passes_there s m w try trying c once o (k.rows w)
      (inv_free (kinds s c) s.number (length s.tasks) (seen s m c) (k.cells c) (m.places w).passed (clear c)
      (below_there s m w try trying c once o))

  pub not_held : (w : ℕ) → Clear w → {try : Try} {why : Outcome} → Trying s m w try → Waits m w try why → ⊥
  not_held w clear trying (on_write {c} differs) = differs (passing w clear (wait_write c) c (eq-eqb c c refl) trying)
  not_held w clear trying (on_reads {c} differs) = differs (passing w clear (wait_reads c) c (eq-eqb c c refl) trying)

  -- nothing is left to do at the tasks that every worker has gone past
  all_past : (w : ℕ) → (m.places w).passed ≤ length s.tasks → ((v : ℕ) → v < workers → (m.places w).passed ≤ (m.places v).passed) → Clear w
  all_past w inside least c i l between =
      past_ended c i (omega arith) (omega (arith, least _ (keep.each_task i (omega arith)).owned))

  -- a worker that has gone past the fewest tasks, and has tasks left, advances
  pub lowest : (w : ℕ) → (m.places w).passed < length s.tasks → ((v : ℕ) → v < workers → (m.places w).passed ≤ (m.places v).passed)
      → (step s m w).outcome ≡ advanced
  lowest w at_task least = go (view s m w (k.standing.each_worker w))
    where
      go : {r : Stepped} → StepView s m w r → r.outcome ≡ advanced
      go (past e) = absurd (omega arith)
      go (other h not_own none) = refl
      go (held trying e waits) = absurd (not_held w (all_past w (omega arith) least) trying waits)
      go (StepView.made trying e passes) = refl

  pub progress : Progress s workers m
  progress left inside more =
      let best = least_below (λ v. (m.places v).passed) workers left inside in
      (best.at, best.inside, lowest best.at (omega (arith, best.least left inside)) best.least)
