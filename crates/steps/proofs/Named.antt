-- A worker makes at most one step each time it is named, so a run has not finished before each worker was named as often as it has steps to make.
use mathlib.Core.Path.{◌≡◌, refl, sym, ap, subst}
use mathlib.Core.Bool.{Bool, true, false, cond}
use mathlib.Core.List.{List, [], ◌∷◌}
use Prim.Native.Nat.{ℕ, ◌+◌, ◌≤◌, ◌<◌}
use native.Mathlib.Omega.{arith}
use borrow.Author.Tests.{eqb-true, eqb-false, eq-eqb, leb-true}
use lib.ListN.{length}
use lib.Dec.{eqb, leb}
use Rattle.layout.specs.Flow.{Task}
use Rattle.layout.proofs.Lists.{all_keeps}
use Rattle.steps.specs.Machine.{Machine, Place, put}
use Rattle.steps.specs.Step.{Setting, own_steps, Outcome, step}
use Rattle.steps.specs.Run.{Run, run_from, run, finished}
use Rattle.steps.specs.Conflict.{task_at}
use Rattle.steps.specs.Turns.{times_named}
use Rattle.steps.proofs.Along.{fresh_run, after_step, counted_machine}
use Rattle.steps.proofs.Places.{steps_of, PlacesFit, Moves, stays, goes, moves, standing_fresh, standing_kept}
use Rattle.steps.proofs.Put.{put_here, put_other}
use Rattle.steps.proofs.Reach.{own_before}
use Rattle.steps.proofs.Sums.{sum, sum_same}
use Rattle.steps.proofs.Total.{walked, whole_walk, walked_out, next_walked}

-- the walk of a worker that owns all tasks is all steps of the owners
pub one_owner_walk : (tasks : List Task) (owner : ℕ) → ((i : ℕ) → i < length tasks → (task_at tasks i).owner ≡ owner)
    → whole_walk tasks owner ≡ own_before tasks (length tasks)
one_owner_walk tasks owner owns =
    sum_same (length tasks) (λ i. steps_of owner (task_at tasks i)) (λ i. length (own_steps (task_at tasks i)))
    (λ i h. ap (λ (t : Bool). cond t (length (own_steps (task_at tasks i))) 1) (eq-eqb _ _ (owns i h)))

module _ (s : Setting) (some_access : (i : ℕ) → i < length s.tasks → 1 ≤ length (task_at s.tasks i).accesses) where
  abbrev walked_by : Machine → ℕ → ℕ
  walked_by m w = walked s.tasks w (m.places w)

  -- one step
  step_walked : (m : Machine) (v w : ℕ) → PlacesFit s.tasks m.places → walked_by (step s m v).machine w ≤ walked_by m w + cond (eqb v w) 1 0
  step_walked m v w fits = go (moves s m v (fits.each_worker v))
    where
      go : {why : Outcome} {places : ℕ → Place} → Moves s m v why places → walked s.tasks w (places w) ≤ walked_by m w + cond (eqb v w) 1 0
      go (stays still) = omega arith
      go (goes {next} on) = at (eqb v w) refl
        where
          here : walked s.tasks v (put m.places v next v) ≤ walked_by m v + 1
          here = omega (arith, next_walked s.tasks v on, ap (walked s.tasks v) (put_here m.places v next))

          at : (t : Bool) → eqb v w ≡ t → walked s.tasks w (put m.places v next w) ≤ walked_by m w + cond t 1 0
          at true e = subst (λ (u : ℕ). walked s.tasks u (put m.places v next u) ≤ walked_by m u + 1) (eqb-true v w e) here
          at false e =
              omega (arith, ap (walked s.tasks w) (put_other m.places v next w (λ same. eqb-false v w e (sym same))))

  named_walked : (schedule : List ℕ) (before : Run) (w : ℕ) → PlacesFit s.tasks before.machine.places
      → walked_by (run_from s before schedule).machine w ≤ walked_by before.machine w + times_named w schedule
  unfolding run_from times_named
  named_walked [] before w fits = omega arith
  named_walked (v ∷ schedule) before w fits =
      let later : PlacesFit s.tasks (after_step s before v).machine.places =
      rw counted_machine (standing_kept s some_access before.machine v fits) in
      let first : walked_by (after_step s before v).machine w ≤ walked_by before.machine w + cond (eqb v w) 1 0 =
      rw counted_machine (step_walked before.machine v w fits) in
      omega (arith, first, named_walked schedule (after_step s before v) w later)

  standing_from : (schedule : List ℕ) (before : Run) → PlacesFit s.tasks before.machine.places
      → PlacesFit s.tasks (run_from s before schedule).machine.places
  unfolding run_from
  standing_from [] before fits = fits
  standing_from (v ∷ schedule) before fits =
      standing_from schedule (after_step s before v) (rw counted_machine (standing_kept s some_access before.machine v fits))

  -- each worker has walked to the end of a finished run
  pub named_enough : (cells : List ℕ) (workers : ℕ) (schedule : List ℕ) → finished workers s.tasks (run s cells schedule).machine ≡ true
      → (w : ℕ) → w < workers → whole_walk s.tasks w ≤ times_named w schedule
  unfolding finished sum
  named_enough cells workers schedule done w h =
      let m : Machine = (run s cells schedule).machine in
      let past : length s.tasks ≤ (m.places w).passed =
      leb-true _ _ (all_keeps (λ v. leb (length s.tasks) (m.places v).passed) workers (λ v. v) w h done) in
      let fits = standing_from schedule (fresh_run s cells) (standing_fresh s some_access cells) in
      omega (
        arith,
        walked_out s.tasks w (m.places w) (fits.each_worker w) past,
        named_walked schedule (fresh_run s cells) w (standing_fresh s some_access cells),
      )
