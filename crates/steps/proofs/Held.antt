-- Why steps were held: the steps that a schedule names are its bytes' in order, each is held for one reason at most, and the latest of a
-- worker is that of its last byte that was held.
use mathlib.Core.Path.{◌≡◌, refl, sym, ap, subst, ◌∙◌}
use mathlib.Core.Bool.{Bool, true, false, cond}
use mathlib.Core.Logic.{◌⊎◌, inl, inr, ⊎_elim}
use mathlib.Core.List.{List, [], ◌∷◌, ◌++◌}
use Prim.Native.Nat.{ℕ, zero, suc, ◌+◌, ◌<◌}
use native.Mathlib.Omega.{arith}
use lib.ListN.{length, get_or, take}
use lib.Dec.{eqb}
use borrow.Author.Tests.{eqb-true, eqb-false}
use Rattle.steps.specs.Machine.{Machine}
use Rattle.steps.specs.Step.{Setting, Outcome, advanced, past_last, write_differs, reads_differ, step}
use Rattle.steps.specs.Run.{Run, counted, run_from}
use Rattle.steps.specs.Held.{reason_of, Named, named, named_from, named_by, held_for, latter, says_of, latest_of}
use Rattle.steps.specs.Held.{outcome_at, HeldAt, Latest, never, last, WhyHeld}
use Rattle.steps.proofs.Along.{fresh_run, after_step, counted_machine}
use Rattle.steps.proofs.Places.{Held}

-- ---- the steps are those of the schedule's bytes

pub named_length : (s : Setting) (m : Machine) (schedule : List ℕ) → length (named_from s m schedule) ≡ length schedule
unfolding named_from
named_length s m [] = refl
named_length s m (w ∷ schedule) = ap suc (named_length s (step s m w).machine schedule)

-- past the end of the steps stands one of no worker
abbrev nothing : Named
nothing = named 0 advanced

named_at : (s : Setting) (before : Run) (schedule : List ℕ) (k : ℕ) → k < length schedule
    → get_or (named_from s before.machine schedule) k nothing
    ≡ named (get_or schedule k 0) (step s (run_from s before (take k schedule)).machine (get_or schedule k 0)).outcome
unfolding named_from run_from counted
named_at s before [] k h = absurd (omega arith)
named_at s before (w ∷ schedule) zero h = refl
named_at s before (w ∷ schedule) (suc k) h = rw counted_machine at (named_at s (after_step s before w) schedule k (omega arith))

-- ---- one step more at the end

pub held_more : (reason : ℕ) (steps : List Named) (one : Named)
    → held_for reason (steps ++ one ∷ []) ≡ held_for reason steps + cond (eqb (reason_of one.outcome) reason) 1 0
unfolding held_for
held_more reason [] one = omega arith
held_more reason (first ∷ steps) one = omega (arith, held_more reason steps one)

latter_only : (why : Outcome) → why ≡ latter advanced why
unfolding latter
latter_only advanced = refl
latter_only past_last = refl
latter_only (write_differs c) = refl
latter_only (reads_differ c) = refl

latter_assoc : (first second third : Outcome) → latter first (latter second third) ≡ latter (latter first second) third
unfolding latter
latter_assoc first second advanced = refl
latter_assoc first second past_last = refl
latter_assoc first second (write_differs c) = refl
latter_assoc first second (reads_differ c) = refl

pub latest_more : (w : ℕ) (steps : List Named) (one : Named) → latest_of w (steps ++ one ∷ []) ≡ latter (latest_of w steps) (says_of w one)
unfolding latest_of latter
latest_more w [] one = latter_only (says_of w one)
latest_more w (first ∷ steps) one =
    ap (latter (says_of w first)) (latest_more w steps one) ∙ latter_assoc (says_of w first) (latest_of w steps) (says_of w one)

-- ---- the three counts

-- each step has one outcome
pub held_within : (steps : List Named) → held_for 0 steps + (held_for 1 steps + held_for 2 steps + held_for 3 steps) ≡ length steps
unfolding held_for
held_within [] = omega arith
held_within (first ∷ steps) = omega (arith, held_within steps, one first.outcome)
  where
    one : (why : Outcome)
        → cond (eqb (reason_of why) 0) 1 0
        + (cond (eqb (reason_of why) 1) 1 0 + cond (eqb (reason_of why) 2) 1 0 + cond (eqb (reason_of why) 3) 1 0)
        ≡ 1
    one advanced = omega arith
    one past_last = omega arith
    one (write_differs c) = omega arith
    one (reads_differ c) = omega arith

held_from : (s : Setting) (before : Run) (schedule : List ℕ)
    → before.held + (held_for 1 (named_from s before.machine schedule) + held_for 2 (named_from s before.machine schedule)
    + held_for 3 (named_from s before.machine schedule))
    ≡ (run_from s before schedule).held
unfolding named_from run_from held_for counted
held_from s before [] = omega arith
held_from s before (w ∷ schedule) =
    let m : Machine = (step s before.machine w).machine in
    let rest : ℕ = held_for 1 (named_from s m schedule) + held_for 2 (named_from s m schedule) + held_for 3 (named_from s m schedule) in
    let later : (after_step s before w).held + rest ≡ (run_from s (after_step s before w) schedule).held =
    rw counted_machine at (held_from s (after_step s before w) schedule) in
    omega (arith, later, one (step s before.machine w).outcome)
  where
    one : (why : Outcome)
        → before.held + (cond (eqb (reason_of why) 1) 1 0 + cond (eqb (reason_of why) 2) 1 0 + cond (eqb (reason_of why) 3) 1 0)
        ≡ (counted before why (step s before.machine w).machine).held
    one advanced = omega arith
    one past_last = omega arith
    one (write_differs c) = omega arith
    one (reads_differ c) = omega arith

-- ---- the latest of a worker

advances_or_held : (why : Outcome) → (why ≡ advanced) ⊎ Held why
advances_or_held advanced = inl refl
advances_or_held past_last = inr tt
advances_or_held (write_differs c) = inr tt
advances_or_held (reads_differ c) = inr tt

pub latter_held : (before why : Outcome) → (why ≡ advanced → ⊥) → latter before why ≡ why
unfolding latter
latter_held before advanced held = absurd (held refl)
latter_held before past_last held = refl
latter_held before (write_differs c) held = refl
latter_held before (reads_differ c) held = refl

-- a step of the list is the worker's and was held
pub record SaysAt (w : ℕ) (steps : List Named) (k : ℕ) : Type 0 where
  pub inside : k < length steps
  pub names : (get_or steps k nothing).worker ≡ w
  pub held : (get_or steps k nothing).outcome ≡ advanced → ⊥

-- none is, or this is the outcome of the last one
data LatestIn (w : ℕ) (steps : List Named) : Outcome → Type 0 where
  never_in : ((k : ℕ) → SaysAt w steps k → ⊥) → LatestIn w steps advanced
  last_in : (k : ℕ) → SaysAt w steps k → ((j : ℕ) → k < j → SaysAt w steps j → ⊥) → LatestIn w steps (get_or steps k nothing).outcome

module _ (w : ℕ) (one : Named) (steps : List Named) where
  -- with one step before them the others stand one further on
  further : (k : ℕ) → SaysAt w steps k → SaysAt w (one ∷ steps) (suc k)
  further k says = record { inside = omega (arith, says.inside); names = says.names; held = says.held }

  back : (k : ℕ) → SaysAt w (one ∷ steps) (suc k) → SaysAt w steps k
  back k says = record { inside = omega (arith, says.inside); names = says.names; held = says.held }

  none_further : (n : ℕ) → ((j : ℕ) → n < j → SaysAt w steps j → ⊥) → (j : ℕ) → suc n < j → SaysAt w (one ∷ steps) j → ⊥
  none_further n none zero l says = absurd (omega arith)
  none_further n none (suc j) l says = none j (omega arith) (back j says)

  -- where none of the others says anything, the first does or none
  module _ (none : (k : ℕ) → SaysAt w steps k → ⊥) where
    not_here : (SaysAt w (one ∷ steps) 0 → ⊥) → (k : ℕ) → SaysAt w (one ∷ steps) k → ⊥
    not_here apart zero says = apart says
    not_here apart (suc k) says = none k (back k says)

    not_later : (j : ℕ) → 0 < j → SaysAt w (one ∷ steps) j → ⊥
    not_later zero l says = absurd (omega arith)
    not_later (suc j) l says = none j (back j says)

    first : (t : Bool) → eqb one.worker w ≡ t → LatestIn w (one ∷ steps) (cond t one.outcome advanced)
    first false e = never_in (not_here (λ says. eqb-false _ _ e says.names))
    first true e =
        ⊎_elim
        (λ still. subst (LatestIn w (one ∷ steps)) (sym still) (never_in (not_here (λ says. says.held still))))
        (λ held. last_in 0 (record { inside = omega arith; names = eqb-true _ _ e; held = λ still. subst Held still held }) not_later)
        (advances_or_held one.outcome)

  more : {why : Outcome} → LatestIn w steps why → LatestIn w (one ∷ steps) (latter (says_of w one) why)
  unfolding latter
  more (never_in none) = first none (eqb one.worker w) refl
  more (last_in k says after) =
      subst (LatestIn w (one ∷ steps)) (sym (latter_held (says_of w one) (get_or steps k nothing).outcome says.held))
      (last_in (suc k) (further k says) (none_further k after))

latest_in : (w : ℕ) (steps : List Named) → LatestIn w steps (latest_of w steps)
unfolding latest_of
latest_in w [] = never_in (λ k says. omega (arith, says.inside))
latest_in w (one ∷ steps) = more w one steps (latest_in w steps)

-- ---- the theorems, of every setting, start and schedule

module _ (s : Setting) (cells schedule : List ℕ) where
  abbrev steps : List Named
  steps = named_by s cells schedule

  as_many : length steps ≡ length schedule
  as_many = named_length s (fresh_run s cells).machine schedule

  named_are : (k : ℕ) → k < length schedule → get_or steps k nothing ≡ named (get_or schedule k 0) (outcome_at s cells schedule k)
  named_are = named_at s (fresh_run s cells) schedule

  worker_is : (k : ℕ) → k < length schedule → (get_or steps k nothing).worker ≡ get_or schedule k 0
  worker_is k h = ap (λ (one : Named). one.worker) (named_are k h)

  outcome_is : (k : ℕ) → k < length schedule → (get_or steps k nothing).outcome ≡ outcome_at s cells schedule k
  outcome_is k h = ap (λ (one : Named). one.outcome) (named_are k h)

  module _ (w : ℕ) where
    heard : (k : ℕ) → SaysAt w steps k → HeldAt s cells schedule w k
    heard k says =
        let h : k < length schedule = omega (arith, says.inside, as_many) in
        record { inside = h; names = sym (worker_is k h) ∙ says.names; held = λ e. says.held (outcome_is k h ∙ e) }

    said : (k : ℕ) → HeldAt s cells schedule w k → SaysAt w steps k
    said k at =
        record {
          inside = omega (arith, at.inside, as_many);
          names = worker_is k at.inside ∙ at.names;
          held = λ e. at.held (sym (outcome_is k at.inside) ∙ e);
        }

    by_bytes : {why : Outcome} → LatestIn w steps why → Latest s cells schedule w why
    by_bytes (never_in none) = never (λ k at. none k (said k at))
    by_bytes (last_in k says after) =
        let at : HeldAt s cells schedule w k = heard k says in
        subst (Latest s cells schedule w) (sym (outcome_is k at.inside)) (last k at (λ j l held. after j l (said j held)))

    latest : Latest s cells schedule w (latest_of w steps)
    latest = by_bytes (latest_in w steps)

    unnamed : ((k : ℕ) → k < length schedule → get_or schedule k 0 ≡ w → ⊥) → latest_of w steps ≡ advanced
    unnamed apart = go latest
      where
        go : {why : Outcome} → Latest s cells schedule w why → why ≡ advanced
        go (never none) = refl
        go (last k at after) = absurd (apart k at.inside at.names)

  pub why_held : WhyHeld s cells schedule
  why_held =
      record {
        as_many = as_many;
        named_are = named_are;
        adds_up = omega (arith, held_from s (fresh_run s cells) schedule);
        latest = latest;
        unnamed = unnamed;
      }
