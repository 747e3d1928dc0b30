-- A step that advances moves its worker on by one of the steps that it has to make at the task where it stands; a step that is held
-- moves nobody. So a worker never makes more steps at a task than there are, nor goes past the last.
use mathlib.Core.Path.{◌≡◌, refl}
use mathlib.Core.Bool.{Bool, true, false, cond}
use mathlib.Core.List.{List, ◌∷◌}
use Prim.Native.Nat.{ℕ, ◌+◌, ◌≤◌, ◌<◌}
use native.Mathlib.Omega.{arith}
use native.Mathlib.Numerals.{add-one}
use lib.ListN.{length, get_or, drop, drop_of_length-le}
use lib.Seq.{drop-cons}
use lib.Dec.{eqb, ltb}
use borrow.Author.Tests.{eqb-true, eqb-false, eq-eqb, ne_eqb, ltb-true, ltb-false}
use Rattle.layout.specs.Flow.{Task}
use Rattle.steps.specs.Machine.{Machine, Place, place, put, with_place, fresh}
use Rattle.steps.specs.Step.{Setting, Try, wait_write, wait_reads, operate, end_read, zero_reads, post_write, own_steps}
use Rattle.steps.specs.Step.{Outcome, advanced, past_last, write_differs, reads_differ, outcome, change, moved}
use Rattle.steps.specs.Step.{Stepped, stepped, attempted, own_step, other_step, step_from, step}
use Rattle.steps.proofs.Put.{put_each}
use Rattle.steps.proofs.OwnSteps.{some_own_step}
use Rattle.steps.specs.Conflict.{no_task, task_at}

-- ---- where a worker stands

-- the steps that a worker makes at a task: the task's own where it owns the task, and one where another does
abbrev pub steps_of : ℕ → Task → ℕ
steps_of w task = cond (eqb task.owner w) (length (own_steps task)) 1

-- a worker is at a task with some of its steps there still to make, or past the last task
pub record PlaceFits (tasks : List Task) (w : ℕ) (at : Place) : Type 0 where
  pub in_list : at.passed ≤ length tasks
  pub unmade : at.passed < length tasks → at.made < steps_of w (task_at tasks at.passed)
  pub at_end : at.passed ≡ length tasks → at.made ≡ 0

pub record PlacesFit (tasks : List Task) (places : ℕ → Place) : Type 0 where
  pub each_worker : (w : ℕ) → PlaceFits tasks w (places w)

module _ {tasks : List Task} {w : ℕ} {at : Place} (stands : PlaceFits tasks w at) (h : at.passed < length tasks) where
  pub own_unmade : (task_at tasks at.passed).owner ≡ w → at.made < length (own_steps (task_at tasks at.passed))
  own_unmade owns = rw (eq-eqb _ _ owns) at (stands.unmade h)

  pub none_made : ((task_at tasks at.passed).owner ≡ w → ⊥) → at.made ≡ 0
  none_made not_own =
      let first : at.made < 1 = rw (ne_eqb _ _ not_own) at (stands.unmade h) in
      omega arith

-- ---- what a step does

-- the task at which a worker stands
abbrev pub facing : Setting → Machine → ℕ → Task
facing s m w = task_at s.tasks (m.places w).passed

-- the worker stands at a task of its own, and this is its next step
pub record Trying (s : Setting) (m : Machine) (w : ℕ) (try : Try) : Type 0 where
  pub at_task : (m.places w).passed < length s.tasks
  pub owns : (facing s m w).owner ≡ w
  pub unmade : (m.places w).made < length (own_steps (facing s m w))
  pub here : drop (m.places w).made (own_steps (facing s m w)) ≡ try ∷ drop ((m.places w).made + 1) (own_steps (facing s m w))

-- what a wait that passes has found
abbrev pub Passes : Machine → ℕ → Try → Type 0
Passes m w (wait_write c) = (m.private w c).last_write ≡ (m.shared c).last_write
Passes m w (wait_reads c) = (m.private w c).reads ≡ (m.shared c).reads
Passes m w (operate o) = Unit {0}
Passes m w (end_read c) = Unit {0}
Passes m w (zero_reads c) = Unit {0}
Passes m w (post_write c) = Unit {0}

-- what a wait that is held has found
pub data Waits (m : Machine) (w : ℕ) : Try → Outcome → Type 0 where
  on_write : {c : ℕ} → ((m.private w c).last_write ≡ (m.shared c).last_write → ⊥) → Waits m w (wait_write c) (write_differs c)
  on_reads : {c : ℕ} → ((m.private w c).reads ≡ (m.shared c).reads → ⊥) → Waits m w (wait_reads c) (reads_differ c)

data Tried (m : Machine) (w : ℕ) : Try → Outcome → Type 0 where
  passes : {try : Try} → Passes m w try → Tried m w try advanced
  waits : {try : Try} {why : Outcome} → Waits m w try why → Tried m w try why

found : (m : Machine) (w : ℕ) {try : Try} {why : Outcome} (private shared : ℕ)
    → (private ≡ shared → Passes m w try) → ((private ≡ shared → ⊥) → Waits m w try why)
    → Tried m w try (cond (eqb private shared) advanced why)
found m w {try} {why} private shared pass wait = go (eqb private shared) refl
  where
    go : (t : Bool) → eqb private shared ≡ t → Tried m w try (cond t advanced why)
    go true e = passes (pass (eqb-true private shared e))
    go false e = waits (wait (eqb-false private shared e))

tried : (m : Machine) (w : ℕ) (try : Try) → Tried m w try (outcome m w try)
unfolding outcome
tried m w (wait_write c) = found m w _ _ (λ e. e) on_write
tried m w (wait_reads c) = found m w _ _ (λ e. e) on_reads
tried m w (operate o) = passes tt
tried m w (end_read c) = passes tt
tried m w (zero_reads c) = passes tt
tried m w (post_write c) = passes tt

-- the machine after an own step that is made
abbrev pub after_own : Setting → Machine → ℕ → Try → Machine
after_own s m w try =
    with_place (change s.does (s.number ((m.places w).passed + 1)) m w try) w (moved (facing s m w) (m.places w))

-- a named worker is past the last task; or it goes past another's task; or it is held at a step of its own; or it makes that step
pub data StepView (s : Setting) (m : Machine) (w : ℕ) : Stepped → Type 0 where
  past : (m.places w).passed ≡ length s.tasks → StepView s m w (stepped past_last m)
  other : (m.places w).passed < length s.tasks → ((facing s m w).owner ≡ w → ⊥) → (m.places w).made ≡ 0
      → StepView s m w (other_step s m w (facing s m w))
  held : {try : Try} {why : Outcome} → Trying s m w try → outcome m w try ≡ why → Waits m w try why → StepView s m w (stepped why m)
  made : {try : Try} → Trying s m w try → outcome m w try ≡ advanced → Passes m w try
      → StepView s m w (stepped advanced (after_own s m w try))

-- a step of its own
own : (s : Setting) (m : Machine) (w : ℕ) {try : Try} {why : Outcome} → Tried m w try why → Trying s m w try → outcome m w try ≡ why
    → StepView s m w (attempted why m (after_own s m w try))
unfolding attempted
own s m w (passes p) trying e = made trying e p
own s m w (waits (on_write p)) trying e = held trying e (on_write p)
own s m w (waits (on_reads p)) trying e = held trying e (on_reads p)

pub view : (s : Setting) (m : Machine) (w : ℕ) → PlaceFits s.tasks w (m.places w) → StepView s m w (step s m w)
unfolding step step_from own_step
view s m w stands = go (ltb (m.places w).passed (length s.tasks)) refl
  where
    steps : List Try
    steps = own_steps (facing s m w)

    try : Try
    try = get_or steps (m.places w).made (wait_write 0)

    at : (t : Bool) → eqb (facing s m w).owner w ≡ t → (m.places w).passed < length s.tasks
        → StepView s m w (cond t (own_step s m w (facing s m w) (drop (m.places w).made steps)) (other_step s m w (facing s m w)))
    at true e h =
        let owns : (facing s m w).owner ≡ w = eqb-true _ _ e in
        let unmade : (m.places w).made < length steps = own_unmade stands h owns in
        let here : drop (m.places w).made steps ≡ try ∷ drop ((m.places w).made + 1) steps
        = rw (add-one, drop-cons steps (m.places w).made (wait_write 0)) in
        rw here (own s m w (tried m w try) (record { at_task = h; owns = owns; unmade = unmade; here = here }) refl)
    at false e h = other h (eqb-false _ _ e) (none_made stands h (eqb-false _ _ e))

    go : (t : Bool) → ltb (m.places w).passed (length s.tasks) ≡ t
        → StepView s m w (step_from s m w (drop (m.places w).passed s.tasks))
    go true e =
        let h : (m.places w).passed < length s.tasks = ltb-true _ _ e in
        rw (drop-cons s.tasks (m.places w).passed no_task) (at (eqb (facing s m w).owner w) refl h)
    go false e = rw (drop_of_length-le s.tasks (ltb-false _ _ e)) (past (omega (arith, stands.in_list, ltb-false)))

-- ---- the places after a step

-- an outcome other than to advance
abbrev pub Held : Outcome → Type 0
Held advanced = ⊥
Held past_last = Unit {0}
Held (write_differs c) = Unit {0}
Held (reads_differ c) = Unit {0}

-- where an advancing step takes a worker: it has made one more of its steps at the task, or the last of them
pub data NextPlace (tasks : List Task) (w : ℕ) (at : Place) : Place → Type 0 where
  within : at.passed < length tasks → at.made + 1 < steps_of w (task_at tasks at.passed)
      → NextPlace tasks w at (place at.passed (at.made + 1))
  beyond : at.passed < length tasks → at.made + 1 ≡ steps_of w (task_at tasks at.passed) → NextPlace tasks w at (place (at.passed + 1) 0)

-- nobody moves where the step is held, and its worker alone where it advances
pub data Moves (s : Setting) (m : Machine) (w : ℕ) : Outcome → (ℕ → Place) → Type 0 where
  stays : {why : Outcome} → Held why → Moves s m w why m.places
  goes : {next : Place} → NextPlace s.tasks w (m.places w) next → Moves s m w advanced (put m.places w next)

module _ (s : Setting) (m : Machine) (w : ℕ) where
  -- what an own step changes but for the place leaves the places
  pub change_places : (number : ℕ) (try : Try) → (change s.does number m w try).places ≡ m.places
  unfolding change
  change_places number (wait_write c) = refl
  change_places number (wait_reads c) = refl
  change_places number (operate o) = refl
  change_places number (end_read c) = refl
  change_places number (zero_reads c) = refl
  change_places number (post_write c) = refl

  pub next_own : {try : Try} → Trying s m w try → NextPlace s.tasks w (m.places w) (moved (facing s m w) (m.places w))
  next_own trying = go (ltb ((m.places w).made + 1) (length (own_steps (facing s m w)))) refl
    where
      go : (t : Bool) → ltb ((m.places w).made + 1) (length (own_steps (facing s m w))) ≡ t
          → NextPlace s.tasks w (m.places w)
          (cond t (place (m.places w).passed ((m.places w).made + 1)) (place ((m.places w).passed + 1) 0))
      go true e = within trying.at_task (rw (eq-eqb _ _ trying.owns) (ltb-true _ _ e))
      go false e = beyond trying.at_task (rw (eq-eqb _ _ trying.owns) (omega (arith, trying.unmade, ltb-false)))

  pub moves : PlaceFits s.tasks w (m.places w) → Moves s m w (step s m w).outcome (step s m w).machine.places
  moves stands = go (view s m w stands)
    where
      go : {r : Stepped} → StepView s m w r → Moves s m w r.outcome r.machine.places
      go (past e) = stays tt
      go (other h not_own none) = goes (beyond h (rw (ne_eqb _ _ not_own) (omega arith)))
      go (held trying e (on_write p)) = stays tt
      go (held trying e (on_reads p)) = stays tt
      go (made {try} trying e p) = rw (change_places (s.number ((m.places w).passed + 1)) try) (goes (next_own trying))

-- ---- every worker stands so, from the start and after each step

module _ (s : Setting) (some_access : (i : ℕ) → i < length s.tasks → 1 ≤ length (task_at s.tasks i).accesses) where
  -- a worker has a step at least to make at each task, so where it comes to a task, it stands at its first step
  pub arrives : (w passed : ℕ) → passed ≤ length s.tasks → PlaceFits s.tasks w (place passed 0)
  arrives w passed h = record { in_list = h; unmade = go (eqb (task_at s.tasks passed).owner w); at_end = λ e. refl }
    where
      go : (t : Bool) → passed < length s.tasks → 0 < cond t (length (own_steps (task_at s.tasks passed))) 1
      go true l = some_own_step (task_at s.tasks passed) (some_access passed l)
      go false l = omega arith

  pub next_stands : {w : ℕ} {at next : Place} → NextPlace s.tasks w at next → PlaceFits s.tasks w next
  next_stands (within h more) = record { in_list = omega arith; unmade = λ l. more; at_end = λ e. omega arith }
  next_stands {w} {at} (beyond h last) = arrives w (at.passed + 1) (omega arith)

  pub standing_fresh : (cells : List ℕ) → PlacesFit s.tasks (fresh (s.number 0) cells).places
  standing_fresh cells = record { each_worker = λ w. arrives w 0 (omega arith) }

  pub standing_kept : (m : Machine) (w : ℕ) → PlacesFit s.tasks m.places → PlacesFit s.tasks (step s m w).machine.places
  standing_kept m w standing = go (moves s m w (standing.each_worker w))
    where
      go : {why : Outcome} {places : ℕ → Place} → Moves s m w why places → PlacesFit s.tasks places
      go (stays still) = standing
      go (goes {next} on) =
          record { each_worker = put_each m.places w next (PlaceFits s.tasks) (next_stands on) standing.each_worker }
