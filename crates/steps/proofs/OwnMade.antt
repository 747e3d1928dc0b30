-- How many of its own steps each task has had made, read off where its owner stands: all where the owner is past it, those made where the owner is
-- at it, none before. A step that its owner makes adds one at that task; every other step leaves all of them as they are.
use mathlib.Core.Path.{◌≡◌, refl, sym, ap, ◌∙◌}
use mathlib.Core.Bool.{Bool, true, false, cond}
use mathlib.Core.List.{List}
use Prim.Native.Nat.{ℕ, ◌+◌, ◌<◌}
use native.Mathlib.Omega.{arith}
use borrow.Author.Tests.{eqb-true, eqb-false, eq-eqb, ne_eqb, lt-ltb, le-ltb, ltb-true, ltb-false}
use lib.ListN.{length}
use lib.Dec.{eqb, ltb}
use Rattle.layout.specs.Flow.{Task}
use Rattle.steps.specs.Machine.{Place, Machine, place, put}
use Rattle.steps.specs.Step.{Setting, Try, own_steps, moved}
use Rattle.steps.specs.Conflict.{task_at}
use Rattle.steps.proofs.Places.{facing, Trying, after_own, change_places}
use Rattle.steps.proofs.Put.{put_here, put_other}

-- those of the task at an index, of so many, where its owner stands at a place
abbrev pub made_of : ℕ → ℕ → Place → ℕ
made_of steps index owner = cond (ltb index owner.passed) steps (cond (eqb index owner.passed) owner.made 0)

pub made_past : (steps index : ℕ) (owner : Place) → index < owner.passed → made_of steps index owner ≡ steps
made_past steps index owner h = rw (lt-ltb _ _ h)

pub made_here : (steps index : ℕ) (owner : Place) → index ≡ owner.passed → made_of steps index owner ≡ owner.made
made_here steps index owner e = rw (le-ltb index owner.passed (omega arith), eq-eqb _ _ e)

pub made_yet : (steps index : ℕ) (owner : Place) → owner.passed < index → made_of steps index owner ≡ 0
made_yet steps index owner h = rw (le-ltb index owner.passed (omega arith), ne_eqb index owner.passed (λ e. omega arith))

-- an index is before, at or after another
pub order : {A : Type 0} (i j : ℕ) → (i < j → A) → (i ≡ j → A) → (j < i → A) → A
order {A} i j before at after = go (ltb i j) refl (eqb i j) refl
  where
    go : (t : Bool) → ltb i j ≡ t → (e : Bool) → eqb i j ≡ e → A
    go true p e q = before (ltb-true i j p)
    go false p true q = at (eqb-true i j q)
    go false p false q = after (omega (arith, ltb-false i j p, eqb-false i j q))

-- nothing is made at the start
pub made_none : (steps index : ℕ) → made_of steps index (place 0 0) ≡ 0
made_none steps index =
    order index 0 (λ l. absurd (omega arith)) (made_here steps index (place 0 0)) (made_yet steps index (place 0 0))

-- ---- after a step of the owner

-- its owner goes on by one: the steps of another task stay the same
made_on_lem : (steps index passed made : ℕ) → (index ≡ passed → ⊥) → (t : Bool)
    → made_of steps index (cond t (place passed (made + 1)) (place (passed + 1) 0)) ≡ made_of steps index (place passed made)
made_on_lem steps index passed made apart true =
    order index passed (λ l. made_past steps index _ l ∙ sym (made_past steps index _ l)) (λ q. absurd (apart q))
    (λ l. made_yet steps index _ l ∙ sym (made_yet steps index _ l))
made_on_lem steps index passed made apart false =
    order index passed (λ l. made_past steps index (place (passed + 1) 0) (omega arith) ∙ sym (made_past steps index _ l)) (λ q. absurd (apart q))
    (λ l. after_it l ∙ sym (made_yet steps index (place passed made) l))
  where
    after_it : passed < index → made_of steps index (place (passed + 1) 0) ≡ 0
    after_it l =
        order index (passed + 1) (λ k. absurd (omega arith)) (made_here steps index (place (passed + 1) 0)) (made_yet steps index (place (passed + 1) 0))

-- and there is one more at the task
made_at_lem : (steps passed made : ℕ) → made < steps → (t : Bool) → ltb (made + 1) steps ≡ t
    → made_of steps passed (cond t (place passed (made + 1)) (place (passed + 1) 0)) ≡ made + 1
made_at_lem steps passed made h true e = made_here steps passed (place passed (made + 1)) refl
made_at_lem steps passed made h false e =
    made_past steps passed (place (passed + 1) 0) (omega arith) ∙ omega (arith, ltb-false (made + 1) steps e)

-- ---- the whole list

abbrev pub own_made : List Task → (ℕ → Place) → ℕ → ℕ
own_made tasks places j = made_of (length (own_steps (task_at tasks j))) j (places (task_at tasks j).owner)

-- the worker's own task, one step on
own_made_on : (tasks : List Task) (places : ℕ → Place) (w : ℕ) → (task_at tasks (places w).passed).owner ≡ w
    → (places w).made < length (own_steps (task_at tasks (places w).passed))
    → (j : ℕ)
    → own_made tasks (put places w (moved (task_at tasks (places w).passed) (places w))) j
    ≡ put (own_made tasks places) (places w).passed ((places w).made + 1) j
own_made_on tasks places w owns unmade j = at (eqb (task_at tasks j).owner w) refl
  where
    p : ℕ
    p = (places w).passed

    k : ℕ
    k = (places w).made

    steps : ℕ → ℕ
    steps i = length (own_steps (task_at tasks i))

    to : Place
    to = moved (task_at tasks p) (places w)

    mine : (t : Bool) → eqb j p ≡ t → (task_at tasks j).owner ≡ w → made_of (steps j) j to ≡ cond t (k + 1) (made_of (steps j) j (places w))
    mine true e o =
        rw (eqb-true j p e) (made_at_lem (steps p) p k unmade (ltb (k + 1) (steps p)) refl)
    mine false e o = made_on_lem (steps j) j p k (eqb-false j p e) (ltb (k + 1) (steps p))

    at : (t : Bool) → eqb (task_at tasks j).owner w ≡ t
        → made_of (steps j) j (put places w to (task_at tasks j).owner) ≡ put (own_made tasks places) p (k + 1) j
    at true e =
        let o : (task_at tasks j).owner ≡ w = eqb-true _ _ e in
        ap (made_of (steps j) j) (ap (put places w to) o ∙ put_here places w to)
        ∙ mine (eqb j p) refl o
        ∙ ap (λ (at : Place). cond (eqb j p) (k + 1) (made_of (steps j) j at)) (ap places (sym o))
    at false e =
        let other : (task_at tasks j).owner ≡ w → ⊥ = eqb-false _ _ e in
        ap (made_of (steps j) j) (put_other places w to (task_at tasks j).owner other)
        ∙ sym (put_other (own_made tasks places) p (k + 1) j (λ q. other (ap (λ (i : ℕ). (task_at tasks i).owner) q ∙ owns)))

-- another's task, gone past: nothing is made
pub own_made_past : (tasks : List Task) (places : ℕ → Place) (w : ℕ) → ((task_at tasks (places w).passed).owner ≡ w → ⊥)
    → (places w).made ≡ 0
    → (j : ℕ)
    → own_made tasks (put places w (place ((places w).passed + 1) 0)) j ≡ own_made tasks places j
own_made_past tasks places w others none j = at (eqb (task_at tasks j).owner w) refl
  where
    to : Place
    to = place ((places w).passed + 1) 0

    steps : ℕ
    steps = length (own_steps (task_at tasks j))

    at : (t : Bool) → eqb (task_at tasks j).owner w ≡ t → made_of steps j (put places w to (task_at tasks j).owner) ≡ own_made tasks places j
    at true e =
        let o : (task_at tasks j).owner ≡ w = eqb-true _ _ e in
        ap (made_of steps j) (ap (put places w to) o ∙ put_here places w to)
        ∙ made_on_lem steps j (places w).passed (places w).made (λ q. others (ap (λ (i : ℕ). (task_at tasks i).owner) (sym q) ∙ o)) false
        ∙ ap (λ (v : ℕ). made_of steps j (places v)) (sym o)
    at false e = ap (made_of steps j) (put_other places w to (task_at tasks j).owner (eqb-false _ _ e))

-- ---- after a step of the machine

module _ (s : Setting) (m : Machine) (w : ℕ) (try : Try) (trying : Trying s m w try) where
  -- the own steps made at the task where a worker stands
  pub own_there : own_made s.tasks m.places (m.places w).passed ≡ (m.places w).made
  own_there =
      ap (λ (v : ℕ). made_of (length (own_steps (facing s m w))) (m.places w).passed (m.places v)) trying.owns
      ∙ made_here (length (own_steps (facing s m w))) (m.places w).passed (m.places w) refl

  -- and after it has made one more
  pub own_then : (j : ℕ)
      → own_made s.tasks (after_own s m w try).places j
      ≡ put (own_made s.tasks m.places) (m.places w).passed ((m.places w).made + 1) j
  own_then j =
      ap (λ (places : ℕ → Place). own_made s.tasks (put places w (moved (facing s m w) (m.places w))) j)
      (change_places s m w (s.number ((m.places w).passed + 1)) try)
      ∙ own_made_on s.tasks m.places w trying.owns trying.unmade j
