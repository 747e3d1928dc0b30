-- The last of a task's own steps is the last end of its last access, and with it the owner goes past the task. So a task is done exactly where a byte of the
-- schedule has made that end; it has then ended on every cell, and holds nobody up.
use mathlib.Core.Path.{◌≡◌, refl, sym, ap, subst, ◌∙◌}
use mathlib.Core.Bool.{Bool, true, false, cond}
use mathlib.Core.Logic.{◌↔◌, ◌⊎◌, inl, inr, ⊎_elim}
use mathlib.Core.List.{List, [], ◌∷◌, ◌++◌, map, append_assoc}
use Prim.Native.Nat.{ℕ, zero, suc, ◌+◌, ◌-◌, ◌≤◌, ◌<◌}
use native.Mathlib.Omega.{arith}
use borrow.Author.Tests.{eqb-true, eqb-false, eq-eqb, leb-true, lt-ltb, ltb-true}
use lib.ListN.{length, get_or, take, drop, length-append, length-drop}
use lib.Seq.{drop_at}
use lib.Dec.{eqb, leb}
use Rattle.layout.specs.Flow.{Access, Task}
use Rattle.layout.specs.File.{flow_of}
use Rattle.layout.proofs.Lists.{all_keeps}
use Rattle.steps.specs.Machine.{Machine, Place, put}
use Rattle.steps.specs.Step.{Setting, Try, operate, end_read, zero_reads, post_write, writes, waits, ends, of_each, own_steps}
use Rattle.steps.specs.Step.{Outcome, advanced, Stepped, step}
use Rattle.steps.specs.Run.{Run, run_from, run, setting_of, is_done, done_from, finished, done_tasks}
use Rattle.steps.specs.Conflict.{task_at}
use Rattle.steps.specs.Demand.{Given}
use Rattle.steps.specs.Done.{no_access, last_access, last_end, MakesLastEnd, done, DoneOnce, HoldsNobody, Done}
use Rattle.steps.proofs.Accepted.{asked}
use Rattle.steps.proofs.Advance.{past_ended, Clear, not_held}
use Rattle.steps.proofs.Along.{fresh_run, after_step, counted_machine}
use Rattle.steps.proofs.Complete.{conflict_of}
use Rattle.steps.proofs.Demand3.{Asked, holds}
use Rattle.steps.proofs.Invariant.{Kept}
use Rattle.steps.proofs.OwnMade.{order}
use Rattle.steps.proofs.Places.{steps_of, PlacesFit, StepView, past, other, held, view, Held, NextPlace, within, beyond, Moves, stays, goes, moves}
use Rattle.steps.proofs.Places.{standing_fresh, standing_kept}
use Rattle.steps.proofs.Put.{put_here, put_other}

-- ---- the last of a task's own steps

-- the ends of accesses close with the last end of the last
ends_last : (accesses : List Access) → 1 ≤ length accesses
    → (front : List Try) × (of_each ends accesses ≡ front ++ last_end (get_or accesses (length accesses - 1) no_access) ∷ [])
unfolding of_each
ends_last [] some = absurd (omega arith)
ends_last (access ∷ []) some = go (writes access)
  where
    go : (t : Bool)
        → (front : List Try)
        × (cond t (zero_reads access.cell ∷ post_write access.cell ∷ []) (end_read access.cell ∷ []) ++ []
        ≡ front ++ cond t (post_write access.cell) (end_read access.cell) ∷ [])
    go true = (zero_reads access.cell ∷ [], refl)
    go false = ([], refl)
ends_last (access ∷ next ∷ accesses) some =
    let rest = ends_last (next ∷ accesses) (omega arith) in
    let index : length (access ∷ next ∷ accesses) - 1 ≡ suc (length (next ∷ accesses) - 1) = omega arith in (
      ends access ++ rest.0,
      ap (λ (l : List Try). ends access ++ l) rest.1
          ∙ ap (λ (i : ℕ). ends access ++ (rest.0 ++ last_end (get_or (access ∷ next ∷ accesses) i no_access) ∷ [])) (sym index)
          ∙ sym (append_assoc (ends access) rest.0 _),
    )

module _ (task : Task) where
  own_last : 1 ≤ length task.accesses → (front : List Try) × (own_steps task ≡ front ++ last_end (last_access task) ∷ [])
  unfolding own_steps
  own_last some =
      let rest = ends_last task.accesses some in
      let before = of_each waits task.accesses in
      let between = map operate task.operations in (
        before ++ (between ++ rest.0),
        ap (λ (l : List Try). before ++ (between ++ l)) rest.1 ∙ ap (λ (l : List Try). before ++ l) (sym (append_assoc between rest.0 _))
            ∙ sym (append_assoc before (between ++ rest.0) _),
      )

  -- with one step left, it is that end
  left_last : 1 ≤ length task.accesses → (made : ℕ) → made + 1 ≡ length (own_steps task)
      → drop made (own_steps task) ≡ last_end (last_access task) ∷ []
  left_last some made e =
      let split = own_last some in
      let last : List Try = last_end (last_access task) ∷ [] in
      ap (drop made) split.1 ∙ drop_at split.0 last made (omega (arith, ap length split.1, length-append split.0 last))

  one_left : (made : ℕ) (last : Try) → drop made (own_steps task) ≡ last ∷ [] → made + 1 ≡ length (own_steps task)
  one_left made last left = omega (arith, length-drop made (own_steps task), ap length left)

-- ---- one step

module _ (s : Setting) (some_access : (i : ℕ) → i < length s.tasks → 1 ≤ length (task_at s.tasks i).accesses) (index : ℕ)
    (inside : index < length s.tasks) where
  abbrev task : Task
  task = task_at s.tasks index

  module _ (m : Machine) (w : ℕ) where
    -- the owner goes past a task with its last step there
    gone_past : {next : Place} → task.owner ≡ w → (step s m w).outcome ≡ advanced → NextPlace s.tasks w (m.places w) next
        → is_done index next ≡ true
        → (is_done index (m.places w) ≡ true) ⊎ MakesLastEnd s m w index
    gone_past owns advances (within h more) d = inl d
    gone_past owns advances (beyond h last) d =
        order index (m.places w).passed (λ l. inl (lt-ltb _ _ l))
        (λ e.
        let here : (m.places w).made + 1 ≡ steps_of w task = subst (λ (i : ℕ). (m.places w).made + 1 ≡ steps_of w (task_at s.tasks i)) (sym e) last in
        inr (record {
          owns = owns;
          at_task = sym e;
          left = left_last task (some_access index inside) (m.places w).made (rw (eq-eqb _ _ owns) at here);
          advances = advances;
        }))
        (λ l. absurd (omega (arith, ltb-true index ((m.places w).passed + 1) d)))

    still_past : {next : Place} → NextPlace s.tasks w (m.places w) next → is_done index (m.places w) ≡ true → is_done index next ≡ true
    still_past (within h more) d = d
    still_past (beyond h last) d = lt-ltb index ((m.places w).passed + 1) (omega (arith, ltb-true index (m.places w).passed d))

    goes_past : {next : Place} → NextPlace s.tasks w (m.places w) next → MakesLastEnd s m w index → is_done index next ≡ true
    goes_past (within h more) makes =
        let here : (m.places w).made + 1 < steps_of w task =
        subst (λ (i : ℕ). (m.places w).made + 1 < steps_of w (task_at s.tasks i)) makes.at_task more in
        absurd (omega (arith, rw (eq-eqb _ _ makes.owns) at here, one_left task (m.places w).made _ makes.left))
    goes_past (beyond h last) makes = lt-ltb index ((m.places w).passed + 1) (omega (arith, makes.at_task))

    -- it is the owner's place that counts
    module _ (next : Place) where
      of_owner : task.owner ≡ w → is_done index (put m.places w next task.owner) ≡ is_done index next
      of_owner owns = ap (is_done index) (ap (put m.places w next) owns ∙ put_here m.places w next)

      of_other : (task.owner ≡ w → ⊥) → is_done index (put m.places w next task.owner) ≡ done s m index
      of_other apart = ap (is_done index) (put_other m.places w next task.owner apart)

    before_it : task.owner ≡ w → done s m index ≡ is_done index (m.places w)
    before_it owns = ap (λ (v : ℕ). is_done index (m.places v)) owns

    -- done after the step: before it already, or the step makes the last end
    after_step_lem : {why : Outcome} {places : ℕ → Place} → Moves s m w why places → (step s m w).outcome ≡ why
        → is_done index (places task.owner) ≡ true
        → (done s m index ≡ true) ⊎ MakesLastEnd s m w index
    after_step_lem (stays still) e d = inl d
    after_step_lem (goes {next} on) e d = go (eqb task.owner w) refl
      where
        go : (t : Bool) → eqb task.owner w ≡ t → (done s m index ≡ true) ⊎ MakesLastEnd s m w index
        go true q =
            let owns : task.owner ≡ w = eqb-true _ _ q in
            ⊎_elim (λ p. inl (before_it owns ∙ p)) inr (gone_past owns e on (sym (of_owner next owns) ∙ d))
        go false q = inl (sym (of_other next (eqb-false _ _ q)) ∙ d)

    -- and back
    by_step : {why : Outcome} {places : ℕ → Place} → Moves s m w why places → (step s m w).outcome ≡ why
        → (done s m index ≡ true) ⊎ MakesLastEnd s m w index
        → is_done index (places task.owner) ≡ true
    by_step (stays still) e (inl d) = d
    by_step (stays still) e (inr makes) = absurd (subst Held (sym e ∙ makes.advances) still)
    by_step (goes {next} on) e (inr makes) = of_owner next makes.owns ∙ goes_past on makes
    by_step (goes {next} on) e (inl d) = go (eqb task.owner w) refl
      where
        go : (t : Bool) → eqb task.owner w ≡ t → is_done index (put m.places w next task.owner) ≡ true
        go true q =
            let owns : task.owner ≡ w = eqb-true _ _ q in
            of_owner next owns ∙ still_past on (sym (before_it owns) ∙ d)
        go false q = of_other next (eqb-false _ _ q) ∙ d

  -- ---- a schedule

  -- a byte of it makes the last end
  abbrev Made : Run → List ℕ → Type 0
  Made before schedule = (k : ℕ) × (k < length schedule) × MakesLastEnd s (run_from s before (take k schedule)).machine (get_or schedule k 0) index

  -- done before the schedule, or by one of its bytes
  abbrev DoneBy : Run → List ℕ → Type 0
  DoneBy before schedule =
      (done s (run_from s before schedule).machine index ≡ true) ↔ ((done s before.machine index ≡ true) ⊎ Made before schedule)

  -- by the first byte, or by one of the others
  done_more : (before : Run) (w : ℕ) (schedule : List ℕ) → PlacesFit s.tasks before.machine.places → DoneBy (after_step s before w) schedule
      → DoneBy before (w ∷ schedule)
  unfolding run_from
  done_more before w schedule fits rest = (to, from)
    where
      move : Moves s before.machine w (step s before.machine w).outcome (step s before.machine w).machine.places
      move = moves s before.machine w (fits.each_worker w)

      first : (done s before.machine index ≡ true) ⊎ MakesLastEnd s before.machine w index
          → (done s before.machine index ≡ true) ⊎ Made before (w ∷ schedule)
      first (inl d) = inl d
      first (inr makes) = inr (0, omega arith, makes)

      to : done s (run_from s before (w ∷ schedule)).machine index ≡ true
          → (done s before.machine index ≡ true) ⊎ Made before (w ∷ schedule)
      to d =
          ⊎_elim (λ e. first (after_step_lem before.machine w move refl (rw counted_machine at e)))
          (λ later. inr (suc later.0, omega (arith, later.1), later.2))
          (rest.0 d)

      from : (done s before.machine index ≡ true) ⊎ Made before (w ∷ schedule)
          → done s (run_from s before (w ∷ schedule)).machine index ≡ true
      from (inl d) = rest.1 (inl (rw counted_machine (by_step before.machine w move refl (inl d))))
      from (inr (zero, l, makes)) = rest.1 (inl (rw counted_machine (by_step before.machine w move refl (inr makes))))
      from (inr (suc k, l, makes)) = rest.1 (inr (k, omega arith, makes))

  done_by : (schedule : List ℕ) (before : Run) → PlacesFit s.tasks before.machine.places → DoneBy before schedule
  unfolding run_from
  done_by [] before fits = (inl, ⊎_elim (λ d. d) (λ made. absurd (omega (arith, made.1))))
  done_by (w ∷ schedule) before fits =
      done_more before w schedule fits
      (done_by schedule (after_step s before w) (rw counted_machine (standing_kept s some_access before.machine w fits)))

-- ---- the tasks counted

count-all : (places : ℕ → Place) (index : ℕ) (tasks : List Task)
    → ((i : ℕ) → i < length tasks → is_done (index + i) (places (task_at tasks i).owner) ≡ true)
    → done_from places index tasks ≡ length tasks
unfolding done_from
count-all places index [] each = refl
count-all places index (first ∷ tasks) each =
    let here : is_done index (places first.owner) ≡ true =
    subst (λ (j : ℕ). is_done j (places first.owner) ≡ true) (omega arith) (each 0 (omega arith)) in
    let rest =
    count-all places (index + 1) tasks
    (λ i h. subst (λ (j : ℕ). is_done j (places (task_at tasks i).owner) ≡ true) (omega arith) (each (suc i) (omega arith))) in
    rw here (omega (arith, rest))

-- ---- the theorem, of any setting

module _ (s : Setting) (workers : ℕ) (start schedule : List ℕ) (given : Asked s workers start schedule) where
  abbrev now : Machine
  now = (run s start schedule).machine

  some_access : (i : ℕ) → i < length s.tasks → 1 ≤ length (task_at s.tasks i).accesses
  some_access i h = (given.keep.each_task i h).some_access

  pub once : DoneOnce s start schedule
  once index inside =
      let by = done_by s some_access index inside schedule (fresh_run s start) (standing_fresh s some_access start) in
      ((λ d. ⊎_elim (λ early. absurd (omega (arith, ltb-true index 0 early))) (λ made. made) (by.0 d)), (λ made. by.1 (inr made)))

  pub holds_nobody : HoldsNobody s now
  holds_nobody w more owns all_done = go (view s now w (kept.standing.each_worker w))
    where
      kept : Kept s now
      kept = (holds s workers start schedule given).kept

      clear : Clear s workers (length start) given.keep now kept w
      clear c i l between =
          past_ended s workers (length start) given.keep now kept c i (omega arith)
          (ltb-true _ _ (all_done i c l (conflict_of (task_at s.tasks i) _ c between)))

      go : {r : Stepped} → StepView s now w r → r.outcome ≡ advanced
      go (past e) = absurd (omega arith)
      go (other h not_own none) = absurd (not_own owns)
      go (held trying e waiting) = absurd (not_held s workers (length start) given.keep now kept w clear trying waiting)
      go (StepView.made trying e passes) = refl

  pub all_done : finished workers s.tasks now ≡ true → done_tasks s.tasks now ≡ length s.tasks
  unfolding finished
  all_done over = count-all now.places 0 s.tasks (λ i h. lt-ltb (0 + i) _ (omega (arith, past_last_lem i h)))
    where
      past_last_lem : (i : ℕ) → i < length s.tasks → length s.tasks ≤ (now.places (task_at s.tasks i).owner).passed
      past_last_lem i h =
          leb-true _ _
          (all_keeps (λ w. leb (length s.tasks) (now.places w).passed) workers (λ w. w) _ (given.keep.each_task i h).owned over)

-- ---- and of every accepted flow, start and schedule

pub done_holds : (file cells schedule : List ℕ) → Given file cells schedule → Done (setting_of (flow_of file)) (flow_of file).workers cells schedule
done_holds file cells schedule given =
    let all = asked file cells schedule given in
    record {
      once = once (setting_of (flow_of file)) (flow_of file).workers cells schedule all;
      holds_nobody = holds_nobody (setting_of (flow_of file)) (flow_of file).workers cells schedule all;
      all_done = all_done (setting_of (flow_of file)) (flow_of file).workers cells schedule all;
    }
