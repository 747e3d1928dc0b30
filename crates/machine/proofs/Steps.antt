-- A step of the code is a step of the rules. An own step that advances changes the cells and the counters as the rules do and stores
-- the next place, and one that is held stores nothing; a task of another owner is noted access by access and gone past.
use mathlib.Core.Path.{◌≡◌, refl, sym, ap, subst, ◌∙◌}
use mathlib.Core.Bool.{Bool, true, false, cond, true≢false}
use mathlib.Core.List.{List, [], ◌∷◌}
use Prim.Native.Nat.{ℕ, ◌+◌, ◌<◌, ◌≤◌}
use native.Mathlib.Omega.{arith}
use borrow.Author.Tests.{eq-eqb, ne_eqb}
use lib.ListN.{length, get_or, set, drop, length-set}
use lib.Dec.{eqb}
use Rattle.std.specs.Prelude.{Err}
use Rattle.layout.specs.Flow.{Access, Task, most_workers, most_cells}
use Rattle.layout.specs.Row.{task_of}
use Rattle.layout.specs.File.{row_at, tasks_in}
use Rattle.layout.proofs.Modes.{each-drop, each-drop-all}
use Rattle.steps.specs.Operations.{Effect, effect}
use Rattle.steps.specs.Machine as Rules
use Rattle.steps.specs.Machine.{Machine, place, with_row, with_place}
use Rattle.steps.specs.Step.{Try, wait_write, wait_reads, operate, end_read, zero_reads, post_write, Outcome, advanced, past_last, write_differs, reads_differ, outcome, register_all, change, own_steps, moved, stepped, attempted, own_step, other_step, step_from, step}
use Rattle.arrays.specs.declared.Stage.{Stage}
use Rattle.arrays.specs.declared.Stage.TheVariants.{WaitWrite}
use Rattle.arrays.specs.declared.Place.{Place}
use Rattle.arrays.specs.Ready.{RowFits, Ready}
use Rattle.arrays.specs.Arrays.{Arrays, arrays, machine_of, place_at, place_of, no_place, try_at, Stands, next_place, made_in, made_at, noted_all, Shape, Placed, Standing, Steppable, setting_in, passed_at, stage_at, index_at, Changed, moves_on, OwnStep, StepDone}
use Rattle.arrays.proofs.Places.{access_count, access_there, try_there, next_there, begun, next_placed, none_made}
use Rattle.arrays.proofs.Machines.{stored_at, all_noted_only, row_replaced, place_stored, outcome_of_lem, change_of}
use Rattle.machine.specs.declared.Held.{Held}
use Rattle.machine.specs.declared.Held.TheVariants.{PastLast, WriteDiffers, ReadsDiffer}
use Rattle.machine.specs.Outcomes.{outcome_of}

-- ---- an own step

-- a change keeps the number of cells
change_size : (does : Effect) (number : ℕ) (m : Machine) (w : ℕ) (try : Try) → length (change does number m w try).cells ≡ length m.cells
unfolding change
change_size does number m w (wait_write c) = refl
change_size does number m w (wait_reads c) = refl
change_size does number m w (operate o) = length-set m.cells o.a (does o (get_or m.cells o.a 0) (get_or m.cells o.b 0))
change_size does number m w (end_read c) = refl
change_size does number m w (zero_reads c) = refl
change_size does number m w (post_write c) = refl

-- with every outcome but that of an advancing step the worker stays
pub stays : (why : Held) → moves_on (outcome_of (Err why)) ≡ false
stays PastLast = refl
stays (WriteDiffers cell) = refl
stays (ReadsDiffer cell) = refl

-- and then the machine is left
held_back : (why : Outcome) → moves_on why ≡ false → (m after : Machine) → stepped why m ≡ attempted why m after
unfolding attempted
held_back advanced held m after = absurd (true≢false held)
held_back past_last held m after = refl
held_back (write_differs cell) held m after = refl
held_back (reads_differ cell) held m after = refl

module _ (version : ℕ) (row : List ℕ) (w : ℕ) (kept : Arrays) where
  abbrev try : Try
  try = try_at row (stage_at kept w) (index_at kept w)

  abbrev then : Place
  then = next_place row (passed_at kept w) (stage_at kept w) (index_at kept w)

  abbrev number : ℕ
  number = passed_at kept w + 1

  -- the counters say that it advances, the change is made, and the next place is stored
  pub own_step_made : (to : Arrays) → advanced ≡ outcome (machine_of [] (arrays [] kept.shared kept.private kept.places)) w try
      → Changed version row w number (stage_at kept w) (index_at kept w) kept to
      → to.places ≡ kept.places
      → w < length kept.places
      → OwnStep version row w kept advanced (arrays to.cells to.shared to.private (set to.places w then))
  unfolding attempted
  own_step_made to told changed same h =
      record {
        shape = changed.0;
        cells_size =
            ap (λ (m : Machine). length m.cells) changed.1 ∙ change_size (effect version) number (machine_of [] kept) w try;
        places_are = ap (λ (places : List Place). set places w then) same;
        machine_is = λ tasks.
            let m = machine_of tasks kept in
            let made = with_place (change (effect version) number m w try) w (place_of tasks then) in
            ap (stepped advanced)
            (place_stored tasks to w then (omega (arith, ap (length {A = Place}) same))
            ∙ ap (λ (now : Machine). with_place now w (place_of tasks then)) (change_of tasks kept to same (effect version) number w try changed.1))
            ∙ ap (λ (y : Outcome). attempted y m made) (told ∙ outcome_of_lem tasks kept w try);
      }

  -- the counters say why it is held
  pub own_step_held : (why : Outcome) → Shape kept.shared kept.private
      → why ≡ outcome (machine_of [] (arrays [] kept.shared kept.private kept.places)) w try
      → moves_on why ≡ false
      → OwnStep version row w kept why kept
  own_step_held why shape told held =
      record {
        shape = shape;
        cells_size = refl;
        places_are = sym (ap (λ (b : Bool). cond b (set kept.places w then) kept.places) held);
        machine_is = λ tasks.
            let m = machine_of tasks kept in
            let made = with_place (change (effect version) number m w try) w (place_of tasks then) in
            held_back why held m made ∙ ap (λ (y : Outcome). attempted y m made) (told ∙ outcome_of_lem tasks kept w try);
      }

-- ---- a step of a named worker

-- a worker that stands somewhere else leaves the others where they stand
standing_kept : (file : List ℕ) (tasks : ℕ) (places : List Place) (w : ℕ) (next : Place) → Standing file tasks places → w < length places
    → Placed file tasks next
    → Standing file tasks (set places w next)
standing_kept file tasks places w next standing h placed =
    record {
      placed = λ v l.
          rw (stored_at places w next no_place v h)
          (elim (eqb v w) as (λ same. Placed file tasks (cond same next (get_or places v no_place))) [ true ↦ placed | false ↦ standing.placed v l ]);
    }

module _ (file : List ℕ) (version tasks w : ℕ) (kept : Arrays) (sound : Steppable file tasks kept) (h : w < most_workers) where
  abbrev passed : ℕ
  passed = passed_at kept w

  abbrev row : List ℕ
  row = row_at file (passed + 1)

  abbrev m : Machine
  m = machine_of (tasks_in file tasks) kept

  has_place : w < length kept.places
  has_place = omega (arith, sound.places_size)

  -- past the last task
  pub step_past : tasks ≤ passed → StepDone file version tasks w kept past_last kept
  unfolding step step_from
  step_past l =
      record {
        sound = sound;
        places_are = refl;
        machine_is = ap (step_from (setting_in file version tasks) m w) (sym (each-drop-all tasks (λ i. task_of (row_at file (i + 1))) passed l));
      }

  module _ (l : passed < tasks) where
    here : drop passed (tasks_in file tasks) ≡ task_of row ∷ drop (passed + 1) (tasks_in file tasks)
    here = each-drop tasks (λ i. task_of (row_at file (i + 1))) passed l

    fits : RowFits row (length kept.cells)
    fits = sound.ready.rows (passed + 1) (omega arith) (omega arith)

    stands : Stands row (stage_at kept w) (index_at kept w)
    stands = (sound.standing.placed w h).stands l

    some : (task : ℕ) → 1 ≤ task → task ≤ tasks → 1 ≤ get_or (row_at file task) 1 0
    some task low high = (sound.ready.rows task low high).some_access

    -- the step at the task there, by whether the worker owns it
    step_at : (is_owner : Bool) → eqb (get_or row 0 0) w ≡ is_owner
        → step (setting_in file version tasks) m w
        ≡ cond is_owner
        (own_step (setting_in file version tasks) m w (task_of row) (drop (m.places w).made (own_steps (task_of row))))
        (other_step (setting_in file version tasks) m w (task_of row))
    unfolding step step_from task_of
    step_at is_owner t =
        ap (step_from (setting_in file version tasks) m w) here
        ∙ ap
        (λ (b : Bool).
        cond b
        (own_step (setting_in file version tasks) m w (task_of row) (drop (m.places w).made (own_steps (task_of row))))
        (other_step (setting_in file version tasks) m w (task_of row)))
        t

    -- a task of another owner
    pub step_other : (get_or row 0 0 ≡ w → ⊥)
        → StepDone file version tasks w kept advanced
        (arrays kept.cells kept.shared (noted_all kept.private w (passed + 1) (task_of row).accesses)
        (set kept.places w (place_at (passed + 1) WaitWrite 0)))
    step_other other =
        let all = tasks_in file tasks in
        let accesses = (task_of row).accesses in
        let noted_in = noted_all kept.private w (passed + 1) accesses in
        let next = place_at (passed + 1) WaitWrite 0 in
        let row' = register_all (passed + 1) accesses (m.private w) in
        let only = all_noted_only kept.shared w (passed + 1) h kept.private accesses counted sound.shape in
        record {
          sound =
              record {
                ready = sound.ready;
                shape = only.shape;
                places_size = length-set kept.places w next ∙ sound.places_size;
                standing =
                    standing_kept file tasks kept.places w next sound.standing has_place (begun file tasks (passed + 1) some);
              };
          places_are = rw (ne_eqb (get_or row 0 0) w other);
          machine_is =
              ap (stepped advanced)
              (place_stored all (arrays kept.cells kept.shared noted_in kept.places) w next has_place
              ∙ ap (λ (to : Machine). with_place to w (place_of all next)) (row_replaced all kept noted_in w row' only)
              ∙ ap (λ (made : ℕ). with_place (with_row m w row') w (place (passed + 1) made)) (none_made (drop (passed + 1) all)))
              ∙ sym (step_at false (ne_eqb (get_or row 0 0) w other));
        }
      where
        counted : (j : ℕ) (none : Access) → j < length (task_of row).accesses → (get_or (task_of row).accesses j none).cell < most_cells
        counted j none k =
            let inside : j < get_or row 1 0 = omega (arith, access_count row) in
            subst (λ (access : Access). access.cell < most_cells) (sym (access_there row j none inside)) (fits.access_cells j inside)

    -- its own task
    pub step_own : (why : Outcome) (after : Arrays) → get_or row 0 0 ≡ w → OwnStep version row w kept why after → StepDone file version tasks w kept why after
    unfolding made_in own_step
    step_own why after owner own =
        record {
          sound =
              record {
                ready = subst (Ready file tasks) (sym own.cells_size) sound.ready;
                shape = own.shape;
                places_size = (stand (moves_on why) own.places_are).0;
                standing = (stand (moves_on why) own.places_are).1;
              };
          places_are = rw (eq-eqb (get_or row 0 0) w owner) own.places_are;
          machine_is =
              own.machine_is all
              ∙ ap (λ (to : Rules.Place). attempted (outcome m w try_here) m (with_place (change (effect version) (passed + 1) m w try_here) w to))
              (next_there row passed stage index all (drop (passed + 1) all) fits.some_access stands here
              ∙ ap (λ (made : ℕ). moved (task_of row) (place passed made)) (sym made_is))
              ∙ ap (own_step (setting_in file version tasks) m w (task_of row))
              (sym (try_there row stage index stands) ∙ ap (λ (made : ℕ). drop made (own_steps (task_of row))) (sym made_is))
              ∙ sym (step_at true (eq-eqb (get_or row 0 0) w owner));
        }
      where
        all : List Task
        all = tasks_in file tasks

        stage : Stage
        stage = stage_at kept w

        index : ℕ
        index = index_at kept w

        try_here : Try
        try_here = try_at row stage index

        next : Place
        next = next_place row passed stage index

        made_is : (m.places w).made ≡ made_at (task_of row) stage index
        made_is = ap (λ (left : List Task). made_in left stage index) here

        Stand : List Place → Type 0
        Stand to = (length to ≡ most_workers) × Standing file tasks to

        stand : (b : Bool) → after.places ≡ cond b (set kept.places w next) kept.places → Stand after.places
        stand false e = subst Stand (sym e) (sound.places_size, sound.standing)
        stand true e =
            subst Stand (sym e) (
              length-set kept.places w next ∙ sound.places_size,
              standing_kept file tasks kept.places w next sound.standing has_place (next_placed file tasks passed stage index some l stands),
            )
