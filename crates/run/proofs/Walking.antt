-- A run under a schedule, taken byte by byte: the machine that the arrays stand for, run over the bytes left, gives what the whole schedule
-- gives from the start, since each step of the code is a step of the rules and is counted as they count it.
use mathlib.Core.Path.{◌≡◌, refl, sym, ap, subst, fun_ext, ◌∙◌}
use mathlib.Core.Bool.{Bool, cond}
use mathlib.Core.List.{List, [], ◌∷◌, ◌++◌, append-nil, append_assoc}
use Prim.Native.Nat.{ℕ, zero, suc, ◌+◌, ◌-◌, ◌*◌, ◌<◌, ◌≤◌}
use Rattle.std.proofs.Common.{Ok}
use native.Mathlib.Numerals.{add-one}
use native.Mathlib.Omega.{arith}
use lib.ListN.{length, get_or, drop, replicate, get_or-replicate, drop_of_length-le, length-append}
use lib.Seq.{drop-cons}
use lib.Dec.{eqb, leb}
use Rattle.layout.specs.Lists.{each, all}
use Rattle.layout.specs.Flow.{Task, most_workers, most_cells, most_accesses, most_schedule}
use Rattle.layout.specs.Row.{task_of}
use Rattle.layout.specs.File.{row_at, tasks_in}
use Rattle.layout.proofs.Lists.{each-length}
use Rattle.steps.specs.Machine.{Machine, place, fresh}
use Rattle.steps.specs.Step.{Setting, Stepped, step}
use Rattle.steps.specs.Step as Rules
use Rattle.steps.specs.Run.{Run, counted, run_from, run, Names, done_tasks, finished}
use Rattle.steps.specs.Held.{reason_of, cell_of, Named, named, named_from, named_by, held_for}
use Rattle.steps.proofs.Held.{held_more, held_within}
use Rattle.arrays.specs.declared.Counter.{Counter}
use Rattle.arrays.specs.Ready.{Ready}
use Rattle.arrays.specs.Arrays.{nothing, counter_of, counter_at, first_place, no_place, place_of, Arrays, arrays, lent, fresh_kept, machine_of, Placed, most_reads, ReadsAtMost, Steppable, setting_in, StepDone}
use Rattle.arrays.proofs.Places.{none_made, begun}
use Rattle.arrays.proofs.Growth.{more_reads, file_step_reads}
use Rattle.notes.specs.declared.Notes.{Notes}
use Rattle.notes.specs.Noted.{counts_of, reasons_of, cells_of, no_notes, count_at, counted_more, kept_for}
use Rattle.notes.proofs.Noted.{latest_by, Noted, none_noted, noted_more, count_fits, counts_at}
use Rattle.run.specs.Answers.{answer_by}
use Rattle.run.specs.Promises.{Walked}

-- ---- the fresh start

-- what is the same of each member and of what stands for one past the end
everywhere : {A B : Type 0} (f : A → B) (n i : ℕ) (x d : A) → f x ≡ f d → f (get_or (replicate n x) i d) ≡ f d
everywhere f zero i x d e = refl
everywhere f (suc n) zero x d e = e
everywhere f (suc n) (suc i) x d e = everywhere f n i x d e

abbrev no_counters : List Counter
no_counters = replicate most_cells nothing

module _ (file : List ℕ) (version tasks : ℕ) where
  abbrev held_in : List Task
  held_in = tasks_in file tasks

  abbrev s : Setting
  s = setting_in file version tasks

  fresh_is : (cells : List ℕ) → machine_of held_in (lent cells fresh_kept) ≡ fresh 0 cells
  fresh_is cells = λ i.
      record {
        cells = cells;
        shared = fun_ext (λ c. everywhere counter_of most_cells c nothing nothing refl) i;
        private =
            fun_ext
            (λ w. fun_ext
            (λ c. everywhere (λ (row : List Counter). counter_at row c) most_workers w no_counters [] (everywhere counter_of most_cells c nothing nothing refl))) i;
        places = fun_ext (λ w. everywhere (place_of held_in) most_workers w first_place no_place refl ∙ ap (place 0) (none_made held_in)) i;
      }

  -- the run that has made these steps
  abbrev run_of : Arrays → List Named → Run
  run_of kept steps =
      record {
        machine = machine_of held_in kept;
        advanced = held_for 0 steps;
        held = held_for 1 steps + held_for 2 steps + held_for 3 steps;
      }

  -- where the loop stands: so many bytes are passed, and their steps are noted
  pub record Walking (start schedule : List ℕ) (passed : ℕ) (kept : Arrays) (notes : Notes) : Type 0 where
    pub sound : Steppable file tasks kept
    pub reads : ReadsAtMost (most_accesses * passed) (machine_of held_in kept)
    pub steps : List Named
    pub as_many : length steps ≡ passed
    pub noted : Noted steps notes
    pub left : run s start schedule ≡ run_from s (run_of kept steps) (drop passed schedule)
    pub named_left : named_by s start schedule ≡ steps ++ named_from s (machine_of held_in kept) (drop passed schedule)

  -- ---- before the first byte

  fresh_sound : (start : List ℕ) → Ready file tasks (length start) → Steppable file tasks (lent start fresh_kept)
  fresh_sound start ready =
      record {
        ready = ready;
        shape = record { shared_size = refl; private_size = refl; row_size = λ w l. ap length (get_or-replicate most_workers w no_counters [] l) };
        places_size = refl;
        standing =
            record {
              placed =
                  λ w l.
                  subst (Placed file tasks) (sym (get_or-replicate most_workers w first_place no_place l))
                  (begun file tasks 0 (λ task low high. (ready.rows task low high).some_access));
            };
      }

  pub walk_begun : (start schedule : List ℕ) → Ready file tasks (length start)
      → Walking start schedule 0 (lent start fresh_kept) no_notes
  unfolding held_for
  walk_begun start schedule ready =
      record {
        sound = fresh_sound start ready;
        reads =
            subst (ReadsAtMost 0) (sym (fresh_is start)) (record { shared_reads = λ c. omega arith; private_reads = λ w c. omega arith });
        steps = [];
        as_many = refl;
        noted = none_noted;
        left = ap (λ (m : Machine). run_from s (record { machine = m; advanced = 0; held = 0 }) schedule) (sym (fresh_is start));
        named_left = ap (λ (m : Machine). named_from s m schedule) (sym (fresh_is start));
      }

  -- ---- one byte more

  -- a step is counted by its reason
  module _ (kept after : Arrays) (steps : List Named) (w : ℕ) where
    more : (why : Rules.Outcome) (reason : ℕ)
        → held_for reason (steps ++ named w why ∷ []) ≡ held_for reason steps + cond (eqb (reason_of why) reason) 1 0
    more why reason = held_more reason steps (named w why)

    abbrev held_steps : ℕ
    held_steps = held_for 1 steps + held_for 2 steps + held_for 3 steps

    run_is_lem : (why : Rules.Outcome) (advanced held : ℕ) → advanced ≡ held_for 0 (steps ++ named w why ∷ [])
        → held
        ≡ held_for 1 (steps ++ named w why ∷ []) + held_for 2 (steps ++ named w why ∷ []) + held_for 3 (steps ++ named w why ∷ [])
        → ◌≡◌ {A = Run} (record { machine = machine_of held_in after; advanced = advanced; held = held }) (run_of after (steps ++ named w why ∷ []))
    run_is_lem why advanced held a h = λ i. record { machine = machine_of held_in after; advanced = a i; held = h i }

    held_is : (why : Rules.Outcome) → cond {A = ℕ} (eqb (reason_of why) 0) 1 0 ≡ 0
        → cond {A = ℕ} (eqb (reason_of why) 1) 1 0 + cond (eqb (reason_of why) 2) 1 0 + cond (eqb (reason_of why) 3) 1 0 ≡ 1
        → ◌≡◌ {A = Run} (record { machine = machine_of held_in after; advanced = held_for 0 steps; held = held_steps + 1 })
        (run_of after (steps ++ named w why ∷ []))
    held_is why none one =
        run_is_lem why (held_for 0 steps) (held_steps + 1) (omega (arith, more why 0)) (omega (arith, more why 1, more why 2, more why 3))

    counted_on : (why : Rules.Outcome) → counted (run_of kept steps) why (machine_of held_in after) ≡ run_of after (steps ++ named w why ∷ [])
    unfolding counted
    counted_on Rules.advanced =
        run_is_lem Rules.advanced (held_for 0 steps + 1) held_steps (omega (arith, more Rules.advanced 0))
        (omega (arith, more Rules.advanced 1, more Rules.advanced 2, more Rules.advanced 3))
    counted_on Rules.past_last = held_is Rules.past_last refl refl
    counted_on (Rules.write_differs c) = held_is (Rules.write_differs c) refl refl
    counted_on (Rules.reads_differ c) = held_is (Rules.reads_differ c) refl refl

  module _ {start schedule : List ℕ} {passed : ℕ} {kept : Arrays} {notes : Notes}
      (walking : Walking start schedule passed kept notes) (within : passed < length schedule) where
    -- the step can be taken
    pub step_ready : (workers w : ℕ) → workers ≤ most_workers → length schedule ≤ most_schedule → Names workers schedule
        → w ≡ get_or schedule passed 0
        → (Steppable file tasks kept × (w < most_workers)) × ReadsAtMost most_reads (machine_of held_in kept)
    step_ready workers w few short names is = (
      (walking.sound, omega (arith, names passed within)),
      more_reads (most_accesses * passed) most_reads (machine_of held_in kept) (omega arith) walking.reads,
    )

    -- and noted
    pub note_ready : (why : Rules.Outcome) → length schedule ≤ most_schedule → count_at (counts_of notes) why < 4294967295
    note_ready why short = omega (arith, count_fits walking.noted why, walking.as_many)

    pub stepped_on : (w : ℕ) → w ≡ get_or schedule passed 0 → (after : Arrays) (why : Rules.Outcome) → StepDone file version tasks w kept why after
        → (noted : Notes) → counts_of noted ≡ counted_more (counts_of notes) why
        → reasons_of noted ≡ kept_for (reasons_of notes) w why (reason_of why)
        → cells_of noted ≡ kept_for (cells_of notes) w why (cell_of why)
        → Walking start schedule (passed + 1) after noted
    unfolding run_from named_from
    stepped_on w is after why done noted c r n =
        let before : Run = run_of kept walking.steps in
        let m : Machine = machine_of held_in kept in
        let rest : List ℕ = drop (passed + 1) schedule in
        let bytes : drop passed schedule ≡ w ∷ rest =
        drop-cons schedule passed 0 within ∙ (λ i. sym is i ∷ drop (sym (add-one passed) i) schedule) in
        record {
          sound = done.sound;
          reads =
              subst (ReadsAtMost (most_accesses * (passed + 1))) (sym (ap (λ (d : Stepped). d.machine) done.machine_is))
              (more_reads (most_accesses * passed + most_accesses) (most_accesses * (passed + 1)) (step s m w).machine (omega arith)
              (file_step_reads (most_accesses * passed) file version tasks (length kept.cells) m w walking.sound.ready walking.reads));
          steps = walking.steps ++ named w why ∷ [];
          as_many = omega (arith, walking.as_many, length-append walking.steps (named w why ∷ []));
          noted = noted_more walking.noted w why noted c r n;
          left =
              walking.left ∙ ap (run_from s before) bytes
              ∙ ap (λ (d : Stepped). run_from s (counted before d.outcome d.machine) rest) (sym done.machine_is)
              ∙ ap (λ (r : Run). run_from s r rest) (counted_on kept after walking.steps w why);
          named_left =
              walking.named_left ∙ ap (λ (l : List ℕ). walking.steps ++ named_from s m l) bytes
              ∙ ap (λ (d : Stepped). walking.steps ++ (named w d.outcome ∷ named_from s d.machine rest)) (sym done.machine_is)
              ∙ sym (append_assoc walking.steps (named w why ∷ []) (named_from s (machine_of held_in after) rest));
        }

  -- ---- after the last byte

  module _ {start schedule : List ℕ} {passed : ℕ} {kept : Arrays} {notes : Notes}
      (walking : Walking start schedule passed kept notes) where
    -- the three counts can be added
    pub counts_add : notes.past_last + notes.write_differs + notes.reads_differ ≤ passed
    counts_add =
        let at = counts_at walking.noted in
        omega (arith, at.0, at.1, at.2, held_within walking.steps, walking.as_many)

    module _ (inside : passed ≤ length schedule) (out : length schedule ≤ passed) where
      ran : run_of kept walking.steps ≡ run s start schedule
      unfolding run_from
      ran = sym (walking.left ∙ ap (run_from s (run_of kept walking.steps)) (drop_of_length-le schedule {i = passed} out))

      all_named : walking.steps ≡ named_by s start schedule
      unfolding named_from
      all_named =
          sym (walking.named_left
          ∙ ap (λ (l : List ℕ). walking.steps ++ named_from s (machine_of held_in kept) l) (drop_of_length-le schedule {i = passed} out)
          ∙ append-nil walking.steps)

      pub walk_ended : (workers done : ℕ) (over : Bool) → done ≡ done_tasks held_in (machine_of held_in (arrays [] [] [] kept.places))
          → over ≡ all (λ w. leb tasks (get_or kept.places w no_place).passed) (each workers (λ w. w))
          → Walked version held_in workers start schedule
          (answer_by (Ok record {
            advanced = length schedule - (notes.past_last + notes.write_differs + notes.reads_differ);
            held = notes.past_last + notes.write_differs + notes.reads_differ;
            done = done;
            finished = over;
            notes = notes;
          }))
          kept.cells
      unfolding finished
      walk_ended workers done over done_is over_is =
          let at = counts_at walking.noted in
          let others : length schedule - (notes.past_last + notes.write_differs + notes.reads_differ) ≡ held_for 0 walking.steps =
          omega (arith, at.0, at.1, at.2, held_within walking.steps, walking.as_many) in
          record {
            answer = λ i.
                record {
                  number = 0;
                  place = 0;
                  advanced = (others ∙ ap (λ (r : Run). r.advanced) ran) i;
                  held = ((λ j. at.0 j + at.1 j + at.2 j) ∙ ap (λ (r : Run). r.held) ran) i;
                  done = (done_is ∙ ap (λ (r : Run). done_tasks held_in r.machine) ran) i;
                  finished =
                      (ap (λ (b : Bool). cond b 1 0) over_is
                      ∙ ap (λ (n : ℕ). cond (all (λ w. leb n (get_or kept.places w no_place).passed) (each workers (λ w. w))) 1 0)
                      (sym (each-length tasks (λ i. task_of (row_at file (i + 1)))))
                      ∙ ap (λ (r : Run). cond (finished workers held_in r.machine) 1 0) ran) i;
                  past_last = (at.0 ∙ ap (held_for 1) all_named) i;
                  write_differs = (at.1 ∙ ap (held_for 2) all_named) i;
                  reads_differ = (at.2 ∙ ap (held_for 3) all_named) i;
                  reasons = (walking.noted.reasons_are ∙ ap (latest_by reason_of) all_named) i;
                  cells = (walking.noted.cells_are ∙ ap (latest_by cell_of) all_named) i;
                };
            cells_after = ap (λ (r : Run). r.machine.cells) ran;
          }
