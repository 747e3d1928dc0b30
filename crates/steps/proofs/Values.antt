-- The cells hold what doing the tasks one after another gives: tasks that write a cell are in conflict on it, so at most one of
-- them is in its midst, those before it are complete and those after it have not begun; so a task finds in the cells that it
-- names what it finds there in the plain run, and its next operation leaves there what it leaves in the plain run.
use mathlib.Core.Path.{◌≡◌, refl, sym, ◌∙◌}
use mathlib.Core.Bool.{Bool, true, false, ◌||◌, false≢true}
use mathlib.Core.List.{List}
use Prim.Native.Nat.{ℕ, suc, ◌≤◌, ◌<◌}
use native.Mathlib.Omega.{arith}
use borrow.Author.Tests.{eqb-true, eqb-false, eq-eqb, ne_eqb, ltb-true, ltb-false}
use lib.ListN.{length, get_or, length-set}
use lib.Seq.{get_or-set_other, ext_get_or}
use lib.Dec.{eqb, ltb}
use Rattle.layout.specs.Flow.{Operation, Task}
use Rattle.layout.specs.Row.{reads_b}
use Rattle.steps.specs.Operations.{Effect, operated}
use Rattle.steps.specs.Machine.{put}
use Rattle.steps.specs.Plain.{after_tasks}
use Rattle.steps.specs.Conflict.{task_at, operation_of, names_cell, declares_written, Conflict, AllKeep, ReadsOnlyB}
use Rattle.steps.proofs.Naming.{written_named, named_below}
use Rattle.steps.proofs.Plain.{either_way, operated_same, tasks_length}
use Rattle.steps.proofs.Scan.{MadeSoFar, operations_in, WritersComplete, WritersIdle, plain_at, plain_cell, plain_length, plain_more, plain_end, canon, canon_start, canon_same, canon_before, canon_here}

or_right : (one : Bool) {other : Bool} → other ≡ true → (one || other) ≡ true
or_right true h = refl
or_right false h = h

-- ---- the next operation of a task

abbrev pub one_more : MadeSoFar → ℕ → MadeSoFar
one_more made j = put made j (suc (made j))

more_here : (made : MadeSoFar) (j : ℕ) → one_more made j j ≡ suc (made j)
more_here made j = rw (eq-eqb j j refl)

more_other : (made : MadeSoFar) (j i : ℕ) → (i ≡ j → ⊥) → one_more made j i ≡ made i
more_other made j i other = rw (ne_eqb i j other)

module _ (tasks : List Task) where
  abbrev pub next_operation : MadeSoFar → ℕ → Operation
  next_operation made j = operation_of (task_at tasks j) (made j)

  -- those before a task that are in conflict with it are complete
  abbrev pub EarlierComplete : MadeSoFar → ℕ → Type 0
  EarlierComplete made j = (i c : ℕ) → i < j → Conflict (task_at tasks i) (task_at tasks j) c → made i ≡ operations_in tasks i

  -- they are for every task that has begun
  pub record Ordered (made : MadeSoFar) : Type 0 where
    pub earlier : (j : ℕ) → j < length tasks → 0 < made j → EarlierComplete made j

  -- a task may make its next operation
  pub record MayGo (made : MadeSoFar) (j : ℕ) : Type 0 where
    pub listed : j < length tasks
    pub unfinished : made j < operations_in tasks j
    pub earlier : EarlierComplete made j

  pub ordered_start : Ordered (λ j. 0)
  ordered_start = record { earlier = λ j l begun. absurd (omega arith) }

  module _ {made : MadeSoFar} {j : ℕ} (ordered : Ordered made) (may : MayGo made j) where
    -- a later task in conflict with it has not begun, for this one isn't complete
    later_idle : (i c : ℕ) → j < i → i < length tasks → Conflict (task_at tasks j) (task_at tasks i) c → made i ≡ 0
    later_idle i c h l conflict =
        either_way (ltb 0 (made i)) (λ begun. absurd (itself begun)) (λ idle. omega (arith, ltb-false 0 (made i) idle))
      where
        itself : ltb 0 (made i) ≡ true → ⊥
        itself begun =
            let complete = ordered.earlier i l (ltb-true 0 (made i) begun) j c h conflict in
            omega arith

    complete_for : (k : ℕ) → k < length tasks → 0 < one_more made j k → EarlierComplete made k
    complete_for k l begun =
        either_way (eqb k j) (λ same. rw (eqb-true k j same) may.earlier)
        (λ other. ordered.earlier k l (rw (more_other made j k (eqb-false k j other)) at begun))

    pub ordered_step : Ordered (one_more made j)
    ordered_step = record { earlier = complete_after }
      where
        complete_after : (k : ℕ) → k < length tasks → 0 < one_more made j k → EarlierComplete (one_more made j) k
        complete_after k l begun i c h conflict =
            let complete = complete_for k l begun i c h conflict in
            more_other made j i (λ e. let itself : made j ≡ operations_in tasks j = rw e at complete in omega arith) ∙ complete

-- ---- the cells

module _ (does : Effect) (tasks : List Task) (start : List ℕ) where
  -- each cell holds what the last begun task that writes it left there
  pub record Canonical (made : MadeSoFar) (cells : List ℕ) : Type 0 where
    pub sized : length cells ≡ length start
    pub holds : (c : ℕ) → get_or cells c 0 ≡ canon does tasks start made c (length tasks)
    pub within : (j : ℕ) → made j ≤ operations_in tasks j

  pub canonical_start : Canonical (λ j. 0) start
  canonical_start =
      record { sized = refl; holds = λ c. sym (canon_start does tasks start c (length tasks)); within = λ j. omega arith }

  module _ {workers : ℕ} (keeps : AllKeep workers (length start) tasks) where
    pub all_complete : {made : MadeSoFar} {cells : List ℕ} → Canonical made cells
        → ((j : ℕ) → j < length tasks → made j ≡ operations_in tasks j)
        → cells ≡ after_tasks does tasks start
    all_complete {made} {cells} canonical complete =
        ext_get_or 0 cells _ (canonical.sized ∙ sym (tasks_length does tasks start))
        (λ c h. canonical.holds c
        ∙ canon_before does tasks start keeps made canonical.within c (length tasks) (omega arith) (λ i l w. complete i l)
        ∙ rw (plain_end does tasks start))

    module _ {made : MadeSoFar} {cells : List ℕ} {j : ℕ}
        (canonical : Canonical made cells) (ordered : Ordered tasks made) (may : MayGo tasks made j) where
      writers_complete : (c : ℕ) → names_cell (task_at tasks j) c ≡ true → WritersComplete tasks made c j
      writers_complete c named i h w =
          may.earlier i c h (record { one_names = written_named (task_at tasks i) c w; other_names = named; written = rw w })

      writers_idle : (c : ℕ) → names_cell (task_at tasks j) c ≡ true → WritersIdle tasks made c (suc j) (length tasks)
      writers_idle c named i h l w =
          later_idle tasks ordered may i c h l
          (record {
            one_names = named;
            other_names = written_named (task_at tasks i) c w;
            written = or_right (declares_written (task_at tasks j) c) w;
          })

      -- a cell that the task names holds what the plain run has there
      pub here : (c : ℕ) → names_cell (task_at tasks j) c ≡ true → get_or cells c 0 ≡ plain_cell does tasks start j (made j) c
      here c named =
          canonical.holds c
          ∙ canon_here does tasks start keeps made canonical.within c j may.listed (writers_complete c named) (writers_idle c named)

      writes_a : declares_written (task_at tasks j) (next_operation tasks made j).a ≡ true
      writes_a = (keeps.each_task j may.listed).writes (made j) may.unfinished

      a_below : (next_operation tasks made j).a < length start
      a_below =
          named_below (length start) (task_at tasks j).accesses _ (keeps.each_task j may.listed).accesses_in_range
          (written_named (task_at tasks j) _ writes_a)

      -- the operation finds in a, and in b if it reads it, what it finds there in the plain run
      pub same_a : get_or cells (next_operation tasks made j).a 0 ≡ plain_cell does tasks start j (made j) (next_operation tasks made j).a
      same_a = here _ (written_named (task_at tasks j) _ writes_a)

      pub same_b : reads_b (next_operation tasks made j).code ≡ true
          → get_or cells (next_operation tasks made j).b 0 ≡ plain_cell does tasks start j (made j) (next_operation tasks made j).b
      same_b reads = here _ ((keeps.each_task j may.listed).reads_named (made j) may.unfinished reads)

      within_more : (i : ℕ) → one_more made j i ≤ operations_in tasks i
      within_more i =
          either_way (eqb i j) (λ e. rw (eqb-true i j e, more_here made j) may.unfinished)
          (λ e. rw (more_other made j i (eqb-false i j e)) (canonical.within i))

      -- the scan of the next progress, at a cell that the task names and at one that it doesn't write
      canon_named : (c : ℕ) → names_cell (task_at tasks j) c ≡ true
          → canon does tasks start (one_more made j) c (length tasks) ≡ plain_cell does tasks start j (suc (made j)) c
      canon_named c named =
          canon_here does tasks start keeps (one_more made j) within_more c j may.listed
          (λ i h w. more_other made j i (λ e. omega arith) ∙ writers_complete c named i h w)
          (λ i h l w. more_other made j i (λ e. omega arith) ∙ writers_idle c named i h l w)
          ∙ rw (more_here made j)

      canon_unwritten : (c : ℕ) → declares_written (task_at tasks j) c ≡ false
          → canon does tasks start made c (length tasks) ≡ canon does tasks start (one_more made j) c (length tasks)
      canon_unwritten c unwritten =
          canon_same does tasks start made (one_more made j) c (length tasks)
          (λ i w. sym (more_other made j i (λ e. false≢true (cc))))

      module _ (reads_only : ReadsOnlyB does) where
        step_named : (c : ℕ) → names_cell (task_at tasks j) c ≡ true
            → get_or (operated does (next_operation tasks made j) cells) c 0 ≡ plain_cell does tasks start j (suc (made j)) c
        step_named c named =
            let plain = plain_at does tasks start j (made j) in
            let below_plain : (next_operation tasks made j).a < length plain = rw (plain_length does tasks start j (made j)) a_below in
            rw (plain_more does tasks start j (made j) may.unfinished)
            (operated_same does reads_only (next_operation tasks made j) cells plain (rw canonical.sized a_below) below_plain
            same_a same_b c (here c named))

        pub one_step : Canonical (one_more made j) (operated does (next_operation tasks made j) cells)
        one_step =
            record {
              sized = length-set cells _ _ ∙ canonical.sized;
              holds =
                  λ c.
                  either_way (declares_written (task_at tasks j) c)
                  (λ w. let named = written_named (task_at tasks j) c w in step_named c named ∙ sym (canon_named c named))
                  (λ w. get_or-set_other cells _ c _ 0 (λ e. false≢true (cc writes_a)) ∙ canonical.holds c ∙ canon_unwritten c w);
              within = within_more;
            }
