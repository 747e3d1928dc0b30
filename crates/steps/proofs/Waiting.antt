-- How long it can be kept waiting, proved of any setting and of every accepted flow, start and schedule of any length. The statements are in specs/Waiting.antt.
use mathlib.Core.Path.{◌≡◌, refl, sym, ap, ap₂, subst, ◌∙◌}
use mathlib.Core.Bool.{Bool, true, false, ◌&&◌, ◌||◌, false≢true}
use mathlib.Core.List.{List, [], ◌∷◌, ◌++◌, append-nil}
use Prim.Native.Nat.{ℕ, zero, suc, ◌+◌, ◌-◌, ◌*◌, ◌≤◌, ◌<◌}
use native.Mathlib.Nat.{lt_of_not-le, suc-mul, zero-mul, mul-zero, mul-suc, one-le-mul, mul-le-mul_right, mul-lt-mul_of_pos_right}
use native.Mathlib.Omega.{arith}
use borrow.Author.Tests.{eqb-true, eqb-false, leb-false}
use lib.ListN.{length, get_or, take, drop, take-append-drop}
use lib.Seq.{take-append-le, take-append-add, get_or-append-add}
use lib.Dec.{eqb, leb}
use Rattle.layout.specs.Flow.{Operation, Task}
use Rattle.layout.specs.Row.{reads_a, reads_b}
use Rattle.layout.specs.File.{flow_of}
use Rattle.layout.proofs.Lists.{and_left, and_right, all_fails}
use Rattle.steps.specs.Machine.{Machine}
use Rattle.steps.specs.Step.{Setting, advanced, step}
use Rattle.steps.specs.Run.{Run, run_from, run, setting_of, finished, total_of}
use Rattle.steps.specs.History.{made, made_by}
use Rattle.steps.specs.Held.{outcome_at}
use Rattle.steps.specs.Conflict.{task_at, operation_of, names_cell}
use Rattle.steps.specs.Demand.{Given, numbered, Declared}
use Rattle.steps.specs.Auditor.{plain_before}
use Rattle.steps.specs.Turns.{NamedIn, Stretch, Turn, stretches}
use Rattle.steps.specs.Waiting.{finished_after, StaysFree, FreeUntilNamed, SomeAdvances, StretchesFinish, InTurnFinishes, reads_cell, ReadsTheSame}
use Rattle.steps.specs.Waiting.{own_total, Budget, WithinBudget, FirstBound, Waiting}
use Rattle.steps.proofs.Accepted.{asked}
use Rattle.steps.proofs.Advance.{progress}
use Rattle.steps.proofs.Along.{fresh_run, after_step, counted_machine, from_append}
use Rattle.steps.proofs.Demand3.{Asked, holds, declared_next}
use Rattle.steps.proofs.Free as Free
use Rattle.steps.proofs.Given.{names_first}
use Rattle.steps.proofs.Invariant.{Kept}
use Rattle.steps.proofs.Named.{named_enough, one_owner_walk}
use Rattle.steps.proofs.Naming.{written_named}
use Rattle.steps.proofs.OwnSteps.{own_steps_lem}
use Rattle.steps.proofs.Plain.{either_way}
use Rattle.steps.proofs.Reach as Reach
use Rattle.steps.proofs.Reach.{own_before, kept_next}
use Rattle.steps.proofs.Reading.{reads_plain}
use Rattle.steps.proofs.Stretches.{stretches_more, stretches_names, stretches_length, one_turn, turn_is, turns_are}
use Rattle.steps.proofs.Sums.{sum}
use Rattle.steps.proofs.Total.{finished_exactly, counts_no_less, advances_one, all_counted}

-- ---- the numbers of a flow

own_is : (tasks : List Task) → own_before tasks (length tasks) ≡ own_total tasks
unfolding sum own_total
own_is [] = refl
own_is (task ∷ tasks) = omega (arith, own_steps_lem task, own_is tasks)

pub total_split : (workers : ℕ) (tasks : List Task) → total_of workers tasks ≡ own_total tasks + length tasks * (workers - 1)
unfolding total_of own_total
total_split workers [] = omega (arith, zero-mul (workers - 1))
total_split workers (task ∷ tasks) = omega (arith, total_split workers tasks, suc-mul (length tasks) (workers - 1))

-- workers times a number, the first worker apart
pub times_less : (n workers : ℕ) → 1 ≤ workers → n * workers ≡ n * (workers - 1) + n
times_less n workers some =
    let all : workers ≡ suc (workers - 1) = omega arith in
    ap (λ (w : ℕ). n * w) all ∙ omega (arith, mul-suc n (workers - 1))

-- ---- what an operation reads, its task names

or_either : {X : Type 0} (x y : Bool) → (x || y) ≡ true → (x ≡ true → X) → (y ≡ true → X) → X
or_either true y h one other = one refl
or_either false y h one other = other h

module _ (s : Setting) (workers : ℕ) (start schedule : List ℕ) (given : Asked s workers start schedule) where
  abbrev now : Machine
  now = (run s start schedule).machine

  kept : Kept s now
  kept = (holds s workers start schedule given).kept

  some_access : (i : ℕ) → i < length s.tasks → 1 ≤ length (task_at s.tasks i).accesses
  some_access i h = (given.keep.each_task i h).some_access

  owned : (i : ℕ) → i < length s.tasks → (task_at s.tasks i).owner < workers
  owned i h = (given.keep.each_task i h).owned

  -- ---- a.

  pub stays_free : StaysFree s now
  stays_free w other apart = Free.stays_free s workers (length start) given.keep given.apart now kept other w apart

  next_kept : (before : Run) (v : ℕ) → Kept s before.machine → Kept s (after_step s before v).machine
  next_kept = kept_next s workers (length start) given.keep given.apart

  next_free : (before : Run) (v w : ℕ) → Kept s before.machine → (v ≡ w → ⊥) → (step s before.machine w).outcome ≡ advanced
      → (step s (after_step s before v).machine w).outcome ≡ advanced
  next_free before v w k apart free =
      rw counted_machine (Free.stays_free s workers (length start) given.keep given.apart before.machine k v w apart free)

  -- from any run on, along bytes that do not name the worker
  free_from : (later : List ℕ) (before : Run) → Kept s before.machine → (w : ℕ) → (step s before.machine w).outcome ≡ advanced
      → (NamedIn w later → ⊥) → (step s (run_from s before later).machine w).outcome ≡ advanced
  unfolding run_from
  free_from [] before k w free unnamed = free
  free_from (v ∷ later) before k w free unnamed =
      free_from later (after_step s before v) (next_kept before v k) w
      (next_free before v w k (λ e. unnamed (0, omega arith, e)) free)
      (λ (i, inside, names). unnamed (suc i, omega arith, names))

  pub until_named : FreeUntilNamed s start schedule
  until_named w free later unnamed =
      rw (from_append s (fresh_run s start) schedule later) (free_from later (run s start schedule) kept w free unnamed)

  -- ---- b.

  -- the step of a byte, at an index of the bytes from a run on, advances
  abbrev Advances : Run → List ℕ → Type 0
  Advances before bytes =
      (k : ℕ) × (k < length bytes) × ((step s (run_from s before (take k bytes)).machine (get_or bytes k 0)).outcome ≡ advanced)

  -- one that would advance does so where it is named next
  named_advances : (bytes : List ℕ) (before : Run) → Kept s before.machine → (w : ℕ) → (step s before.machine w).outcome ≡ advanced
      → NamedIn w bytes → Advances before bytes
  unfolding run_from
  named_advances [] before k w free (i, inside, names) = absurd (omega arith)
  named_advances (v ∷ bytes) before k w free (zero, inside, names) =
      (0, omega arith, subst (λ (u : ℕ). (step s before.machine u).outcome ≡ advanced) (sym names) free)
  named_advances (v ∷ bytes) before k w free (suc i, inside, names) =
      either_way (eqb v w) (λ e. (0, omega arith, subst (λ (u : ℕ). (step s before.machine u).outcome ≡ advanced) (sym (eqb-true v w e)) free))
      (λ e.
      let rest =
      named_advances bytes (after_step s before v) (next_kept before v k) w (next_free before v w k (eqb-false v w e) free) (i, omega arith, names) in
      (suc rest.0, omega (arith, rest.1), rest.2))

  module _ (stretch : List ℕ) (each_one : Stretch workers stretch) (unfinished : finished_after s workers start schedule ≡ false) where
    in_stretch : Advances (run s start schedule) stretch
    unfolding finished
    in_stretch =
        let left = all_fails (λ w. leb (length s.tasks) (now.places w).passed) workers (λ w. w) unfinished in
        let free = progress s workers (length start) given.keep now kept left.0 left.1 (leb-false _ _ left.2) in
        named_advances stretch (run s start schedule) kept free.0 free.2 (each_one.each_worker free.0 free.1)

    -- seen from the whole schedule
    outcome_there : (k : ℕ)
        → outcome_at s start (schedule ++ stretch) (length schedule + k)
        ≡ (step s (run_from s (run s start schedule) (take k stretch)).machine (get_or stretch k 0)).outcome
    outcome_there k =
        ap₂ (λ (r : Run) (v : ℕ). (step s r.machine v).outcome)
        (ap (run s start) (take-append-add schedule stretch k) ∙ from_append s (fresh_run s start) schedule (take k stretch))
        (get_or-append-add schedule stretch k 0)

    -- so the stretch makes the count larger
    pub count_grows : (run s start schedule).advanced < (run s start (schedule ++ stretch)).advanced
    count_grows =
        let one = in_stretch in
        rw (from_append s (fresh_run s start) schedule stretch) (advances_one s (run s start schedule) stretch one.0 one.1 one.2)

  pub some_advances : SomeAdvances s workers start schedule
  some_advances stretch each_one unfinished =
      let one = in_stretch stretch each_one unfinished in
      (one.0, one.1, outcome_there stretch each_one unfinished one.0 ∙ one.2)

  -- ---- c. and the worst case

  abbrev own : ℕ
  own = own_before s.tasks (length s.tasks)

  abbrev all : ℕ
  all = total_of workers s.tasks

  own_below : own ≤ all
  own_below = omega (arith, own_is s.tasks, total_split workers s.tasks)

  module _ (named : ℕ → List ℕ) where
    -- as many stretches as the owners have steps, and whatever comes after them
    own_finish : ((i : ℕ) → i < own → Stretch workers (named i)) → (more : List ℕ)
        → finished_after s workers start (stretches named own ++ more) ≡ true
    own_finish = Reach.stretches_finish s workers (length start) given.keep given.apart start named

    all_finish : ((i : ℕ) → i < all → Stretch workers (named i)) → finished_after s workers start (stretches named all) ≡ true
    all_finish each_one =
        let split : all ≡ own + (all - own) = omega (arith, own_below) in
        ap (λ (l : List ℕ). finished_after s workers start l) (ap (stretches named) split ∙ stretches_more named own (all - own))
        ∙ own_finish (λ i h. each_one i (omega (arith, own_below))) _

  pub stretches_finish : StretchesFinish s workers start
  stretches_finish = all_finish

  pub in_turn_finishes : InTurnFinishes s workers start
  in_turn_finishes =
      ap (λ (l : List ℕ). finished_after s workers start l) (turns_are workers all)
      ∙ all_finish (λ i. one_turn workers) (λ i h. (turn_is workers).stretch)

  module _ (named : ℕ → List ℕ) (each_one : (i : ℕ) → Turn workers (named i)) (n many : ℕ) (inside : n ≤ length (stretches named many))
      (unfinished : finished_after s workers start (take n (stretches named many)) ≡ false) where
    abbrev whole : List ℕ
    whole = stretches named own

    abbrev beyond : List ℕ
    beyond = stretches (λ i. named (own + i)) many

    whole_length : length whole ≡ own * workers
    whole_length = stretches_length named workers each_one own

    -- the first n bytes are those of as many stretches as one likes
    same_bytes : take n (stretches named many) ≡ take n (whole ++ beyond)
    same_bytes =
        let swap : many + own ≡ own + many = omega arith in
        sym (take-append-le n (stretches named many) (stretches (λ i. named (many + i)) own) inside)
        ∙ ap (take n) (sym (stretches_more named many own) ∙ ap (stretches named) swap ∙ stretches_more named own many)

    -- past the owners' steps it would have finished
    longest : n < own * workers
    longest = lt_of_not-le past
      where
        past : own * workers ≤ n → ⊥
        past l =
            let split : n ≡ length whole + (n - length whole) = omega (arith, whole_length) in
            false≢true
            (sym unfinished
            ∙ ap (λ (bytes : List ℕ). finished_after s workers start bytes)
            (same_bytes ∙ ap (λ (k : ℕ). take k (whole ++ beyond)) split ∙ take-append-add whole beyond (n - length whole))
            ∙ own_finish named (λ i h. (each_one i).stretch) (take (n - length whole) beyond))

    -- after all of them, every step that was not held advanced
    held_whole : (run s start whole).held ≡ own * workers - all
    held_whole =
        let done : finished_after s workers start whole ≡ true =
        ap (λ (bytes : List ℕ). finished_after s workers start bytes) (sym (append-nil whole)) ∙ own_finish named (λ i h. (each_one i).stretch) [] in
        let advanced_all : (run s start whole).advanced ≡ all =
        (finished_exactly s workers owned some_access start whole (stretches_names named workers own (λ i h. (each_one i).stretch))).0 done in
        omega (arith, all_counted s start whole, whole_length)

    most_held_lem : (run s start (take n (stretches named many))).held ≤ own * workers - all
    most_held_lem =
        let first : take n (stretches named many) ≡ take n whole = same_bytes ∙ take-append-le n whole beyond (omega (arith, longest, whole_length)) in
        let split : run s start whole ≡ run_from s (run s start (take n whole)) (drop n whole) =
        ap (run s start) (sym (take-append-drop n whole)) ∙ from_append s (fresh_run s start) (take n whole) (drop n whole) in
        omega (
          arith,
          ap (λ (bytes : List ℕ). (run s start bytes).held) first,
          ap (λ (r : Run). r.held) split,
          (counts_no_less s (run s start (take n whole)) (drop n whole)).0,
          held_whole,
        )

    pub budget : Budget s workers n (run s start (take n (stretches named many))).held
    budget =
        let some : 1 ≤ workers = lt_of_not-le (λ (l : workers ≤ 0). none (omega arith)) in
        let most : own * workers ≤ all * workers = mul-le-mul_right workers own_below in
        record {
          steps = omega (arith, longest, most);
          held_steps = omega (arith, most_held_lem, most, times_less all workers some);
          fewer_steps = rw (sym (own_is s.tasks)) longest;
          fewer_held = rw (sym (own_is s.tasks)) most_held_lem;
        }
      where
        none : workers ≡ 0 → ⊥
        none e = omega (arith, longest, ap (λ (w : ℕ). own * w) e)

  pub within_budget : WithinBudget s workers start
  within_budget = budget

  pub first_bound : FirstBound s workers start schedule
  first_bound =
      record {
        total_is = total_split workers s.tasks;
        no_sooner = λ done.
            omega (arith, all_counted s start schedule, (finished_exactly s workers owned some_access start schedule given.names).0 done);
        with_one = λ one. alone (omega arith);
        one_owner = λ owner below owns done.
            omega (arith, own_is s.tasks, named_enough s some_access start workers schedule done owner below, one_owner_walk s.tasks owner owns);
        with_more = λ more some. mul-lt-mul_of_pos_right {k = workers} (own_less (one-le-mul some (omega arith))) (omega arith);
      }
    where
      alone : workers - 1 ≡ 0 → own_total s.tasks ≡ all
      alone none =
          let nothing : length s.tasks * (workers - 1) ≡ 0 = ap (λ (n : ℕ). length s.tasks * n) none ∙ mul-zero (length s.tasks) in
          omega (arith, total_split workers s.tasks)

      own_less : 1 ≤ length s.tasks * (workers - 1) → own_total s.tasks < all
      own_less others = omega (arith, total_split workers s.tasks)

  pub waiting : Waiting s workers start schedule
  waiting =
      record {
        stays_free = stays_free;
        until_named = until_named;
        some_advances = some_advances;
        stretches_finish = stretches_finish;
        in_turn_finishes = in_turn_finishes;
        within_budget = within_budget;
        first_bound = first_bound;
      }

  -- ---- d.

  -- an operation finds in the cells that its code reads what the plain run has there
  module _ (w task index cell : ℕ) (makes : made_by s now w ≡ made task index ∷ [])
      (reads : reads_cell (operation_of (numbered s task) index) cell ≡ true) where
    abbrev o : Operation
    o = operation_of (numbered s task) index

    named_by : Declared s (made task index) → names_cell (numbered s task) cell ≡ true
    named_by declared =
        let there : task - 1 < length s.tasks = omega (arith, declared.is_task.0, declared.is_task.1) in
        let keeps = given.keep.each_task (task - 1) there in
        or_either (reads_a o.code && eqb o.a cell) (reads_b o.code && eqb o.b cell) reads
        (λ a.
        subst (λ (c : ℕ). names_cell (numbered s task) c ≡ true) (eqb-true _ _ (and_right (reads_a o.code) _ a))
        (written_named (numbered s task) o.a (keeps.writes index declared.is_operation)))
        (λ b.
        subst (λ (c : ℕ). names_cell (numbered s task) c ≡ true) (eqb-true _ _ (and_right (reads_b o.code) _ b))
        (keeps.reads_named index declared.is_operation (and_left _ (eqb o.b cell) b)))

    found_plain : get_or now.cells cell 0 ≡ get_or (plain_before s start task index) cell 0
    found_plain =
        reads_plain s workers start schedule given w task index cell makes
        (named_by (declared_next s workers start schedule given w (made task index) makes))

-- the same is asked of the first bytes of a schedule
asked_first : (s : Setting) (workers : ℕ) (start schedule : List ℕ) (k : ℕ) → Asked s workers start schedule → Asked s workers start (take k schedule)
asked_first s workers start schedule k given =
    record {
      keep = given.keep;
      modes = given.modes;
      apart = given.apart;
      reads = given.reads;
      names = names_first workers k schedule given.names;
    }

pub reads_the_same : (s : Setting) (workers : ℕ) (start one other : List ℕ) → Asked s workers start one → Asked s workers start other
    → ReadsTheSame s start one other
reads_the_same s workers start one other given given' task index k l reach reach' cell reads =
    found_plain s workers start (take k one) (asked_first s workers start one k given) (get_or one k 0) task index cell reach.makes reads
    ∙ sym (found_plain s workers start (take l other) (asked_first s workers start other l given') (get_or other l 0) task index cell reach'.makes reads)

-- ---- every accepted flow, start and schedule

pub waiting_holds : (file cells schedule : List ℕ) → Given file cells schedule
    → Waiting (setting_of (flow_of file)) (flow_of file).workers cells schedule
waiting_holds file cells schedule given = waiting (setting_of (flow_of file)) (flow_of file).workers cells schedule (asked file cells schedule given)

pub same_reads : (file cells one other : List ℕ) → Given file cells one → Given file cells other
    → ReadsTheSame (setting_of (flow_of file)) cells one other
same_reads file cells one other given given' =
    reads_the_same (setting_of (flow_of file)) (flow_of file).workers cells one other (asked file cells one given) (asked file cells other given')
