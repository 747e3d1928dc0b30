-- A declared write is made (02, Q-6): what rule 17 says of an accepted flow's tasks, what a task leaves in a write only cell whatever the cell held, and
-- that this is what is found there later. No operation before a cell's first write reads it, so the contents of a write only cell never enter; and the plain
-- run, which the reader sees, changes a cell only in the tasks that declare it written.
use mathlib.Core.Path.{◌≡◌, refl, sym, ap, subst, ◌∙◌}
use mathlib.Core.Bool.{Bool, true, false, not, ◌||◌, false≢true}
use mathlib.Core.List.{List, [], ◌∷◌}
use Prim.Native.Nat.{ℕ, suc, ◌+◌, ◌-◌, ◌<◌, ◌≤◌}
use native.Mathlib.Nat.{le_refl}
use native.Mathlib.Omega.{arith}
use native.Mathlib.Decide.{le_ind}
use borrow.Author.Tests.{eqb-true, eqb-false}
use lib.ListN.{length, get_or, take, length-set}
use lib.Seq.{take-length, get_or-set_other}
use lib.Dec.{eqb}
use Rattle.layout.specs.Lists.{any}
use Rattle.layout.specs.Flow.{Access, Operation, Task}
use Rattle.layout.specs.Row.{mode_of, may_read, written, keeps_modes, all_keep_modes, modes_sound, writes_made}
use Rattle.layout.specs.File.{flow_of}
use Rattle.layout.proofs.Lists.{and_left, and_right, or_swap}
use Rattle.layout.proofs.Modes.{write_of}
use Rattle.roundtrip.proofs.Theorems.{accepted_sound}
use Rattle.steps.specs.Operations.{Effect, operated}
use Rattle.steps.specs.Plain.{after_operations, after_tasks}
use Rattle.steps.specs.Step.{Setting}
use Rattle.steps.specs.Run.{setting_of}
use Rattle.steps.specs.Conflict.{no_task, task_at, no_operation, declares_written, ReadsOnlyA, ReadsOnlyB}
use Rattle.steps.specs.Demand.{Given, numbered}
use Rattle.steps.specs.Auditor.{plain_before}
use Rattle.steps.specs.Written.{write_only, left_by, NoneBetween, OwnWork, FoundAsLeft, WriteMade}
use Rattle.steps.proofs.Accepted.{asked, accepted_flow, reads_only_a}
use Rattle.steps.proofs.Demand3.{Asked, demand_3}
use Rattle.steps.proofs.Modes.{keeps_reads_a, keeps_reads_b}
use Rattle.steps.proofs.Plain.{same_of_a, same_of_b}
use Rattle.steps.proofs.Reading.{reads_plain}
use Rattle.steps.proofs.Scan.{operations_in, plain_at, plain_cell, plain_next, plain_end, plain_kept}
use Rattle.steps.proofs.Touching.{set_alike}

-- ---- rule 17

-- a cell of mode 2 is written
made_of : (task : Task) (cell : ℕ) → writes_made task ≡ true → write_only task cell ≡ true → written task.operations cell ≡ true
made_of task cell made only =
    ap (λ (two : Bool). not two || written task.operations cell) (sym only) ∙ write_of task.accesses task.operations cell made

-- and so by one of the operations
written_at : (operations : List Operation) (cell : ℕ) → written operations cell ≡ true
    → (i : ℕ) × (i < length operations) × ((get_or operations i no_operation).a ≡ cell)
unfolding written any
written_at [] cell h = absurd (false≢true h)
written_at (o ∷ operations) cell h = go (eqb o.a cell) refl h (written_at operations cell)
  where
    go : (here : Bool) → eqb o.a cell ≡ here → (here || written operations cell) ≡ true
        → (written operations cell ≡ true → (i : ℕ) × (i < length operations) × ((get_or operations i no_operation).a ≡ cell))
        → (i : ℕ) × (i < length (o ∷ operations)) × ((get_or (o ∷ operations) i no_operation).a ≡ cell)
    go true e h rest = (0, omega arith, eqb-true o.a cell e)
    go false e h rest = (suc (rest h).0, omega (arith, (rest h).1), (rest h).2)

-- ---- what a task leaves, whatever its write only cells held

module _ (does : Effect) (reads_a : ReadsOnlyA does) (reads_b : ReadsOnlyB does) (accesses : List Access) where
  -- two contents agree on the cells that may be read after some operations
  abbrev Agree : List Operation → List ℕ → List ℕ → Type 0
  Agree earlier one other = (c : ℕ) → may_read (mode_of accesses c) (written earlier c) ≡ true → get_or one c 0 ≡ get_or other c 0

  -- and so they do after one operation more
  agree_more : (earlier : List Operation) (o : Operation) (one other : List ℕ) → keeps_modes accesses earlier o ≡ true → length one ≡ length other
      → Agree earlier one other
      → Agree (o ∷ earlier) (operated does o one) (operated does o other)
  unfolding written any
  agree_more earlier o one other kept as_long agree c may = go (eqb o.a c) refl may
    where
      same : does o (get_or one o.a 0) (get_or one o.b 0) ≡ does o (get_or other o.a 0) (get_or other o.b 0)
      same =
          same_of_a does reads_a o _ _ _ (λ r. agree o.a (keeps_reads_a accesses earlier o kept r))
          ∙ same_of_b does reads_b o _ _ _ (λ r. agree o.b (keeps_reads_b accesses earlier o kept r))

      apart : eqb o.a c ≡ false → c ≡ o.a → ⊥
      apart e q = eqb-false o.a c e (sym q)

      go : (here : Bool) → eqb o.a c ≡ here → may_read (mode_of accesses c) (here || written earlier c) ≡ true
          → get_or (operated does o one) c 0 ≡ get_or (operated does o other) c 0
      go true e may = rw (sym (eqb-true o.a c e)) (set_alike one other o.a _ _ as_long same)
      go false e may =
          get_or-set_other one o.a c _ 0 (apart e) ∙ agree c may ∙ sym (get_or-set_other other o.a c _ 0 (apart e))

  agree_after : (operations earlier : List Operation) (one other : List ℕ) → all_keep_modes accesses earlier operations ≡ true
      → length one ≡ length other
      → Agree earlier one other
      → (c : ℕ) → may_read (mode_of accesses c) (written operations c || written earlier c) ≡ true
      → get_or (after_operations does operations one) c 0 ≡ get_or (after_operations does operations other) c 0
  unfolding all_keep_modes after_operations written any
  agree_after [] earlier one other keep as_long agree c may = agree c may
  agree_after (o ∷ operations) earlier one other keep as_long agree c may =
      let here = and_left (keeps_modes accesses earlier o) (all_keep_modes accesses (o ∷ earlier) operations) keep in
      let later = and_right (keeps_modes accesses earlier o) (all_keep_modes accesses (o ∷ earlier) operations) keep in
      agree_after operations (o ∷ earlier) (operated does o one) (operated does o other) later
      (length-set one o.a _ ∙ as_long ∙ sym (length-set other o.a _))
      (agree_more earlier o one other here as_long agree) c
      (ap (may_read (mode_of accesses c)) (or_swap (eqb o.a c) (written operations c) (written earlier c)) ∙ may)

own_work : (does : Effect) → ReadsOnlyA does → ReadsOnlyB does → (task : Task) (cell : ℕ) → modes_sound task ≡ true
    → write_only task cell ≡ true
    → written task.operations cell ≡ true
    → OwnWork does task cell
own_work does reads_a reads_b task cell keep only made one other as_long agree =
    agree_after does reads_a reads_b task.accesses task.operations [] one other keep as_long agree cell
    (rw (eqb-true (mode_of task.accesses cell) 2 only, made))

-- ---- what is found in the cell later

-- operations that don't write a cell leave it
unwritten_stays : (does : Effect) (operations : List Operation) (cells : List ℕ) (c : ℕ) → written operations c ≡ false
    → get_or (after_operations does operations cells) c 0 ≡ get_or cells c 0
unfolding after_operations written any
unwritten_stays does [] cells c h = refl
unwritten_stays does (o ∷ operations) cells c h = go (eqb o.a c) refl h (unwritten_stays does operations (operated does o cells) c)
  where
    go : (here : Bool) → eqb o.a c ≡ here → (here || written operations c) ≡ false
        → (written operations c ≡ false
        → get_or (after_operations does operations (operated does o cells)) c 0 ≡ get_or (operated does o cells) c 0)
        → get_or (after_operations does operations (operated does o cells)) c 0 ≡ get_or cells c 0
    go true e h rest = absurd (false≢true (sym h))
    go false e h rest = rest h ∙ get_or-set_other cells o.a c _ 0 (λ q. eqb-false o.a c e (sym q))

module _ (s : Setting) (workers : ℕ) (start schedule : List ℕ) (asked : Asked s workers start schedule) where
  -- the plain run's cell before the task at an index
  abbrev plain : ℕ → ℕ → ℕ
  plain j c = plain_cell s.does s.tasks start j 0 c

  -- it is the same from one task to another where no task from there on declares it written
  stays : (c i j : ℕ) → i ≤ j → j ≤ length s.tasks
      → ((k : ℕ) → i ≤ k → k < j → declares_written (task_at s.tasks k) c ≡ false)
      → plain j c ≡ plain i c
  stays c i =
      le_ind
      (λ (j : ℕ). j ≤ length s.tasks → ((k : ℕ) → i ≤ k → k < j → declares_written (task_at s.tasks k) c ≡ false) → plain j c ≡ plain i c)
      (λ fits none. refl)
      (λ j h before fits none.
      ap (λ (cells : List ℕ). get_or cells c 0) (sym (plain_next s.does s.tasks start j fits))
      ∙ plain_kept s.does s.tasks start asked.keep j (operations_in s.tasks j) c fits (le_refl _) (none j h (omega arith))
      ∙ before (omega arith) (λ k l m. none k l (omega arith)))

  module _ (writer c : ℕ) (some : 1 ≤ writer) (listed : writer ≤ length s.tasks) where
    left : plain writer c ≡ get_or (left_by s start writer) c 0
    unfolding left_by plain_at
    left =
        let there : suc (writer - 1) ≡ writer = omega arith in
        ap (λ (j : ℕ). plain j c) (sym there)
        ∙ ap (λ (cells : List ℕ). get_or cells c 0) (sym (plain_next s.does s.tasks start (writer - 1) (omega arith)))
        ∙ ap (λ (operations : List Operation). get_or (after_operations s.does operations (after_tasks s.does (take (writer - 1) s.tasks) start)) c 0)
        (take-length (numbered s writer).operations)

    -- tasks are numbered from 1
    at_index : (last : ℕ) → NoneBetween s writer last c → (k : ℕ) → writer ≤ k → k < last - 1 → declares_written (task_at s.tasks k) c ≡ false
    at_index last none k l h =
        let back : k + 1 - 1 ≡ k = omega arith in
        subst (λ (j : ℕ). declares_written (task_at s.tasks j) c ≡ false) back (none (k + 1) (omega arith) (omega arith))

    found_as_left : FoundAsLeft s workers start schedule writer c
    unfolding plain_before plain_at after_operations
    found_as_left =
        record {
          by_a_task = λ reader after fits named none w index makes unwritten.
              reads_plain s workers start schedule asked w reader index c makes named
              ∙ unwritten_stays s.does (take index (numbered s reader).operations) _ c unwritten
              ∙ stays c writer (reader - 1) (omega arith) (omega arith) (at_index reader none)
              ∙ left;
          at_the_end = λ none All-past.
              let over : length s.tasks + 1 - 1 ≡ length s.tasks = omega arith in
              ap (λ (cells : List ℕ). get_or cells c 0)
              ((demand_3 s workers start schedule asked).values All-past ∙ sym (plain_end s.does s.tasks start))
              ∙ stays c writer (length s.tasks) listed (le_refl _)
              (subst (λ (n : ℕ). (k : ℕ) → writer ≤ k → k < n → declares_written (task_at s.tasks k) c ≡ false) over (at_index (length s.tasks + 1) none))
              ∙ left;
        }

-- ---- an accepted flow

-- a task of an accepted flow writes each cell that it declares write only, leaves there what doesn't depend on what the cell held, and whoever reads the cell
-- later finds it
pub write_made_lem : (file cells schedule : List ℕ) → Given file cells schedule
    → (writer cell : ℕ) → 1 ≤ writer → writer ≤ length (flow_of file).tasks
    → write_only (numbered (setting_of (flow_of file)) writer) cell ≡ true
    → WriteMade (setting_of (flow_of file)) (flow_of file).workers cells schedule writer cell
write_made_lem file cells schedule given writer cell some listed only =
    let flow : Setting = setting_of (flow_of file) in
    let task : Task = numbered flow writer in
    let sound = (accepted_sound file (flow_of file) (accepted_flow file given.accepted)).each_task (writer - 1) no_task (omega arith) in
    let made = made_of task cell sound.all_written only in
    let at = written_at task.operations cell made in
    let all = asked file cells schedule given in
    record {
      is_written = record { index = at.0; is_operation = at.1; writes = at.2 };
      own_work = own_work flow.does (reads_only_a (flow_of file).version) all.reads task cell sound.modes_kept only made;
      found_as_left = found_as_left flow (flow_of file).workers cells schedule all writer cell some listed;
    }
