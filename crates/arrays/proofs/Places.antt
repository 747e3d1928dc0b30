-- A worker's place as a stage and an index is the place as a count of own steps made: the own steps are laid end to end, the waits
-- of an access being as many as its ends, so what is tried next, and the place after it, follow from adding up.
use mathlib.Core.Path.{◌≡◌, refl, sym, ap, ◌∙◌}
use mathlib.Core.Bool.{Bool, true, false, cond}
use mathlib.Core.List.{List, [], ◌∷◌, ◌++◌, map, append_assoc, append-nil}
use Prim.Native.Nat.{ℕ, zero, suc, ◌+◌, ◌-◌, ◌<◌, ◌≤◌}
use native.Mathlib.Nat.{le_of_suc-le-suc, not-suc-le-zero, add_assoc}
use native.Mathlib.Numerals.{add-one}
use native.Mathlib.Omega.{arith}
use borrow.Author.Tests.{lt-ltb, le-ltb, ltb-true, ltb-false}
use lib.ListN.{length, get_or, drop, length-append, length-drop, length-map}
use lib.Seq.{drop-drop, drop-append-add}
use lib.Dec.{ltb}
use Rattle.layout.specs.Flow.{Access, Operation, Task}
use Rattle.layout.specs.Row.{access_at, operation_at, task_of}
use Rattle.layout.specs.File.{row_at}
use Rattle.layout.proofs.Lists.{each-length, each_at}
use Rattle.layout.proofs.Modes.{each-drop}
use Rattle.steps.specs.Machine.{place}
use Rattle.steps.specs.Step.{Try, wait_write, wait_reads, operate, end_read, zero_reads, post_write, writes, waits, ends, of_each, own_steps, moved}
use Rattle.arrays.specs.declared.Stage.{Stage}
use Rattle.arrays.specs.declared.Stage.TheVariants.{WaitWrite, WaitReads, Operate, End, Post}
use Rattle.arrays.specs.declared.Place.{Place}
use Rattle.arrays.specs.Arrays.{width, width_before, width_of, made_at, made_in, place_at, place_of, try_at, Stands, after_wait, after_end, next_place, Placed}

-- ---- the steps of each access, laid end to end

-- two steps of a write, or one of a read
module _ {A : Type 0} (x y z : A) where
  two_or_one : (is_write : Bool) → length (cond is_write (x ∷ y ∷ []) (z ∷ [])) ≡ cond is_write 2 1
  two_or_one true = refl
  two_or_one false = refl

  first_of : (is_write : Bool) (rest : List A)
      → (later : List A) × (cond is_write (x ∷ y ∷ []) (z ∷ []) ++ rest ≡ cond is_write x z ∷ later)
  first_of true rest = (y ∷ rest, refl)
  first_of false rest = (rest, refl)

  both_of : (is_write : Bool) (rest : List A) → is_write ≡ true → cond is_write (x ∷ y ∷ []) (z ∷ []) ++ rest ≡ x ∷ y ∷ rest
  both_of is_write rest e = ap (λ (b : Bool). cond b (x ∷ y ∷ []) (z ∷ []) ++ rest) e

either_way : {A : Type 0} (x : A) (is_write : Bool) → cond is_write x x ≡ x
either_way x true = refl
either_way x false = refl

-- an access has as many waits as ends
pub as_many_waits : (access : Access) → length (waits access) ≡ width access
as_many_waits access = two_or_one (wait_write access.cell) (wait_reads access.cell) (wait_write access.cell) (writes access)

as_many_ends : (access : Access) → length (ends access) ≡ width access
as_many_ends access = two_or_one (zero_reads access.cell) (post_write access.cell) (end_read access.cell) (writes access)

module _ (steps : Access → List Try) (sized : (access : Access) → length (steps access) ≡ width access) where
  pub steps_length : (accesses : List Access) → length (of_each steps accesses) ≡ width_before accesses (length accesses)
  unfolding of_each width_before
  steps_length [] = refl
  steps_length (access ∷ accesses) =
      length-append (steps access) (of_each steps accesses)
      ∙ (λ i. sized access i + steps_length accesses i)

  -- past the accesses before an index stand the steps of the access at it
  steps_drop : (accesses : List Access) (index : ℕ) (none : Access) (rest : List Try) → index < length accesses
      → drop (width_before accesses index) (of_each steps accesses ++ rest)
      ≡ steps (get_or accesses index none) ++ (of_each steps (drop (suc index) accesses) ++ rest)
  unfolding of_each width_before
  steps_drop [] index none rest h = absurd (not-suc-le-zero h)
  steps_drop (access ∷ accesses) zero none rest h = append_assoc (steps access) (of_each steps accesses) rest
  steps_drop (access ∷ accesses) (suc index) none rest h =
      (λ i. drop (sym (sized access) i + width_before accesses index) (append_assoc (steps access) (of_each steps accesses) rest i))
      ∙ drop-append-add (steps access) (of_each steps accesses ++ rest) (width_before accesses index)
      ∙ steps_drop accesses index none rest (le_of_suc-le-suc h)

width_none : (accesses : List Access) → width_before accesses 0 ≡ 0
unfolding width_before
width_none [] = refl
width_none (access ∷ accesses) = refl

-- one access more
width_more : (accesses : List Access) (index : ℕ) (none : Access) → index < length accesses
    → width_before accesses (suc index) ≡ width_before accesses index + width (get_or accesses index none)
unfolding width_before
width_more [] index none h = absurd (not-suc-le-zero h)
width_more (access ∷ accesses) zero none h = let start = width_none accesses in omega arith
width_more (access ∷ accesses) (suc index) none h = omega (arith, width_more accesses index none (le_of_suc-le-suc h))

-- ---- a list from some index on

module _ {A : Type 0} (l : List A) (k : ℕ) (x : A) (rest : List A) (e : drop k l ≡ x ∷ rest) where
  shown_next : drop (k + 1) l ≡ rest
  shown_next = sym (drop-drop 1 k l) ∙ ap (drop 1) e

  -- what is left shows the element there
  shown : drop k l ≡ x ∷ drop (k + 1) l
  shown = e ∙ ap (λ (t : List A). x ∷ t) (sym shown_next)

  pub shown_within : k < length l
  shown_within = let size : length l - k ≡ suc (length rest) = sym (length-drop k l) ∙ ap length e in omega arith

-- and so it does of what is made of each element
shown_made : {A B : Type 0} (f : A → B) (l : List A) (k : ℕ) (x : A) (rest : List A) (after : List B) → drop k l ≡ x ∷ rest
    → drop k (map f l ++ after) ≡ f x ∷ (map f rest ++ after)
shown_made f l zero x rest after e = rw e
shown_made f [] (suc k) x rest after e = cc
shown_made f (y ∷ l) (suc k) x rest after e = shown_made f l k x rest after e

-- ---- the task that stands in a row

module _ (row : List ℕ) where
  abbrev task : Task
  task = task_of row

  abbrev accesses : List Access
  accesses = task.accesses

  abbrev operations : List Operation
  operations = task.operations

  abbrev own : List Try
  own = own_steps task

  pub access_count : length accesses ≡ get_or row 1 0
  unfolding task_of
  access_count = each-length (get_or row 1 0) (access_at row)

  pub operation_count : length operations ≡ get_or row 2 0
  unfolding task_of
  operation_count = each-length (get_or row 2 0) (operation_at row)

  pub access_there : (index : ℕ) (none : Access) → index < get_or row 1 0 → get_or accesses index none ≡ access_at row index
  unfolding task_of
  access_there index none h = each_at (get_or row 1 0) (access_at row) index none h

  operation_there : (index : ℕ) → index < get_or row 2 0
      → drop index operations ≡ operation_at row index ∷ drop (index + 1) operations
  unfolding task_of
  operation_there index h = each-drop (get_or row 2 0) (operation_at row) index h

  pub width_next : (index : ℕ) (is_write : Bool) → index < get_or row 1 0 → writes (access_at row index) ≡ is_write
      → width_before accesses (index + 1) ≡ width_before accesses index + cond is_write 2 1
  width_next index is_write h t =
      let within : index < length accesses = omega (arith, access_count) in
      ap (width_before accesses) (add-one index)
      ∙ width_more accesses index (access_at row index) within
      ∙ ap (λ (access : Access). width_before accesses index + width access) (access_there index (access_at row index) h)
      ∙ ap (λ (b : Bool). width_before accesses index + cond b 2 1) t

  width_all : width_of task ≡ width_before accesses (get_or row 1 0)
  width_all = ap (width_before accesses) access_count

  -- the own steps past the waits, and past the operations
  past_waits : (k : ℕ) → drop (width_of task + k) own ≡ drop k (map operate operations ++ of_each ends accesses)
  unfolding own_steps
  past_waits k =
      ap (λ (n : ℕ). drop (n + k) own) (sym (steps_length waits as_many_waits accesses))
      ∙ drop-append-add (of_each waits accesses) (map operate operations ++ of_each ends accesses) k

  past_operations : (k : ℕ) → drop (width_of task + length operations + k) own ≡ drop k (of_each ends accesses)
  past_operations k =
      ap (λ (n : ℕ). drop n own) (add_assoc (width_of task) (length operations) k)
      ∙ past_waits (length operations + k)
      ∙ ap (λ (n : ℕ). drop (n + k) (map operate operations ++ of_each ends accesses)) (sym (length-map operations operate))
      ∙ drop-append-add (map operate operations) (of_each ends accesses) k

  all_own_steps : length own ≡ width_of task + length operations + width_of task
  unfolding own_steps
  all_own_steps =
      simp (length-append, length-map, steps_length waits as_many_waits, steps_length ends as_many_ends) (omega arith)

  -- ---- what is tried at a stage and an index

  waits_there : (index : ℕ) → index < get_or row 1 0
      → (rest : List Try) × (drop (width_before accesses index) own ≡ waits (access_at row index) ++ rest)
  unfolding own_steps
  waits_there index h =
      let later : List Try = map operate operations ++ of_each ends accesses in
      let within : index < length accesses = omega (arith, access_count) in
      let rest : List Try = of_each waits (drop (suc index) accesses) ++ later in (
        rest,
        steps_drop waits as_many_waits accesses index (access_at row index) later within
            ∙ ap (λ (access : Access). waits access ++ rest) (access_there index (access_at row index) h),
      )

  operate_there : (index : ℕ) → index < get_or row 2 0
      → (rest : List Try) × (drop (width_of task + index) own ≡ operate (operation_at row index) ∷ rest)
  operate_there index h =
      let later : List Operation = drop (index + 1) operations in (
        map operate later ++ of_each ends accesses,
        past_waits index
            ∙ shown_made operate operations index (operation_at row index) later (of_each ends accesses) (operation_there index h),
      )

  ends_there : (index : ℕ) → index < get_or row 1 0
      → (rest : List Try) × (drop (width_of task + length operations + width_before accesses index) own ≡ ends (access_at row index) ++ rest)
  ends_there index h =
      let within : index < length accesses = omega (arith, access_count) in
      let rest : List Try = of_each ends (drop (suc index) accesses) ++ [] in (
        rest,
        past_operations (width_before accesses index)
            ∙ ap (drop (width_before accesses index)) (sym (append-nil (of_each ends accesses)))
            ∙ steps_drop ends as_many_ends accesses index (access_at row index) [] within
            ∙ ap (λ (access : Access). ends access ++ rest) (access_there index (access_at row index) h),
      )

  try_shown : (stage : Stage) (index : ℕ) → Stands row stage index
      → (rest : List Try) × (drop (made_at task stage index) own ≡ try_at row stage index ∷ rest)
  unfolding Stands made_at try_at
  try_shown WaitWrite index h =
      let cell = (access_at row index).cell in
      let there = waits_there index h in
      let first = first_of (wait_write cell) (wait_reads cell) (wait_write cell) (writes (access_at row index)) there.0 in
      (first.0, there.1 ∙ first.1 ∙ ap (λ (try : Try). try ∷ first.0) (either_way (wait_write cell) (writes (access_at row index))))
  try_shown WaitReads index h =
      let cell = (access_at row index).cell in
      let there = waits_there index h.0 in
      let both = both_of (wait_write cell) (wait_reads cell) (wait_write cell) (writes (access_at row index)) there.0 h.1 in
      (there.0, shown_next own (width_before accesses index) (wait_write cell) (wait_reads cell ∷ there.0) (there.1 ∙ both))
  try_shown Operate index h = operate_there index h
  try_shown End index h =
      let cell = (access_at row index).cell in
      let there = ends_there index h in
      let first = first_of (zero_reads cell) (post_write cell) (end_read cell) (writes (access_at row index)) there.0 in
      (first.0, there.1 ∙ first.1)
  try_shown Post index h =
      let cell = (access_at row index).cell in
      let there = ends_there index h.0 in
      let both = both_of (zero_reads cell) (post_write cell) (end_read cell) (writes (access_at row index)) there.0 h.1 in
      let before : ℕ = width_of task + length operations + width_before accesses index in
      (there.0, shown_next own before (zero_reads cell) (post_write cell ∷ there.0) (there.1 ∙ both))

  -- the own steps that are left begin with it
  pub try_there : (stage : Stage) (index : ℕ) → Stands row stage index
      → drop (made_at task stage index) own ≡ try_at row stage index ∷ drop (made_at task stage index + 1) own
  try_there stage index h =
      shown own (made_at task stage index) (try_at row stage index) (try_shown stage index h).0 (try_shown stage index h).1

  -- fewer of them are made than there are
  made_within : (stage : Stage) (index : ℕ) → Stands row stage index → made_at task stage index < length own
  made_within stage index h =
      shown_within own (made_at task stage index) (try_at row stage index) (try_shown stage index h).0 (try_shown stage index h).1

-- ---- the next place

-- after so many own steps a worker stands in the same task, one own step further, or it has made the task's last
data Next (row : List ℕ) (passed made : ℕ) : Place → Type 0 where
  within : (stage : Stage) (index : ℕ) → Stands row stage index → made_at (task_of row) stage index ≡ made + 1
      → Next row passed made (place_at passed stage index)
  beyond : made + 1 ≡ length (own_steps (task_of row)) → Next row passed made (place_at (passed + 1) WaitWrite 0)

module _ (row : List ℕ) (passed made : ℕ) where
  ends_begin : 1 ≤ get_or row 1 0 → made + 1 ≡ width_of (task_of row) + get_or row 2 0 → Next row passed made (place_at passed End 0)
  unfolding Stands made_at
  ends_begin some e =
      let start = width_none (task_of row).accesses in
      let count = operation_count row in
      within End 0 some (omega arith)

  -- the last wait of an access is made
  after_wait_lem : (index : ℕ) → index < get_or row 1 0 → made + 1 ≡ width_before (task_of row).accesses (index + 1)
      → Next row passed made (after_wait row passed index)
  unfolding Stands made_at
  after_wait_lem index h e = go (ltb (index + 1) (get_or row 1 0)) refl (ltb 0 (get_or row 2 0)) refl
    where
      last : ltb (index + 1) (get_or row 1 0) ≡ false → made + 1 ≡ width_of (task_of row)
      last t =
          let none_left : index + 1 ≡ get_or row 1 0 = omega (arith, ltb-false (index + 1) (get_or row 1 0) t) in
          e ∙ ap (width_before (task_of row).accesses) none_left ∙ sym (width_all row)

      go : (more : Bool) → ltb (index + 1) (get_or row 1 0) ≡ more → (some : Bool) → ltb 0 (get_or row 2 0) ≡ some
          → Next row passed made (cond more (place_at passed WaitWrite (index + 1)) (cond some (place_at passed Operate 0) (place_at passed End 0)))
      go true t some u = within WaitWrite (index + 1) (ltb-true _ _ t) (sym e)
      go false t true u = within Operate 0 (ltb-true _ _ u) (let all_made = last t in omega arith)
      go false t false u = ends_begin (omega arith) (let all_made = last t in omega (arith, ltb-false 0 (get_or row 2 0) u))

  -- an operation is made
  after_operation : (index : ℕ) → 1 ≤ get_or row 1 0 → index < get_or row 2 0 → made ≡ width_of (task_of row) + index
      → Next row passed made (next_place row passed Operate index)
  unfolding Stands made_at next_place
  after_operation index some h e = go (ltb (index + 1) (get_or row 2 0)) refl
    where
      go : (more : Bool) → ltb (index + 1) (get_or row 2 0) ≡ more
          → Next row passed made (cond more (place_at passed Operate (index + 1)) (place_at passed End 0))
      go true t = within Operate (index + 1) (ltb-true _ _ t) (omega arith)
      go false t = ends_begin some (omega (arith, ltb-false (index + 1) (get_or row 2 0) t))

  -- the last end of an access is made
  after_end_lem : (index : ℕ) → index < get_or row 1 0
      → made + 1 ≡ width_of (task_of row) + length (task_of row).operations + width_before (task_of row).accesses (index + 1)
      → Next row passed made (after_end row passed index)
  unfolding Stands made_at
  after_end_lem index h e = go (ltb (index + 1) (get_or row 1 0)) refl
    where
      go : (more : Bool) → ltb (index + 1) (get_or row 1 0) ≡ more
          → Next row passed made (cond more (place_at passed End (index + 1)) (place_at (passed + 1) WaitWrite 0))
      go true t = within End (index + 1) (ltb-true _ _ t) (sym e)
      go false t =
          let none_left : index + 1 ≡ get_or row 1 0 = omega (arith, ltb-false (index + 1) (get_or row 1 0) t) in
          let all_made : width_before (task_of row).accesses (index + 1) ≡ width_of (task_of row) =
          ap (width_before (task_of row).accesses) none_left ∙ sym (width_all row)
          in
          beyond (omega (arith, all_own_steps row))

next_is : (row : List ℕ) (passed : ℕ) (stage : Stage) (index : ℕ) → 1 ≤ get_or row 1 0 → Stands row stage index
    → Next row passed (made_at (task_of row) stage index) (next_place row passed stage index)
unfolding Stands made_at next_place
next_is row passed WaitWrite index some h = go (writes (access_at row index)) refl
  where
    made : ℕ
    made = width_before (task_of row).accesses index

    go : (is_write : Bool) → writes (access_at row index) ≡ is_write
        → Next row passed made (cond is_write (place_at passed WaitReads index) (after_wait row passed index))
    go true t = within WaitReads index (h, t) refl
    go false t = after_wait_lem row passed made index h (omega (arith, width_next row index false h t))
next_is row passed WaitReads index some h =
    after_wait_lem row passed (width_before (task_of row).accesses index + 1) index h.0 (omega (arith, width_next row index true h.0 h.1))
next_is row passed Operate index some h = after_operation row passed (width_of (task_of row) + index) index some h refl
next_is row passed End index some h = go (writes (access_at row index)) refl
  where
    made : ℕ
    made = width_of (task_of row) + length (task_of row).operations + width_before (task_of row).accesses index

    go : (is_write : Bool) → writes (access_at row index) ≡ is_write
        → Next row passed made (cond is_write (place_at passed Post index) (after_end row passed index))
    go true t = within Post index (h, t) refl
    go false t = after_end_lem row passed made index h (omega (arith, width_next row index false h t))
next_is row passed Post index some h =
    after_end_lem row passed (width_of (task_of row) + length (task_of row).operations + width_before (task_of row).accesses index + 1) index h.0
    (omega (arith, width_next row index true h.0 h.1))

-- ---- the next place, as the rules count it

pub none_made : (tasks : List Task) → made_in tasks WaitWrite 0 ≡ 0
unfolding made_in made_at
none_made [] = refl
none_made (task ∷ later) = width_none task.accesses

pub next_there : (row : List ℕ) (passed : ℕ) (stage : Stage) (index : ℕ) (tasks later : List Task) → 1 ≤ get_or row 1 0 → Stands row stage index
    → drop passed tasks ≡ task_of row ∷ later
    → place_of tasks (next_place row passed stage index) ≡ moved (task_of row) (place passed (made_at (task_of row) stage index))
unfolding made_in
next_there row passed stage index tasks later some h e = go (next_place row passed stage index) (next_is row passed stage index some h)
  where
    made : ℕ
    made = made_at (task_of row) stage index

    steps : ℕ
    steps = length (own_steps (task_of row))

    tested : (more : Bool) → ltb (made + 1) steps ≡ more
        → cond more (place passed (made + 1)) (place (passed + 1) 0) ≡ moved (task_of row) (place passed made)
    tested more t = sym (ap (λ (b : Bool). cond b (place passed (made + 1)) (place (passed + 1) 0)) t)

    go : (next : Place) → Next row passed made next → place_of tasks next ≡ moved (task_of row) (place passed made)
    go next (within s i stands is) =
        ap (λ (left : List Task). place passed (made_in left s i)) e ∙ ap (place passed) is
        ∙ tested true (lt-ltb (made + 1) steps (omega (arith, made_within row s i stands)))
    go next (beyond is) =
        ap (place (passed + 1)) (none_made (drop (passed + 1) tasks)) ∙ tested false (le-ltb (made + 1) steps (omega arith))

-- ---- the next place, as one to stand at

-- the place where a task begins
pub begun : (file : List ℕ) (tasks passed : ℕ) → ((task : ℕ) → 1 ≤ task → task ≤ tasks → 1 ≤ get_or (row_at file task) 1 0)
    → Placed file tasks (place_at passed WaitWrite 0)
unfolding Stands
begun file tasks passed some = record { starts = refl; stands = λ left. some (passed + 1) (omega arith) (omega arith) }

-- the worker stands somewhere in the next task, if there is one
pub next_placed : (file : List ℕ) (tasks passed : ℕ) (stage : Stage) (index : ℕ)
    → ((task : ℕ) → 1 ≤ task → task ≤ tasks → 1 ≤ get_or (row_at file task) 1 0)
    → passed < tasks
    → Stands (row_at file (passed + 1)) stage index
    → Placed file tasks (next_place (row_at file (passed + 1)) passed stage index)
next_placed file tasks passed stage index some h stands =
    go (next_place row passed stage index) (next_is row passed stage index (some (passed + 1) (omega arith) (omega arith)) stands)
  where
    row : List ℕ
    row = row_at file (passed + 1)

    made : ℕ
    made = made_at (task_of row) stage index

    go : (next : Place) → Next row passed made next → Placed file tasks next
    go next (within s i there is) = record { starts = refl; stands = λ left. there }
    go next (beyond is) = begun file tasks (passed + 1) some
