-- Reads grow slowly: an own step adds at most 1 to a counter's reads, and a task of another owner is registered by at most 1 for
-- each of its accesses, so a step adds at most as many as a task has accesses.
use mathlib.Core.Path.{◌≡◌, refl, sym, ap, subst, ◌∙◌}
use mathlib.Core.Bool.{Bool, true, false, cond}
use mathlib.Core.List.{List, [], ◌∷◌}
use Prim.Native.Nat.{ℕ, ◌+◌, ◌<◌, ◌≤◌}
use native.Mathlib.Omega.{arith}
use lib.ListN.{length, get_or, drop}
use lib.Seq.{get_or-drop}
use lib.Dec.{eqb}
use Rattle.layout.specs.Flow.{Access, Task, most_accesses}
use Rattle.layout.specs.Row.{task_of}
use Rattle.layout.specs.File.{row_at, tasks_in}
use Rattle.layout.proofs.Lists.{each-length, each_at}
use Rattle.steps.specs.Operations.{Effect}
use Rattle.steps.specs.Machine.{Counter, Place, Machine, put, counter, place, with_place}
use Rattle.steps.specs.Step.{Try, wait_write, wait_reads, operate, end_read, zero_reads, post_write, writes, Setting, Outcome, outcome, moved, advanced, past_last, write_differs, reads_differ, after_read, registered, register_all, change, attempted, own_steps, own_step, other_step, step_from, step}
use Rattle.arrays.specs.Ready.{Ready}
use Rattle.arrays.specs.Arrays.{ReadsAtMost, setting_in}
use Rattle.arrays.proofs.Places.{access_count, shown_within}

-- a higher limit
pub more_reads : (n k : ℕ) (m : Machine) → n ≤ k → ReadsAtMost n m → ReadsAtMost k m
more_reads n k m h r =
    record {
      shared_reads = λ c. omega (arith, r.shared_reads c);
      private_reads = λ w c. omega (arith, r.private_reads w c);
    }

-- ---- one counter, or one row of them, replaced

put_reads : (limit : ℕ) (row : ℕ → Counter) (cell : ℕ) (now : Counter) → ((c : ℕ) → (row c).reads ≤ limit) → now.reads ≤ limit
    → (c : ℕ) → (put row cell now c).reads ≤ limit
put_reads limit row cell now h l c = elim (eqb c cell) as (λ same. (cond same now (row c)).reads ≤ limit) [ true ↦ l | false ↦ h c ]

put_row_reads : (limit : ℕ) (rows : ℕ → ℕ → Counter) (w : ℕ) (row : ℕ → Counter) → ((v c : ℕ) → (rows v c).reads ≤ limit)
    → ((c : ℕ) → (row c).reads ≤ limit)
    → (v c : ℕ) → (put rows w row v c).reads ≤ limit
put_row_reads limit rows w row h l v c = elim (eqb v w) as (λ same. (cond same row (rows v) c).reads ≤ limit) [ true ↦ l c | false ↦ h v c ]

-- ---- an own step

change_reads : (n : ℕ) (does : Effect) (number : ℕ) (m : Machine) (w : ℕ) (try : Try) → ReadsAtMost n m
    → ReadsAtMost (n + 1) (change does number m w try)
unfolding change
change_reads n does number m w (wait_write c) r = more_reads n (n + 1) m (omega arith) r
change_reads n does number m w (wait_reads c) r = more_reads n (n + 1) m (omega arith) r
change_reads n does number m w (operate o) r =
    let more = more_reads n (n + 1) m (omega arith) r in record { shared_reads = more.shared_reads; private_reads = more.private_reads }
change_reads n does number m w (end_read c) r =
    let more = more_reads n (n + 1) m (omega arith) r in
    record {
      shared_reads = put_reads (n + 1) m.shared c _ more.shared_reads (omega (arith, r.shared_reads c));
      private_reads =
          put_row_reads (n + 1) m.private w _ more.private_reads
          (put_reads (n + 1) (m.private w) c _ (more.private_reads w) (omega (arith, r.private_reads w c)));
    }
change_reads n does number m w (zero_reads c) r =
    let more = more_reads n (n + 1) m (omega arith) r in
    record {
      shared_reads = put_reads (n + 1) m.shared c (counter (m.shared c).last_write 0) more.shared_reads (omega arith);
      private_reads = more.private_reads;
    }
change_reads n does number m w (post_write c) r =
    let more = more_reads n (n + 1) m (omega arith) r in
    record {
      shared_reads = put_reads (n + 1) m.shared c _ more.shared_reads (more.shared_reads c);
      private_reads =
          put_row_reads (n + 1) m.private w _ more.private_reads
          (put_reads (n + 1) (m.private w) c (counter number 0) (more.private_reads w) (omega arith));
    }

moved_reads : (n : ℕ) (m : Machine) (w : ℕ) (now : Place) → ReadsAtMost n m → ReadsAtMost n (with_place m w now)
moved_reads n m w now r = record { shared_reads = r.shared_reads; private_reads = r.private_reads }

attempted_reads : (n : ℕ) (why : Outcome) (before after : Machine) → ReadsAtMost n before → ReadsAtMost n after
    → ReadsAtMost n (attempted why before after).machine
unfolding attempted
attempted_reads n advanced before after r t = t
attempted_reads n past_last before after r t = r
attempted_reads n (write_differs c) before after r t = r
attempted_reads n (reads_differ c) before after r t = r

own_reads : (n : ℕ) (s : Setting) (m : Machine) (w : ℕ) (task : Task) (left : List Try) → ReadsAtMost n m
    → ReadsAtMost (n + 1) (own_step s m w task left).machine
unfolding own_step
own_reads n s m w task [] r = moved_reads (n + 1) m w (place ((m.places w).passed + 1) 0) (more_reads n (n + 1) m (omega arith) r)
own_reads n s m w task (try ∷ later) r =
    attempted_reads (n + 1) (outcome m w try) m _ (more_reads n (n + 1) m (omega arith) r)
    (moved_reads (n + 1) (change s.does (s.number ((m.places w).passed + 1)) m w try) w (moved task (m.places w))
    (change_reads n s.does (s.number ((m.places w).passed + 1)) m w try r))

-- ---- a task of another owner

register_reads : (n number : ℕ) (accesses : List Access) (row : ℕ → Counter) → ((c : ℕ) → (row c).reads ≤ n)
    → (c : ℕ) → (register_all number accesses row c).reads ≤ n + length accesses
unfolding register_all
register_reads n number [] row h c = omega (arith, h c)
register_reads n number (access ∷ accesses) row h c =
    let first : (c : ℕ) → (put row access.cell (registered number access (row access.cell)) c).reads ≤ n + 1 =
    put_reads (n + 1) row access.cell (registered number access (row access.cell)) (λ d. omega (arith, h d)) (go (writes access))
    in
    omega (arith, register_reads (n + 1) number accesses (put row access.cell (registered number access (row access.cell))) first c)
  where
    go : (is_write : Bool) → (cond is_write (counter number 0) (after_read (row access.cell))).reads ≤ n + 1
    go true = omega arith
    go false = omega (arith, h access.cell)

other_reads : (n : ℕ) (s : Setting) (m : Machine) (w : ℕ) (task : Task) → length task.accesses ≤ most_accesses → ReadsAtMost n m
    → ReadsAtMost (n + most_accesses) (other_step s m w task).machine
other_reads n s m w task few r =
    let number : ℕ = s.number ((m.places w).passed + 1) in
    let more = more_reads n (n + most_accesses) m (omega arith) r in
    record {
      shared_reads = more.shared_reads;
      private_reads =
          put_row_reads (n + most_accesses) m.private w (register_all number task.accesses (m.private w)) more.private_reads
          (λ c. omega (arith, register_reads n number task.accesses (m.private w) (r.private_reads w) c));
    }

-- ---- a step

pub step_reads : (n : ℕ) (s : Setting) (m : Machine) (w : ℕ)
    → ((i : ℕ) (none : Task) → i < length s.tasks → length (get_or s.tasks i none).accesses ≤ most_accesses)
    → ReadsAtMost n m
    → ReadsAtMost (n + most_accesses) (step s m w).machine
unfolding step step_from
step_reads n s m w few r = go (drop (m.places w).passed s.tasks) refl
  where
    passed : ℕ
    passed = (m.places w).passed

    tested : (task : Task) (is_owner : Bool) → length task.accesses ≤ most_accesses
        → ReadsAtMost (n + most_accesses) (cond is_owner (own_step s m w task (drop (m.places w).made (own_steps task))) (other_step s m w task)).machine
    tested task true l = more_reads (n + 1) (n + most_accesses) _ (omega arith) (own_reads n s m w task (drop (m.places w).made (own_steps task)) r)
    tested task false l = other_reads n s m w task l r

    go : (left : List Task) → drop passed s.tasks ≡ left → ReadsAtMost (n + most_accesses) (step_from s m w left).machine
    go [] e = more_reads n (n + most_accesses) m (omega arith) r
    go (task ∷ later) e =
        let inside : passed + 0 < length s.tasks = omega (arith, shown_within s.tasks passed task later e) in
        let here : get_or s.tasks (passed + 0) task ≡ task =
        sym (get_or-drop passed s.tasks 0 task) ∙ ap (λ (l : List Task). get_or l 0 task) e
        in
        tested task (eqb task.owner w)
        (subst (λ (t : Task). length t.accesses ≤ most_accesses) here (few (passed + 0) task inside))

-- a step over the tasks of a file
pub file_step_reads : (n : ℕ) (file : List ℕ) (version tasks cells : ℕ) (m : Machine) (w : ℕ) → Ready file tasks cells → ReadsAtMost n m
    → ReadsAtMost (n + most_accesses) (step (setting_in file version tasks) m w).machine
file_step_reads n file version tasks cells m w ready r = step_reads n (setting_in file version tasks) m w few r
  where
    few : (i : ℕ) (none : Task) → i < length (tasks_in file tasks) → length (get_or (tasks_in file tasks) i none).accesses ≤ most_accesses
    few i none h =
        let inside : i < tasks = omega (arith, each-length tasks (λ i. task_of (row_at file (i + 1)))) in
        let row : List ℕ = row_at file (i + 1) in
        let here : get_or (tasks_in file tasks) i none ≡ task_of row = each_at tasks (λ i. task_of (row_at file (i + 1))) i none inside in
        subst (λ (t : Task). length t.accesses ≤ most_accesses) (sym here)
        (omega (arith, access_count row, (ready.rows (i + 1) (omega arith) (omega arith)).few_accesses))
