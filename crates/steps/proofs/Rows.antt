-- What a worker's private row holds: the counter that registering every access of the tasks before its place gives, and its own access of
-- the cell once that has ended. Going past another's task registers it; ending an own access registers that one; no other step touches the row.
use mathlib.Core.Path.{◌≡◌, refl, sym, ap, ap₂, ◌∙◌}
use mathlib.Core.Bool.{Bool, true, false, cond}
use mathlib.Core.List.{List, ◌∷◌}
use Prim.Native.Nat.{ℕ, suc, ◌+◌, ◌<◌}
use native.Mathlib.Omega.{arith}
use native.Mathlib.Numerals.{add-one}
use borrow.Author.Tests.{eqb-true, eqb-false, eq-eqb, ne_eqb, ltb-false}
use lib.ListN.{length, drop}
use lib.Dec.{eqb, ltb}
use Rattle.layout.specs.Flow.{Task}
use Rattle.layout.specs.Row.{named_once}
use Rattle.steps.specs.Machine.{Counter, Place, counter, place, put}
use Rattle.steps.specs.Step.{Setting, Try, wait_write, wait_reads, operate, end_read, zero_reads, post_write, own_steps, after_read, register_all, moved}
use Rattle.steps.specs.Conflict.{task_at}
use Rattle.steps.proofs.Kind.{Kind, none, read, write, full}
use Rattle.steps.proofs.Naming.{kind_of}
use Rattle.steps.proofs.OnCell.{on, stage, stage_start, stage_end, next_on_lem, next_off, next_step, NextOn, read_waits, read_ends, write_waits, write_waits_reads, write_zeroes, write_posts}
use Rattle.steps.proofs.Registered.{registered_as, registers}
use Rattle.steps.proofs.Protocol.Words.{last_before, sum_before, reads_before}
use Rattle.steps.proofs.Put.{put_here, put_other}

-- what each task does with a cell
abbrev pub kinds : Setting → ℕ → ℕ → Kind
kinds s c j = kind_of (task_at s.tasks j) c

-- the counter that registering the tasks before an index gives
abbrev pub registered_before : Setting → ℕ → ℕ → Counter
registered_before s c j = counter (s.number (last_before (kinds s c) j)) (reads_before (kinds s c) j)

module _ (s : Setting) (c : ℕ) where
  -- one task more
  registered_next : (j : ℕ) → registered_as (kinds s c j) (s.number (suc j)) (registered_before s c j) ≡ registered_before s c (suc j)
  unfolding last_before sum_before
  registered_next j = go (kinds s c j) refl
    where
      go : (k : Kind) → kinds s c j ≡ k → registered_as k (s.number (suc j)) (registered_before s c j) ≡ registered_before s c (suc j)
      go none e = rw e
      go read e = rw e
      go write e = rw e

  unused_next : (j : ℕ) → kinds s c j ≡ none → registered_before s c (suc j) ≡ registered_before s c j
  unfolding last_before sum_before
  unused_next j e = rw e

-- how many tasks' accesses of the cell a worker at a place has registered
abbrev pub up_to : Setting → ℕ → ℕ → Place → ℕ
up_to s c w at =
    cond (eqb (task_at s.tasks at.passed).owner w)
    (cond (eqb (stage (task_at s.tasks at.passed) c at.made) (full (kinds s c at.passed))) (suc at.passed) at.passed)
    at.passed

-- the row of a worker at a place
abbrev pub RowIs : Setting → ℕ → Place → (ℕ → Counter) → Type 0
RowIs s w at row = (c : ℕ) → row c ≡ registered_before s c (up_to s c w at)

-- a kind without steps is none
no_steps : (k : Kind) → 0 ≡ full k → k ≡ none
no_steps none e = refl
no_steps read e = absurd (omega arith)
no_steps write e = absurd (omega arith)

-- a worker that comes to a task has registered those before it
pub row_arrives : (s : Setting) (w passed : ℕ) (row : ℕ → Counter) → ((c : ℕ) → row c ≡ registered_before s c passed)
    → RowIs s w (place passed 0) row
row_arrives s w passed row h c =
    h c ∙ go (eqb (task_at s.tasks passed).owner w) (eqb (stage (task_at s.tasks passed) c 0) (full (kinds s c passed))) refl
  where
    go : (own ended : Bool) → eqb (stage (task_at s.tasks passed) c 0) (full (kinds s c passed)) ≡ ended
        → registered_before s c passed ≡ registered_before s c (cond own (cond ended (suc passed) passed) passed)
    go true true e =
        sym (unused_next s c passed (no_steps _ (sym (stage_start (task_at s.tasks passed) c) ∙ eqb-true _ _ e)))
    go true false e = refl
    go false ended e = refl

lt_ne : {m n : ℕ} → m < n → m ≡ n → ⊥
lt_ne h e = omega arith

-- at another's task, and at an own one
up_other : (s : Setting) (c w : ℕ) (at : Place) → ((task_at s.tasks at.passed).owner ≡ w → ⊥) → up_to s c w at ≡ at.passed
up_other s c w at others = rw (ne_eqb _ _ others)

abbrev up_to_own : Setting → ℕ → ℕ → ℕ → ℕ
up_to_own s c passed made =
    cond (eqb (stage (task_at s.tasks passed) c made) (full (kinds s c passed))) (suc passed) passed

up_own : (s : Setting) (c w : ℕ) (at : Place) → (task_at s.tasks at.passed).owner ≡ w → up_to s c w at ≡ up_to_own s c at.passed at.made
up_own s c w at owns = rw (eq-eqb _ _ owns)

-- ---- another's task is registered

pub row_registers : (s : Setting) (w : ℕ) (at : Place) (row : ℕ → Counter) → ((task_at s.tasks at.passed).owner ≡ w → ⊥)
    → named_once (task_at s.tasks at.passed).accesses ≡ true
    → RowIs s w at row
    → RowIs s w (place (at.passed + 1) 0) (register_all (s.number (at.passed + 1)) (task_at s.tasks at.passed).accesses row)
row_registers s w at row others once h =
    row_arrives s w (at.passed + 1) _
    (λ c. registers (task_at s.tasks at.passed) c once _ row
    ∙ ap₂ (registered_as (kinds s c at.passed)) (ap s.number (add-one at.passed))
    (h c ∙ ap (registered_before s c) (up_other s c w at others))
    ∙ registered_next s c at.passed
    ∙ ap (registered_before s c) (sym (add-one at.passed)))

-- ---- an own step

-- the worker's row after it; the number is the task's
abbrev pub row_after : ℕ → Try → (ℕ → Counter) → ℕ → Counter
row_after number (wait_write d) row = row
row_after number (wait_reads d) row = row
row_after number (operate o) row = row
row_after number (end_read d) row = put row d (after_read (row d))
row_after number (zero_reads d) row = row
row_after number (post_write d) row = put row d (counter number 0)

-- a step on another cell leaves the counter
row_off : (number c : ℕ) (try : Try) (row : ℕ → Counter) → on c try ≡ false → row_after number try row c ≡ row c
row_off number c (wait_write d) row e = refl
row_off number c (wait_reads d) row e = refl
row_off number c (operate o) row e = refl
row_off number c (end_read d) row e = put_other row d _ c (λ q. eqb-false d c e (sym q))
row_off number c (zero_reads d) row e = refl
row_off number c (post_write d) row e = put_other row d _ c (λ q. eqb-false d c e (sym q))

module _ (s : Setting) (w : ℕ) (at : Place) (try : Try) (later : List Try) (row : ℕ → Counter)
    (owns : (task_at s.tasks at.passed).owner ≡ w)
    (here : drop at.made (own_steps (task_at s.tasks at.passed)) ≡ try ∷ later)
    (once : named_once (task_at s.tasks at.passed).accesses ≡ true)
    (was : RowIs s w at row) where
  -- the counter of a cell whose own access has not ended
  pub row_unended : (c : ℕ) → stage (task_at s.tasks at.passed) c at.made < full (kinds s c at.passed)
      → row c ≡ registered_before s c at.passed
  row_unended c h =
      was c ∙ ap (registered_before s c) (up_own s c w at owns ∙ ap (λ (b : Bool). cond b (suc at.passed) at.passed) (ne_eqb _ _ (lt_ne h)))

  -- the access goes on, or it has ended
  goes_on : (c : ℕ) → stage (task_at s.tasks at.passed) c at.made < full (kinds s c at.passed)
      → stage (task_at s.tasks at.passed) c (at.made + 1) < full (kinds s c at.passed)
      → row c ≡ registered_before s c (up_to_own s c at.passed (at.made + 1))
  goes_on c h l =
      row_unended c h ∙ ap (registered_before s c) (sym (ap (λ (b : Bool). cond b (suc at.passed) at.passed) (ne_eqb _ _ (lt_ne l))))

  ends : (c : ℕ) → stage (task_at s.tasks at.passed) c at.made < full (kinds s c at.passed)
      → stage (task_at s.tasks at.passed) c (at.made + 1) ≡ full (kinds s c at.passed)
      → registered_as (kinds s c at.passed) (s.number (at.passed + 1)) (row c) ≡ registered_before s c (up_to_own s c at.passed (at.made + 1))
  ends c h e =
      ap₂ (registered_as (kinds s c at.passed)) (ap s.number (add-one at.passed)) (row_unended c h)
      ∙ registered_next s c at.passed
      ∙ ap (registered_before s c) (sym (ap (λ (b : Bool). cond b (suc at.passed) at.passed) (eq-eqb _ _ e)))

  row_on : (c : ℕ) → on c try ≡ true → row_after (s.number (at.passed + 1)) try row c ≡ registered_before s c (up_to_own s c at.passed (at.made + 1))
  row_on c o = go (next_step (task_at s.tasks at.passed) c once at.made here o)
    where
      task : Task
      task = task_at s.tasks at.passed

      more : stage task c (at.made + 1) ≡ stage task c at.made + 1
      more = next_on_lem task c at.made here o

      go : NextOn (kinds s c at.passed) c (stage task c at.made) try
          → row_after (s.number (at.passed + 1)) try row c ≡ registered_before s c (up_to_own s c at.passed (at.made + 1))
      go (read_waits k n t) = let f : full (kinds s c at.passed) ≡ 2 = ap full k in rw t (goes_on c (omega arith) (omega (arith, more)))
      go (read_ends k n t) =
          let f : full (kinds s c at.passed) ≡ 2 = ap full k in
          rw t (put_here row c _ ∙ ap (λ (kind : Kind). registered_as kind (s.number (at.passed + 1)) (row c)) (sym k) ∙ ends c (omega arith) (omega (arith, more)))
      go (write_waits k n t) = let f : full (kinds s c at.passed) ≡ 4 = ap full k in rw t (goes_on c (omega arith) (omega (arith, more)))
      go (write_waits_reads k n t) = let f : full (kinds s c at.passed) ≡ 4 = ap full k in rw t (goes_on c (omega arith) (omega (arith, more)))
      go (write_zeroes k n t) = let f : full (kinds s c at.passed) ≡ 4 = ap full k in rw t (goes_on c (omega arith) (omega (arith, more)))
      go (write_posts k n t) =
          let f : full (kinds s c at.passed) ≡ 4 = ap full k in
          rw t (put_here row c _ ∙ ap (λ (kind : Kind). registered_as kind (s.number (at.passed + 1)) (row c)) (sym k) ∙ ends c (omega arith) (omega (arith, more)))

  -- the row one own step on, at that task
  row_own : (c : ℕ) → row_after (s.number (at.passed + 1)) try row c ≡ registered_before s c (up_to_own s c at.passed (at.made + 1))
  row_own c = go (on c try) refl
    where
      task : Task
      task = task_at s.tasks at.passed

      go : (o : Bool) → on c try ≡ o
          → row_after (s.number (at.passed + 1)) try row c ≡ registered_before s c (up_to_own s c at.passed (at.made + 1))
      go true o = row_on c o
      go false o =
          row_off _ c try row o ∙ was c
          ∙ ap (registered_before s c)
          (up_own s c w at owns
          ∙ ap (λ (n : ℕ). cond (eqb n (full (kinds s c at.passed))) (suc at.passed) at.passed) (sym (next_off task c at.made here o)))

  -- and at the place to which it takes the worker
  pub row_moves : at.made < length (own_steps (task_at s.tasks at.passed))
      → RowIs s w (moved (task_at s.tasks at.passed) at) (row_after (s.number (at.passed + 1)) try row)
  row_moves unmade = go (ltb (at.made + 1) (length (own_steps (task_at s.tasks at.passed)))) refl
    where
      task : Task
      task = task_at s.tasks at.passed

      go : (t : Bool) → ltb (at.made + 1) (length (own_steps task)) ≡ t
          → RowIs s w (cond t (place at.passed (at.made + 1)) (place (at.passed + 1) 0)) (row_after (s.number (at.passed + 1)) try row)
      go true e = λ c. row_own c ∙ ap (registered_before s c) (sym (up_own s c w (place at.passed (at.made + 1)) owns))
      go false e =
          let last : at.made + 1 ≡ length (own_steps task) = omega (arith, ltb-false (at.made + 1) (length (own_steps task)) e) in
          row_arrives s w (at.passed + 1) _
          (λ c. row_own c
          ∙ ap (registered_before s c)
          (ap (λ (b : Bool). cond b (suc at.passed) at.passed)
          (eq-eqb _ _ (ap (stage task c) last ∙ stage_end task c once))
          ∙ sym (add-one at.passed)))
