-- The history of a run. Every operation that a task has made stands in it. An operation is made only once every earlier task in conflict has made
-- all of its own, so those stand before it.
use mathlib.Core.Path.{◌≡◌, refl, sym, ap, ap₂, subst, ◌∙◌}
use mathlib.Core.Bool.{Bool, true, false, cond}
use mathlib.Core.List.{List, [], ◌∷◌, ◌++◌, append-nil}
use Prim.Native.Nat.{ℕ, suc, ◌+◌, ◌-◌, ◌<◌, ◌≤◌}
use native.Mathlib.Nat.{not-suc-le-zero}
use native.Mathlib.Omega.{arith}
use borrow.Author.Tests.{eqb-true, eq-eqb, ne_eqb}
use lib.ListN.{length, drop, length-append, get_or-append, drop_of_length-le}
use lib.Seq.{drop-cons, get_or-append_seam}
use lib.Dec.{eqb}
use Rattle.layout.specs.Flow.{Operation, Task}
use Rattle.layout.specs.Row.{modes_sound}
use Rattle.steps.specs.Machine.{Machine, fresh}
use Rattle.steps.specs.Step.{Setting, Try, wait_write, wait_reads, operate, end_read, zero_reads, post_write, own_steps, Stepped, step}
use Rattle.steps.specs.History.{Entry, made, next_operation, made_from, made_by}
use Rattle.steps.specs.Conflict.{no_task, task_at, operation_of, Conflict, AllKeep}
use Rattle.steps.specs.Demand.{entry, numbered, Declared, OnlyDeclared, InOrder}
use Rattle.steps.proofs.Cells.{made_operation, made_other, place_among}
use Rattle.steps.proofs.Complete.{operations_among, operations_made, earlier_complete}
use Rattle.steps.proofs.Invariant.{Kept}
use Rattle.steps.proofs.Modes.{keeps_at}
use Rattle.steps.proofs.OwnMade.{made_none, own_there, own_made_past, order}
use Rattle.steps.proofs.Places.{facing, Trying, after_own, on_write, on_reads, StepView, past, other, held, view}
use Rattle.steps.proofs.Sides.{wait_steps, ends_from, operation_place}

-- ---- one entry more

module _ (entries : List Entry) (e : Entry) where
  entry_before : (k : ℕ) → k < length entries → entry (entries ++ (e ∷ [])) k ≡ entry entries k
  entry_before k h = get_or-append entries (e ∷ []) (made 0 0) k h

  entry_last : entry (entries ++ (e ∷ [])) (length entries) ≡ e
  entry_last = get_or-append_seam entries e [] (made 0 0)

  one_longer : length (entries ++ (e ∷ [])) ≡ length entries + 1
  one_longer = length-append entries (e ∷ [])

-- ---- what a step adds to the history

pub adds_own : (s : Setting) (m : Machine) (w : ℕ) {try : Try} → Trying s m w try
    → made_by s m w ≡ next_operation (facing s m w) (m.places w) (try ∷ drop ((m.places w).made + 1) (own_steps (facing s m w)))
unfolding made_from
adds_own s m w trying =
    rw (drop-cons s.tasks (m.places w).passed no_task trying.at_task, eq-eqb (facing s m w).owner w trying.owns, trying.here)

pub adds_none_past : (s : Setting) (m : Machine) (w : ℕ) → (m.places w).passed ≡ length s.tasks → made_by s m w ≡ []
unfolding made_from
adds_none_past s m w e = rw (drop_of_length-le s.tasks {i = (m.places w).passed} (omega arith))

pub adds_none_other : (s : Setting) (m : Machine) (w : ℕ) → (m.places w).passed < length s.tasks → ((facing s m w).owner ≡ w → ⊥) → made_by s m w ≡ []
unfolding made_from
adds_none_other s m w h not_own =
    rw (drop-cons s.tasks (m.places w).passed no_task h, ne_eqb (facing s m w).owner w not_own)

-- every operation made stands in the history
pub record There (s : Setting) (entries : List Entry) (m : Machine) : Type 0 where
  pub stands : (j i : ℕ) → j < length s.tasks → i < operations_made s.tasks m.places j
      → (k : ℕ) × (k < length entries) × (entry entries k ≡ made (j + 1) i)

-- what holds of a history and the machine that it led to
pub record Recorded (s : Setting) (entries : List Entry) (m : Machine) : Type 0 where
  pub there : There s entries m
  pub declared : OnlyDeclared s entries
  pub in_order : InOrder s entries

module _ (s : Setting) (workers cells : ℕ) (keep : AllKeep workers cells s.tasks)
    (modes : (i : ℕ) → i < length s.tasks → modes_sound (task_at s.tasks i) ≡ true) where
  pub recorded_fresh : (start : List ℕ) → Recorded s [] (fresh (s.number 0) start)
  recorded_fresh start =
      record {
        there = record {
          stands = λ j i h l. absurd (omega (arith, made_none (length (own_steps (task_at s.tasks j))) j));
        };
        declared = λ k h. absurd (not-suc-le-zero h);
        in_order = λ earlier later cell a b c d k h. absurd (not-suc-le-zero h);
      }

  -- a step that makes no operation
  recorded_same : (entries : List Entry) (m after : Machine) → Recorded s entries m
      → ((j : ℕ) → operations_made s.tasks after.places j ≡ operations_made s.tasks m.places j)
      → Recorded s (entries ++ []) after
  recorded_same entries m after t same =
      rw append-nil
      (record {
        there = record { stands = λ j i h l. t.there.stands j i h (omega (arith, same j)) };
        declared = t.declared;
        in_order = t.in_order;
      })

  -- a step that makes one
  recorded_more : (entries : List Entry) (m : Machine) (w : ℕ) → Kept s m → Recorded s entries m → {o : Operation} → Trying s m w (operate o)
      → Recorded s (entries ++ (made ((m.places w).passed + 1) ((m.places w).made - wait_steps (facing s m w)) ∷ [])) (after_own s m w (operate o))
  recorded_more entries m w k t {o} trying =
      record { there = record { stands = stands_now }; declared = declared_now; in_order = in_order_now }
    where
      p : ℕ
      p = (m.places w).passed

      task : Task
      task = facing s m w

      index : ℕ
      index = (m.places w).made - wait_steps task

      e : Entry
      e = made (p + 1) index

      now : List Entry
      now = entries ++ (e ∷ [])

      at : (wait_steps task ≤ (m.places w).made) × ((m.places w).made < ends_from task) × (o ≡ operation_of task index)
      at = operation_place task (m.places w).made trying.here

      before : ℕ → ℕ
      before = operations_made s.tasks m.places

      -- the operation is the next of its task
      next : before p ≡ index
      next = ap (operations_among task) (own_there s m w (operate o) trying) ∙ place_among task (m.places w).made at.0 at.1

      back : p + 1 - 1 ≡ p
      back = omega arith

      -- an entry of the longer history
      entry_of : (P : ℕ → Entry → Type 0) → ((i : ℕ) → i < length entries → P i (entry entries i)) → P (length entries) e
          → (i : ℕ) → i < length now → P i (entry now i)
      entry_of P old new i h =
          order i (length entries) (λ l. subst (P i) (sym (entry_before entries e i l)) (old i l))
          (λ q. subst (λ (n : ℕ). P n (entry now n)) (sym q) (subst (P (length entries)) (sym (entry_last entries e)) new))
          (λ l. absurd (omega (arith, one_longer entries e)))

      found : (j i : ℕ) → (n : ℕ) × (n < length entries) × (entry entries n ≡ made (j + 1) i) → (n : ℕ) × (n < length now) × (entry now n ≡ made (j + 1) i)
      found j i old = (old.0, omega (arith, old.1, one_longer entries e), entry_before entries e old.0 old.1 ∙ old.2)

      stands_now : (j i : ℕ) → j < length s.tasks → i < operations_made s.tasks (after_own s m w (operate o)).places j
          → (n : ℕ) × (n < length now) × (entry now n ≡ made (j + 1) i)
      stands_now j i h l = go (eqb j p) refl (rw (made_operation s m w trying j) at l)
        where
          last : j ≡ p → i ≡ before j → (n : ℕ) × (n < length now) × (entry now n ≡ made (j + 1) i)
          last q r = (
            length entries,
            omega (arith, one_longer entries e),
            entry_last entries e ∙ ap₂ made (ap (λ (n : ℕ). n + 1) (sym q)) (sym next ∙ ap before (sym q) ∙ sym r),
          )

          go : (b : Bool) → eqb j p ≡ b → i < cond b (suc (before p)) (before j) → (n : ℕ) × (n < length now) × (entry now n ≡ made (j + 1) i)
          go true q r =
              let same : j ≡ p = eqb-true j p q in
              order i (before j) (λ u. found j i (t.there.stands j i h u)) (last same) (λ u. absurd (omega (arith, ap before same)))
          go false q r = found j i (t.there.stands j i h r)

      new_declared : Declared s e
      new_declared =
          record {
            is_task = (omega arith, omega (arith, trying.at_task));
            is_operation = rw back (omega (arith, at.0, at.1));
            within_modes = rw back (keeps_at task (modes p trying.at_task) index (omega (arith, at.0, at.1)));
          }

      declared_now : OnlyDeclared s now
      declared_now = entry_of (λ i. Declared s) t.declared new_declared

      in_order_now : InOrder s now
      in_order_now earlier later cell some less most conflict =
          entry_of (λ n x. x.task ≡ later → (i : ℕ) → i < length (numbered s earlier).operations
          → (b : ℕ) × (b < n) × (entry now b ≡ made earlier i))
          (λ n h q i l.
          let old = t.in_order earlier later cell some less most conflict n h q i l in
          (old.0, old.1, entry_before entries e old.0 (omega (arith, old.1)) ∙ old.2))
          (λ q i l.
          let up : earlier - 1 + 1 ≡ earlier = omega arith in
          let there_p : later - 1 ≡ p = omega (arith, q) in
          let complete = earlier_complete s workers cells keep m k (earlier - 1) p cell (omega (arith, q)) trying.at_task
          (subst (λ (n : ℕ). Conflict (numbered s earlier) (task_at s.tasks n) cell) there_p conflict)
          (omega (arith, at.0, own_there s m w (operate o) trying)) in
          let old = t.there.stands (earlier - 1) i (omega (arith, q, trying.at_task)) (omega (arith, complete)) in
          (old.0, old.1, entry_before entries e old.0 old.1 ∙ old.2 ∙ ap (λ (n : ℕ). made n i) up))

  -- no operation is added, and as many are made
  quiet : (entries : List Entry) (m after : Machine) (w : ℕ) → Recorded s entries m → made_by s m w ≡ []
      → ((j : ℕ) → operations_made s.tasks after.places j ≡ operations_made s.tasks m.places j)
      → Recorded s (entries ++ made_by s m w) after
  quiet entries m after w t none same = subst (λ (added : List Entry). Recorded s (entries ++ added) after) (sym none) (recorded_same entries m after t same)

  own_recorded : (entries : List Entry) (m : Machine) (w : ℕ) → Kept s m → Recorded s entries m → (try : Try) → Trying s m w try
      → Recorded s (entries ++ made_by s m w) (after_own s m w try)
  unfolding next_operation
  own_recorded entries m w k t (wait_write c) trying = quiet entries m _ w t (adds_own s m w trying) (made_other s m w trying refl)
  own_recorded entries m w k t (wait_reads c) trying = quiet entries m _ w t (adds_own s m w trying) (made_other s m w trying refl)
  own_recorded entries m w k t (operate o) trying =
      subst (λ (added : List Entry). Recorded s (entries ++ added) (after_own s m w (operate o))) (sym (adds_own s m w trying))
      (recorded_more entries m w k t trying)
  own_recorded entries m w k t (end_read c) trying = quiet entries m _ w t (adds_own s m w trying) (made_other s m w trying refl)
  own_recorded entries m w k t (zero_reads c) trying = quiet entries m _ w t (adds_own s m w trying) (made_other s m w trying refl)
  own_recorded entries m w k t (post_write c) trying = quiet entries m _ w t (adds_own s m w trying) (made_other s m w trying refl)

  pub recorded_step : (entries : List Entry) (m : Machine) (w : ℕ) → Kept s m → Recorded s entries m → Recorded s (entries ++ made_by s m w) (step s m w).machine
  unfolding next_operation
  recorded_step entries m w k t = go (view s m w (k.standing.each_worker w))
    where
      go : {r : Stepped} → StepView s m w r → Recorded s (entries ++ made_by s m w) r.machine
      go (past e) = quiet entries m m w t (adds_none_past s m w e) (λ j. refl)
      go (other h not_own none) =
          quiet entries m _ w t (adds_none_other s m w h not_own)
          (λ j. ap (operations_among (task_at s.tasks j)) (own_made_past s.tasks m.places w not_own none j))
      go (held trying e (on_write p)) = quiet entries m m w t (adds_own s m w trying) (λ j. refl)
      go (held trying e (on_reads p)) = quiet entries m m w t (adds_own s m w trying) (λ j. refl)
      go (StepView.made {try} trying e passes) = own_recorded entries m w k t try trying
