-- The cells of a run are those of the values argument: each operation is made when every earlier task in conflict has made all of its own, and no
-- other step touches a cell.
use mathlib.Core.Path.{◌≡◌, refl, sym, ap, subst, fun_ext, ◌∙◌}
use mathlib.Core.Bool.{Bool, true, false, cond}
use mathlib.Core.Logic.{◌⊎◌, inl, inr}
use mathlib.Core.List.{List}
use Prim.Native.Nat.{ℕ, suc, ◌+◌, ◌-◌, ◌<◌, ◌≤◌}
use native.Mathlib.Omega.{arith}
use borrow.Author.Tests.{eqb-true}
use lib.ListN.{length}
use lib.Dec.{eqb}
use Rattle.layout.specs.Flow.{Operation, Task}
use Rattle.steps.specs.Machine.{Machine, fresh}
use Rattle.steps.specs.Operations.{operated}
use Rattle.steps.specs.Step.{Setting, Try, wait_write, wait_reads, operate, end_read, zero_reads, post_write, own_steps, change, Stepped, step}
use Rattle.steps.specs.Conflict.{task_at, operation_of, AllKeep, ReadsOnlyB}
use Rattle.steps.proofs.Complete.{operations_among, operations_made, earlier_complete}
use Rattle.steps.proofs.Invariant.{Kept}
use Rattle.steps.proofs.OwnMade.{own_made, made_none, own_there, own_then, own_made_past}
use Rattle.steps.proofs.Places.{facing, Trying, after_own, StepView, past, other, held, view}
use Rattle.steps.proofs.Sides.{wait_steps, ends_from, operates, operation_place, other_place}
use Rattle.steps.proofs.Values.{Canonical, Ordered, MayGo, one_more, next_operation, canonical_start, one_step}

-- ---- how an own step counts

-- an operation is one more, any other own step none
pub one_among : (task : Task) (k : ℕ) → wait_steps task ≤ k → k < ends_from task → operations_among task (k + 1) ≡ suc (operations_among task k)
one_among task k h l = omega arith

pub place_among : (task : Task) (k : ℕ) → wait_steps task ≤ k → k < ends_from task → operations_among task k ≡ k - wait_steps task
place_among task k h l = omega arith

none_among : (task : Task) → operations_among task 0 ≡ 0
none_among task = omega arith

same_among : (task : Task) (k : ℕ) → (k < wait_steps task) ⊎ (ends_from task ≤ k) → operations_among task (k + 1) ≡ operations_among task k
same_among task k (inl h) = omega arith
same_among task k (inr h) = omega arith

module _ (s : Setting) (m : Machine) (w : ℕ) where
  -- after an own step that is an operation, and after any other
  pub made_operation : {o : Operation} → Trying s m w (operate o) → (j : ℕ)
      → operations_made s.tasks (after_own s m w (operate o)).places j
      ≡ one_more (operations_made s.tasks m.places) (m.places w).passed j
  made_operation {o} trying j = ap (operations_among (task_at s.tasks j)) (own_then s m w (operate o) trying j) ∙ go (eqb j (m.places w).passed) refl
    where
      at : (wait_steps (facing s m w) ≤ (m.places w).made) × ((m.places w).made < ends_from (facing s m w))
          × (o ≡ operation_of (facing s m w) ((m.places w).made - wait_steps (facing s m w)))
      at = operation_place (facing s m w) (m.places w).made trying.here

      go : (t : Bool) → eqb j (m.places w).passed ≡ t
          → operations_among (task_at s.tasks j) (cond t ((m.places w).made + 1) (own_made s.tasks m.places j))
          ≡ cond t (suc (operations_made s.tasks m.places (m.places w).passed)) (operations_made s.tasks m.places j)
      go true e =
          rw (eqb-true j (m.places w).passed e)
          (one_among (facing s m w) (m.places w).made at.0 at.1
          ∙ ap (λ (k : ℕ). suc (operations_among (facing s m w) k)) (sym (own_there s m w (operate o) trying)))
      go false e = refl

  pub made_other : {try : Try} → Trying s m w try → operates try ≡ false → (j : ℕ)
      → operations_made s.tasks (after_own s m w try).places j ≡ operations_made s.tasks m.places j
  made_other {try} trying none j = ap (operations_among (task_at s.tasks j)) (own_then s m w try trying j) ∙ go (eqb j (m.places w).passed) refl
    where
      go : (t : Bool) → eqb j (m.places w).passed ≡ t
          → operations_among (task_at s.tasks j) (cond t ((m.places w).made + 1) (own_made s.tasks m.places j))
          ≡ operations_made s.tasks m.places j
      go true e =
          rw (eqb-true j (m.places w).passed e)
          (same_among (facing s m w) (m.places w).made (other_place (facing s m w) (m.places w).made trying.here none)
          ∙ ap (operations_among (facing s m w)) (sym (own_there s m w try trying)))
      go false e = refl

-- ---- the cells

module _ (s : Setting) (workers : ℕ) (start : List ℕ) (keep : AllKeep workers (length start) s.tasks) (reads : ReadsOnlyB s.does) where
  -- the cells after so many operations of each task
  abbrev pub CellsKept : Machine → Type 0
  CellsKept m = Canonical s.does s.tasks start (operations_made s.tasks m.places) m.cells

  -- a task that has begun, or may, finds the earlier ones in conflict complete
  pub ordered : (m : Machine) → Kept s m → Ordered s.tasks (operations_made s.tasks m.places)
  ordered m k =
      record { earlier = λ j h begun i c l conflict. earlier_complete s workers (length start) keep m k i j c l h conflict (omega arith) }

  pub may_go : (m : Machine) → Kept s m → (w : ℕ) {o : Operation} → Trying s m w (operate o)
      → MayGo s.tasks (operations_made s.tasks m.places) (m.places w).passed
  may_go m k w {o} trying =
      let at = operation_place (facing s m w) (m.places w).made trying.here in
      let there = own_there s m w (operate o) trying in
      record {
        listed = trying.at_task;
        unfinished = omega (arith, at.0, at.1, there);
        earlier = λ i c l conflict.
            earlier_complete s workers (length start) keep m k i (m.places w).passed c l trying.at_task conflict (omega (arith, at.0, there));
      }

  -- the operation made is the task's next
  pub next_made : (m : Machine) (w : ℕ) {o : Operation} → Trying s m w (operate o)
      → next_operation s.tasks (operations_made s.tasks m.places) (m.places w).passed ≡ o
  next_made m w {o} trying =
      let at = operation_place (facing s m w) (m.places w).made trying.here in
      ap (λ (k : ℕ). operation_of (facing s m w) (operations_among (facing s m w) k)) (own_there s m w (operate o) trying)
      ∙ ap (operation_of (facing s m w)) (place_among (facing s m w) (m.places w).made at.0 at.1)
      ∙ sym at.2

  pub cells_fresh : CellsKept (fresh (s.number 0) start)
  cells_fresh =
      subst (λ (q : ℕ → ℕ). Canonical s.does s.tasks start q start)
      (fun_ext (λ (j : ℕ). sym (ap (operations_among (task_at s.tasks j)) (made_none (length (own_steps (task_at s.tasks j))) j) ∙ none_among (task_at s.tasks j))))
      (canonical_start s.does s.tasks start)

  abbrev after_cells : Machine → (ℕ → ℕ) → Type 0
  after_cells m made = Canonical s.does s.tasks start made m.cells

  own_cells : (m : Machine) (w : ℕ) → Kept s m → CellsKept m → (try : Try) → Trying s m w try → CellsKept (after_own s m w try)
  unfolding change
  own_cells m w k before (wait_write c) trying = subst (after_cells m) (sym (fun_ext (made_other s m w trying refl))) before
  own_cells m w k before (wait_reads c) trying = subst (after_cells m) (sym (fun_ext (made_other s m w trying refl))) before
  own_cells m w k before (operate o) trying =
      subst (λ (made : ℕ → ℕ). Canonical s.does s.tasks start made (operated s.does o m.cells)) (sym (fun_ext (made_operation s m w trying)))
      (subst (λ (op : Operation). Canonical s.does s.tasks start (one_more (operations_made s.tasks m.places) (m.places w).passed) (operated s.does op m.cells))
      (next_made m w trying)
      (one_step s.does s.tasks start keep before (ordered m k) (may_go m k w trying) reads))
  own_cells m w k before (end_read c) trying = subst (after_cells m) (sym (fun_ext (made_other s m w trying refl))) before
  own_cells m w k before (zero_reads c) trying = subst (after_cells m) (sym (fun_ext (made_other s m w trying refl))) before
  own_cells m w k before (post_write c) trying = subst (after_cells m) (sym (fun_ext (made_other s m w trying refl))) before

  pub cells_step : (m : Machine) (w : ℕ) → Kept s m → CellsKept m → CellsKept (step s m w).machine
  cells_step m w k before = go (view s m w (k.standing.each_worker w))
    where
      go : {r : Stepped} → StepView s m w r → CellsKept r.machine
      go (past e) = before
      go (other h not_own none) =
          subst (after_cells m)
          (sym (fun_ext (λ (j : ℕ). ap (operations_among (task_at s.tasks j)) (own_made_past s.tasks m.places w not_own none j)))) before
      go (held trying e waits) = before
      go (StepView.made {try} trying e passes) = own_cells m w k before try trying
