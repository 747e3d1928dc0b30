-- An operation finds in every cell that its task names what the plain run has there: the task may go, so every earlier task in conflict is complete and
-- no later one has begun.
use mathlib.Core.Path.{◌≡◌, sym, ap, subst, ◌∙◌}
use mathlib.Core.Bool.{true}
use mathlib.Core.List.{List, [], ◌∷◌}
use Prim.Native.Nat.{ℕ, ◌+◌, ◌-◌}
use native.Mathlib.Omega.{arith}
use lib.ListN.{length, get_or}
use Rattle.layout.specs.Flow.{Operation}
use Rattle.steps.specs.Machine.{Machine}
use Rattle.steps.specs.Step.{Setting, Try, wait_write, wait_reads, operate, end_read, zero_reads, post_write, Stepped}
use Rattle.steps.specs.Run.{run}
use Rattle.steps.specs.History.{Entry, made, next_operation, made_by}
use Rattle.steps.specs.Conflict.{task_at, names_cell}
use Rattle.steps.specs.Demand.{numbered}
use Rattle.steps.specs.Auditor.{plain_before}
use Rattle.steps.proofs.Cells.{ordered, may_go, place_among}
use Rattle.steps.proofs.Complete.{operations_among, operations_made}
use Rattle.steps.proofs.Demand3.{Asked, holds}
use Rattle.steps.proofs.Invariant.{Kept}
use Rattle.steps.proofs.OwnMade.{own_there}
use Rattle.steps.proofs.Places.{facing, Trying, StepView, past, other, held, view}
use Rattle.steps.proofs.Scan.{plain_at}
use Rattle.steps.proofs.Sides.{wait_steps, operation_place}
use Rattle.steps.proofs.History.{adds_own, adds_none_past, adds_none_other}
use Rattle.steps.proofs.Values.{here}

-- no entry is none
some_entry : {e : Entry} → ◌≡◌ {A = List Entry} [] (e ∷ []) → ⊥
some_entry {e} q = omega (arith, ap length q)

-- the step that makes an operation is one at which the worker tries it
pub record Making (s : Setting) (m : Machine) (w task index : ℕ) : Type 0 where
  pub operation : Operation
  pub trying : Trying s m w (operate operation)
  pub task_is : (m.places w).passed + 1 ≡ task
  pub index_is : (m.places w).made - wait_steps (facing s m w) ≡ index

making : (s : Setting) (m : Machine) (w task index : ℕ) → Kept s m → made_by s m w ≡ made task index ∷ [] → Making s m w task index
unfolding next_operation
making s m w task index k e = go (view s m w (k.standing.each_worker w))
  where
    none : made_by s m w ≡ [] → Making s m w task index
    none q = absurd (some_entry (sym q ∙ e))

    first : {x : Entry} → ◌≡◌ {A = List Entry} (x ∷ []) (made task index ∷ []) → x ≡ made task index
    first {x} q = ap (λ (entries : List Entry). get_or entries 0 x) q

    own : (try : Try) → Trying s m w try → Making s m w task index
    own (wait_write c) trying = none (adds_own s m w trying)
    own (wait_reads c) trying = none (adds_own s m w trying)
    own (operate o) trying =
        let q = first (sym (adds_own s m w trying) ∙ e) in
        record { operation = o; trying = trying; task_is = ap (λ (x : Entry). x.task) q; index_is = ap (λ (x : Entry). x.index) q }
    own (end_read c) trying = none (adds_own s m w trying)
    own (zero_reads c) trying = none (adds_own s m w trying)
    own (post_write c) trying = none (adds_own s m w trying)

    go : {r : Stepped} → StepView s m w r → Making s m w task index
    go (past q) = none (adds_none_past s m w q)
    go (other h not_own z) = none (adds_none_other s m w h not_own)
    go (held {try} trying q waits) = own try trying
    go (StepView.made {try} trying q passes) = own try trying

module _ (s : Setting) (workers : ℕ) (start schedule : List ℕ) (asked : Asked s workers start schedule) where
  pub reads_plain : (w task index c : ℕ) → made_by s (run s start schedule).machine w ≡ made task index ∷ []
      → names_cell (numbered s task) c ≡ true
      → get_or (run s start schedule).machine.cells c 0 ≡ get_or (plain_before s start task index) c 0
  unfolding plain_before plain_at
  reads_plain w task index c e named =
      let m : Machine = (run s start schedule).machine in
      let k : Kept s m = (holds s workers start schedule asked).kept in
      let x : Making s m w task index = making s m w task index k e in
      let there : task - 1 ≡ (m.places w).passed = omega (arith, x.task_is) in
      let at = operation_place (facing s m w) (m.places w).made x.trying.here in
      let next : operations_made s.tasks m.places (m.places w).passed ≡ index =
      ap (operations_among (facing s m w)) (own_there s m w _ x.trying) ∙ place_among (facing s m w) (m.places w).made at.0 at.1 ∙ x.index_is in
      here s.does s.tasks start asked.keep (holds s workers start schedule asked).cells (ordered s workers start asked.keep asked.reads m k)
      (may_go s workers start asked.keep asked.reads m k w x.trying) c
      (subst (λ (j : ℕ). names_cell (task_at s.tasks j) c ≡ true) there named)
      ∙ ap (λ (n : ℕ). get_or (plain_at s.does s.tasks start (m.places w).passed n) c 0) next
      ∙ ap (λ (j : ℕ). get_or (plain_at s.does s.tasks start j index) c 0) (sym there)
