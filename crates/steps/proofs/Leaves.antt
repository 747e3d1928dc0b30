-- The history is all that the cells have seen: they are what its operations leave, one after another.
use mathlib.Core.Path.{◌≡◌, refl, sym, ap}
use mathlib.Core.List.{List, [], ◌∷◌, ◌++◌}
use Prim.Native.Nat.{ℕ, ◌+◌, ◌-◌}
use native.Mathlib.Omega.{arith}
use Rattle.layout.specs.Flow.{Operation}
use Rattle.steps.specs.Operations.{operated}
use Rattle.steps.specs.Machine.{Machine}
use Rattle.steps.specs.Step.{Setting, Try, wait_write, wait_reads, operate, end_read, zero_reads, post_write, change, Stepped, step}
use Rattle.steps.specs.History.{Entry, next_operation, made_by, after_history}
use Rattle.steps.proofs.Places.{facing, PlaceFits, Trying, after_own, StepView, past, other, held, view, on_write, on_reads}
use Rattle.steps.proofs.Sides.{operation_place}
use Rattle.steps.proofs.History.{adds_own, adds_none_past, adds_none_other}

pub leaves_on : (s : Setting) (before after : List Entry) (cells : List ℕ)
    → after_history s (before ++ after) cells ≡ after_history s after (after_history s before cells)
unfolding after_history
leaves_on s [] after cells = refl
leaves_on s (e ∷ before) after cells = leaves_on s before after _

module _ (s : Setting) (m : Machine) (w : ℕ) where
  -- a step that makes no operation leaves the cells
  quiet : made_by s m w ≡ [] → m.cells ≡ after_history s (made_by s m w) m.cells
  unfolding after_history
  quiet none = ap (λ (entries : List Entry). after_history s entries m.cells) (sym none)

  own_leaves : (try : Try) → Trying s m w try → (after_own s m w try).cells ≡ after_history s (made_by s m w) m.cells
  unfolding change next_operation after_history
  own_leaves (wait_write c) trying = quiet (adds_own s m w trying)
  own_leaves (wait_reads c) trying = quiet (adds_own s m w trying)
  own_leaves (operate o) trying =
      let at = operation_place (facing s m w) (m.places w).made trying.here in
      let back : (m.places w).passed + 1 - 1 ≡ (m.places w).passed = omega arith in
      rw (adds_own s m w trying, back) (ap (λ (op : Operation). operated s.does op m.cells) at.2)
  own_leaves (end_read c) trying = quiet (adds_own s m w trying)
  own_leaves (zero_reads c) trying = quiet (adds_own s m w trying)
  own_leaves (post_write c) trying = quiet (adds_own s m w trying)

  pub leaves : PlaceFits s.tasks w (m.places w) → (step s m w).machine.cells ≡ after_history s (made_by s m w) m.cells
  unfolding next_operation
  leaves stands = go (view s m w stands)
    where
      go : {r : Stepped} → StepView s m w r → r.machine.cells ≡ after_history s (made_by s m w) m.cells
      go (past e) = quiet (adds_none_past s m w e)
      go (other h not_own none) = quiet (adds_none_other s m w h not_own)
      go (held trying e (on_write p)) = quiet (adds_own s m w trying)
      go (held trying e (on_reads p)) = quiet (adds_own s m w trying)
      go (StepView.made {try} trying e passes) = own_leaves try trying
