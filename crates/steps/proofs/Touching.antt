-- A step that makes an operation leaves in the cells what the operation leaves, whatever they hold: one cell is set, which its task declares written.
-- What it is set to depends on cell a only where the code reads a, and on cell b only where it reads b; a task that keeps the modes declares those readable.
use mathlib.Core.Path.{◌≡◌, refl, sym, ap, ◌∙◌}
use mathlib.Core.Bool.{true}
use mathlib.Core.List.{List, [], ◌∷◌}
use Prim.Native.Nat.{ℕ, ◌<◌, ◌≤◌}
use native.Mathlib.Omega.{arith}
use lib.ListN.{length, get_or, set, length-set, get_or-eq_default}
use lib.Seq.{set_out, get_or-set_same, get_or-set_other}
use Rattle.layout.specs.Flow.{Operation, Task}
use Rattle.steps.specs.Operations.{operated}
use Rattle.steps.specs.Machine.{Machine, with_cells}
use Rattle.steps.specs.Step.{Setting, step}
use Rattle.steps.specs.History.{Entry, made_from, made_by, after_history}
use Rattle.steps.specs.Conflict.{operation_of, ReadsOnlyA, ReadsOnlyB}
use Rattle.steps.specs.Demand.{numbered, Declared, readable, Touches}
use Rattle.steps.proofs.Leaves.{leaves}
use Rattle.steps.proofs.Modes.{keeps_writes, keeps_reads_a, keeps_reads_b}
use Rattle.steps.proofs.OwnMade.{order}
use Rattle.steps.proofs.Places.{PlaceFits}
use Rattle.steps.proofs.Plain.{same_of_a, same_of_b}

-- what two contents of a cell that is set to one value give
pub set_alike : (one other : List ℕ) (cell v v' : ℕ) → length one ≡ length other → v ≡ v'
    → get_or (set one cell v) cell 0 ≡ get_or (set other cell v') cell 0
set_alike one other cell v v' as_long same =
    order cell (length one) inside (λ e. outside (omega arith)) (λ l. outside (omega arith))
  where
    inside : cell < length one → get_or (set one cell v) cell 0 ≡ get_or (set other cell v') cell 0
    inside h = get_or-set_same one cell v 0 h ∙ same ∙ sym (get_or-set_same other cell v' 0 (omega arith))

    none : (cells : List ℕ) (u : ℕ) → length cells ≤ cell → get_or (set cells cell u) cell 0 ≡ 0
    none cells u h = ap (λ (l : List ℕ). get_or l cell 0) (set_out cells cell u h) ∙ get_or-eq_default cells 0 h

    outside : length one ≤ cell → get_or (set one cell v) cell 0 ≡ get_or (set other cell v') cell 0
    outside h = none one v h ∙ sym (none other v' (omega arith))

-- ---- the step

module _ (s : Setting) (m : Machine) (w : ℕ) (stands : PlaceFits s.tasks w (m.places w)) where
  -- which operation a step makes does not depend on what the cells hold
  made_alike : (cells : List ℕ) (tasks : List Task) → made_from (with_cells m cells) w tasks ≡ made_from m w tasks
  unfolding made_from
  made_alike cells [] = refl
  made_alike cells (task ∷ later) = refl

  pub none_touched : made_by s m w ≡ [] → (step s m w).machine.cells ≡ m.cells
  unfolding after_history
  none_touched none = leaves s m w stands ∙ ap (λ (entries : List Entry). after_history s entries m.cells) none

  module _ (reads_a : ReadsOnlyA s.does) (reads-b : ReadsOnlyB s.does) (e : Entry) (makes : made_by s m w ≡ e ∷ []) (declared : Declared s e) where
    abbrev made_here : Operation
    made_here = operation_of (numbered s e.task) e.index

    -- what the step leaves of any cells
    leaves_of : (cells : List ℕ) → (step s (with_cells m cells) w).machine.cells ≡ operated s.does made_here cells
    unfolding after_history
    leaves_of cells =
        leaves s (with_cells m cells) w stands
        ∙ ap (λ (entries : List Entry). after_history s entries cells) (made_alike cells _ ∙ makes)

    -- two contents that agree on the cells that the task declares readable there
    module _ (one other : List ℕ)
        (agree : (c : ℕ) → readable (numbered s e.task) e.index c ≡ true → get_or one c 0 ≡ get_or other c 0) where
      made_same : s.does made_here (get_or one made_here.a 0) (get_or one made_here.b 0)
          ≡ s.does made_here (get_or other made_here.a 0) (get_or other made_here.b 0)
      made_same =
          same_of_a s.does reads_a made_here _ _ _ (λ r. agree made_here.a (keeps_reads_a _ _ _ declared.within_modes r))
          ∙ same_of_b s.does reads-b made_here _ _ _ (λ r. agree made_here.b (keeps_reads_b _ _ _ declared.within_modes r))

    pub touches : Touches s m w e
    touches =
        record {
          cell = made_here.a;
          is_declared = keeps_writes _ _ _ declared.within_modes;
          as_many = ap length (leaves_of m.cells) ∙ length-set m.cells made_here.a _;
          others_stay = λ c other. ap (λ (l : List ℕ). get_or l c 0) (leaves_of m.cells) ∙ get_or-set_other m.cells made_here.a c _ 0 other;
          same_written = λ one other as_long agree.
              ap (λ (l : List ℕ). get_or l made_here.a 0) (leaves_of one)
              ∙ set_alike one other made_here.a _ _ as_long (made_same one other agree)
              ∙ sym (ap (λ (l : List ℕ). get_or l made_here.a 0) (leaves_of other));
        }
