-- Demand 3 of the code: every outcome that the stepped run's contract allows, and that is no refusal, has it. The contract says that the answer
-- and the cells are those of the steps, and the theorems of demand 3 speak of the same steps.
use mathlib.Core.Path.{◌≡◌, refl, sym, ap, ◌∙◌}
use mathlib.Core.Bool.{Bool, true, false, cond}
use mathlib.Core.List.{List, [], ◌∷◌, ◌++◌}
use Prim.Native.Nat.{ℕ, ◌+◌, ◌<◌}
use native.Mathlib.Omega.{arith}
use borrow.Author.Tests.{le-leb, leb-false}
use lib.ListN.{length, length-append}
use lib.Dec.{eqb}
use Rattle.layout.specs.Flow.{most_schedule}
use Rattle.layout.specs.File.{flow_of}
use Rattle.layout.proofs.Lists.{all_fails}
use Rattle.roundtrip.proofs.NoRefusal.{both_zero}
use Rattle.steps.specs.Operations.{effect}
use Rattle.steps.specs.Plain.{after_tasks}
use Rattle.steps.specs.Step.{Outcome, advanced, step}
use Rattle.steps.specs.Run.{Run, counted, run_from, run, finished}
use Rattle.steps.specs.Answers.{plain_answer, plain_cells, run_answer, run_told, run_cells}
use Rattle.steps.specs.Demand.{Given, Demand3}
use Rattle.steps.proofs.Accepted.{reads_only_a}
use Rattle.steps.proofs.Along.{from_append}
use Rattle.steps.proofs.Given.{accepted_given, given_more, given_accepted}
use Rattle.steps.proofs.Theorems.{holds, at_any_point, history_leaves, never_early_at}
use Rattle.run.specs.Answers.{PlainAnswer, RunAnswer}
use Rattle.run.specs.Promises.{PlainPromise, RunPromise}
use Rattle.run.specs.Demand.{flow_in, RunDemand}

-- 1 or 0 for true or false
abbrev pub told : Bool → ℕ
told b = cond b 1 0

told_true : (b : Bool) → told b ≡ 1 → b ≡ true
told_true true e = refl
told_true false e = absurd (omega arith)

pub told_false : (b : Bool) → told b ≡ 0 → b ≡ false
told_false false e = refl
told_false true e = absurd (omega arith)

-- ---- an outcome that is no refusal

module _ (file cells schedule : List ℕ) (r : RunAnswer) (after : List ℕ) (promised : RunPromise file cells schedule r after) (taken : r.number ≡ 0) where
  accepted : (run_answer file cells schedule).number ≡ 0
  unfolding run_told
  accepted = sym (ap (λ (a : RunAnswer). a.number) promised.answer) ∙ taken

  -- a number that is told of an accepted run
  whole : (n : ℕ) → cond (eqb (run_answer file cells schedule).number 0) n 0 ≡ n
  whole n = ap (λ (k : ℕ). cond (eqb k 0) n 0) accepted

  pub counted_steps : r.advanced ≡ (run (flow_in file) cells schedule).advanced
  unfolding run_told
  counted_steps = ap (λ (a : RunAnswer). a.advanced) promised.answer ∙ whole (run (flow_in file) cells schedule).advanced

  pub counted_held : r.held ≡ (run (flow_in file) cells schedule).held
  unfolding run_told
  counted_held = ap (λ (a : RunAnswer). a.held) promised.answer ∙ whole (run (flow_in file) cells schedule).held

  pub told_finished : r.finished ≡ told (finished (flow_of file).workers (flow_of file).tasks (run (flow_in file) cells schedule).machine)
  unfolding run_told
  told_finished = ap (λ (a : RunAnswer). a.finished) promised.answer ∙ whole _

  pub stepped_cells : after ≡ (run (flow_in file) cells schedule).machine.cells
  unfolding run_cells
  stepped_cells =
      promised.cells_after
      ∙ ap (λ (k : ℕ). cond (eqb k 0) (run (flow_in file) cells schedule).machine.cells cells) accepted

  pub given : Given file cells schedule
  given = accepted_given file cells schedule accepted

  demand : Demand3 (flow_in file) (flow_of file).workers cells schedule
  demand = holds file cells schedule given

  plain_taken : (plain_answer file cells).number ≡ 0
  unfolding run_answer
  plain_taken = (both_zero (plain_answer file cells) _ accepted).0

  plain_leaves : (p : PlainAnswer) (p_after : List ℕ) → PlainPromise file cells p p_after → p_after ≡ after_tasks (effect (flow_of file).version) (flow_of file).tasks cells
  unfolding plain_cells
  plain_leaves p p_after plain =
      plain.cells_after
      ∙ ap (λ (k : ℕ). cond (eqb k 0) (after_tasks (effect (flow_of file).version) (flow_of file).tasks cells) cells) plain_taken

  pub is_finished : r.finished ≡ 1 → finished (flow_of file).workers (flow_of file).tasks (run (flow_in file) cells schedule).machine ≡ true
  is_finished e = told_true _ (sym told_finished ∙ e)

  some_left : r.finished ≡ 0
      → (w : ℕ) × (w < (flow_of file).workers) × (((run (flow_in file) cells schedule).machine.places w).passed < length (flow_of file).tasks)
  unfolding finished
  some_left e =
      let left = all_fails _ (flow_of file).workers (λ w. w) (told_false _ (sym told_finished ∙ e)) in
      (left.0, left.1, leb-false _ _ left.2)

-- a worker's byte more is accepted, where there is room for it
taken_more : (file cells schedule : List ℕ) (r s : RunAnswer) (after s_after : List ℕ) (w : ℕ) → RunPromise file cells schedule r after
    → r.number ≡ 0
    → length schedule < most_schedule
    → w < (flow_of file).workers
    → RunPromise file cells (schedule ++ w ∷ []) s s_after
    → s.number ≡ 0
unfolding run_told
taken_more file cells schedule r s after s_after w promised taken room below more =
    ap (λ (a : RunAnswer). a.number) more.answer
    ∙ given_accepted file cells (schedule ++ w ∷ [])
    (given_more file cells schedule w below (given file cells schedule r after promised taken))
    (le-leb (length (schedule ++ w ∷ [])) most_schedule (omega (arith, length-append schedule (w ∷ []))))

-- one step more of a worker whose step advances
pub advanced_more : (file cells schedule : List ℕ) (r s : RunAnswer) (after s_after : List ℕ) (w : ℕ) → RunPromise file cells schedule r after
    → r.number ≡ 0
    → (step (flow_in file) (run (flow_in file) cells schedule).machine w).outcome ≡ advanced
    → RunPromise file cells (schedule ++ w ∷ []) s s_after
    → s.number ≡ 0
    → s.advanced ≡ r.advanced + 1
unfolding run_from counted
advanced_more file cells schedule r s after s_after w promised taken advances more more_taken =
    counted_steps file cells (schedule ++ w ∷ []) s s_after more more_taken
    ∙ ap (λ (a : Run). a.advanced) (from_append (flow_in file) _ schedule (w ∷ []))
    ∙ ap (λ (o : Outcome). (counted (run (flow_in file) cells schedule) o (step (flow_in file) (run (flow_in file) cells schedule).machine w).machine).advanced) advances
    ∙ ap (λ (n : ℕ). n + 1) (sym (counted_steps file cells schedule r after promised taken))

pub run_demand : (file cells schedule : List ℕ) (r : RunAnswer) (after : List ℕ) → RunPromise file cells schedule r after
    → r.number ≡ 0
    → RunDemand file cells schedule r after
run_demand file cells schedule r after promised taken =
    let here : Given file cells schedule = given file cells schedule r after promised taken in
    let three = demand file cells schedule r after promised taken in
    let same = counted_steps file cells schedule r after promised taken in
    let says = told_finished file cells schedule r after promised taken in
    record {
      advanced_are = same;
      cells_are = stepped_cells file cells schedule r after promised taken;
      cells_made = stepped_cells file cells schedule r after promised taken ∙ history_leaves file cells schedule here;
      declared = three.declared;
      touched = λ n. (at_any_point file cells schedule here n).touched (reads_only_a (flow_of file).version);
      in_order = three.in_order;
      progress =
          λ e room.
          let left = some_left file cells schedule r after promised taken e in
          let next = three.progress left.0 left.1 left.2 in (
            next.0,
            next.1,
            λ s s_after more.
                let more_taken : s.number ≡ 0 =
                taken_more file cells schedule r s after s_after next.0 promised taken room next.1 more in
                (more_taken, advanced_more file cells schedule r s after s_after next.0 promised taken next.2 more more_taken),
          );
      at_most = promised.bounded;
      exactly = (
        λ e. same ∙ three.total.exactly.0 (is_finished file cells schedule r after promised taken e),
        λ e. says ∙ ap told (three.total.exactly.1 (sym same ∙ e)),
      );
      values =
          λ e p p_after plain. (
            ap (λ (a : PlainAnswer). a.number) plain.answer ∙ plain_taken file cells schedule r after promised taken,
            stepped_cells file cells schedule r after promised taken
                ∙ three.values (is_finished file cells schedule r after promised taken e)
                ∙ sym (plain_leaves file cells schedule r after promised taken p p_after plain),
          );
      never_early = never_early_at file cells schedule here;
    }
