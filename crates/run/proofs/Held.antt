-- Why a worker was held, of the code: every outcome that the stepped run's contract allows has it. The contract says that the numbers are those of the
-- steps that the schedule names, and the theorems of the rules say which bytes those are.
use mathlib.Core.Path.{◌≡◌, refl, sym, ap, ◌∙◌}
use mathlib.Core.Bool.{Bool, true, false, cond}
use mathlib.Core.List.{List}
use Prim.Native.Nat.{ℕ, ◌+◌, ◌<◌, ◌≤◌}
use native.Mathlib.Omega.{arith}
use borrow.Author.Tests.{eqb-true, eq-eqb, ne_eqb}
use lib.ListN.{get_or}
use lib.Dec.{eqb}
use Rattle.layout.specs.Lists.{each}
use Rattle.layout.specs.Flow.{most_workers}
use Rattle.layout.specs.Refusal.{Answer}
use Rattle.layout.specs.File.{flow_of, told}
use Rattle.layout.proofs.Lists.{each_at}
use Rattle.steps.specs.Step.{Outcome, advanced}
use Rattle.steps.specs.Run.{run}
use Rattle.steps.specs.Held.{reason_of, cell_of, Named, named_by, held_for, latest_of, WhyHeld}
use Rattle.steps.specs.Answers.{run_answer, run_told, run_held}
use Rattle.steps.proofs.Given.{accepted_given}
use Rattle.steps.proofs.Held.{why_held}
use Rattle.run.specs.Answers.{RunAnswer}
use Rattle.run.specs.Promises.{RunPromise}
use Rattle.run.specs.Demand.{flow_in}
use Rattle.run.specs.Held.{Says, NoneHeld, RunHeld}

-- numbers that add up do so where they are told, and where all are 0
told_sum : (t : Bool) (a b c sum : ℕ) → a + b + c ≡ sum → cond t a 0 + cond t b 0 + cond t c 0 ≡ cond t sum 0
told_sum true a b c sum e = e
told_sum false a b c sum e = refl

module _ (file cells schedule : List ℕ) (r : RunAnswer) (after : List ℕ) (promised : RunPromise file cells schedule r after) where
  abbrev met : Answer
  met = run_answer file cells schedule

  abbrev steps : List Named
  steps = named_by (flow_in file) cells schedule

  rules : WhyHeld (flow_in file) cells schedule
  rules = why_held (flow_in file) cells schedule

  number_is : r.number ≡ met.number
  unfolding run_told
  number_is = ap (λ (a : RunAnswer). a.number) promised.answer

  adds_up : r.past_last + r.write_differs + r.reads_differ ≡ r.held
  unfolding run_told run_held
  adds_up =
      ap (λ (a : RunAnswer). a.past_last + a.write_differs + a.reads_differ) promised.answer
      ∙ told_sum (eqb met.number 0) (held_for 1 steps) (held_for 2 steps) (held_for 3 steps) (run (flow_in file) cells schedule).held rules.adds_up
      ∙ sym (ap (λ (a : RunAnswer). a.held) promised.answer)

  -- ---- a worker's numbers

  module _ (w : ℕ) (h : w < most_workers) where
    reason_told : get_or r.reasons w 0 ≡ told met (reason_of (latest_of w steps))
    unfolding run_held
    reason_told =
        ap (λ (a : RunAnswer). get_or a.reasons w 0) promised.answer
        ∙ each_at most_workers (λ v. told met (reason_of (latest_of v steps))) w 0 h

    cell_told : get_or r.cells w 0 ≡ told met (cell_of (latest_of w steps))
    unfolding run_held
    cell_told =
        ap (λ (a : RunAnswer). get_or a.cells w 0) promised.answer
        ∙ each_at most_workers (λ v. told met (cell_of (latest_of v steps))) w 0 h

    -- they are those of an outcome, where that is told
    says : (why : Outcome) → latest_of w steps ≡ why → met.number ≡ 0 → Says r w why
    says why e none =
        let given : (n : ℕ) → told met n ≡ n = λ n. ap (λ (b : Bool). cond b n 0) (eq-eqb met.number 0 none) in
        record {
          reason_is = reason_told ∙ given (reason_of (latest_of w steps)) ∙ ap reason_of e;
          cell_is = cell_told ∙ given (cell_of (latest_of w steps)) ∙ ap cell_of e;
        }

    not_there : (flow_of file).workers ≤ w → (get_or r.reasons w 0 ≡ 0) × (get_or r.cells w 0 ≡ 0)
    not_there beyond = go (eqb met.number 0) refl
      where
        go : (t : Bool) → eqb met.number 0 ≡ t → (get_or r.reasons w 0 ≡ 0) × (get_or r.cells w 0 ≡ 0)
        go true e =
            let accepted : met.number ≡ 0 = eqb-true _ _ e in
            let names = (accepted_given file cells schedule accepted).names in
            let said = says advanced (rules.unnamed w (λ k inside at. omega (arith, names k inside))) accepted in
            (said.reason_is, said.cell_is)
        go false e = (
          reason_told ∙ ap (λ (b : Bool). cond b (reason_of (latest_of w steps)) 0) e,
          cell_told ∙ ap (λ (b : Bool). cond b (cell_of (latest_of w steps)) 0) e,
        )

  refused : (r.number ≡ 0 → ⊥) → NoneHeld r
  unfolding each run_held
  refused some =
      let e : eqb met.number 0 ≡ false = ne_eqb met.number 0 (λ none. some (number_is ∙ none)) in
      record {
        counts = (
          ap (λ (a : RunAnswer). a.past_last) promised.answer ∙ ap (λ (b : Bool). cond b (held_for 1 steps) 0) e,
          ap (λ (a : RunAnswer). a.write_differs) promised.answer ∙ ap (λ (b : Bool). cond b (held_for 2 steps) 0) e,
          ap (λ (a : RunAnswer). a.reads_differ) promised.answer ∙ ap (λ (b : Bool). cond b (held_for 3 steps) 0) e,
        );
        latest = (
          ap (λ (a : RunAnswer). a.reasons) promised.answer
              ∙ ap (λ (b : Bool). each most_workers (λ w. cond b (reason_of (latest_of w steps)) 0)) e,
          ap (λ (a : RunAnswer). a.cells) promised.answer
              ∙ ap (λ (b : Bool). each most_workers (λ w. cond b (cell_of (latest_of w steps)) 0)) e,
        );
      }

  pub run_held_lem : RunHeld file cells schedule r
  run_held_lem =
      record {
        adds_up = adds_up;
        latest = λ taken w h. (latest_of w steps, rules.latest w, says w h (latest_of w steps) refl (sym number_is ∙ taken));
        not_there = λ w beyond h. not_there w h beyond;
        refused = refused;
        number_is = ap (λ (a : RunAnswer). a.number) promised.answer;
        place_is = ap (λ (a : RunAnswer). a.place) promised.answer;
        advanced_is = ap (λ (a : RunAnswer). a.advanced) promised.answer;
        held_is = ap (λ (a : RunAnswer). a.held) promised.answer;
        done_is = ap (λ (a : RunAnswer). a.done) promised.answer;
        finished_is = ap (λ (a : RunAnswer). a.finished) promised.answer;
      }
