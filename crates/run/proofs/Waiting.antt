-- How long it can be kept waiting, of the code: the contract says that the answer is that of the steps, and the theorems speak of the same steps. The workers in
-- turn, the total times over, are a schedule that the stepped run takes, since no accepted flow's total is above the largest.
use mathlib.Core.Path.{◌≡◌, refl, sym, ap, subst, ◌∙◌}
use mathlib.Core.Bool.{true}
use mathlib.Core.List.{List, [], ◌∷◌, ◌++◌}
use Prim.Native.Nat.{ℕ, zero, suc, ◌+◌, ◌*◌, ◌≤◌}
use native.Mathlib.Omega.{arith}
use borrow.Author.Tests.{le-leb}
use lib.ListN.{length, take}
use Rattle.layout.specs.Flow.{most_schedule}
use Rattle.layout.specs.File.{file_answer, flow_of}
use Rattle.layout.proofs.Lists.{each-length}
use Rattle.steps.specs.Machine.{Machine}
use Rattle.steps.specs.Step.{Outcome, advanced, past_last, write_differs, reads_differ, step}
use Rattle.steps.specs.Run.{Run, counted, run_from, run, Names, total}
use Rattle.steps.specs.Answers.{run_told}
use Rattle.steps.specs.Demand.{Given}
use Rattle.steps.specs.Turns.{NamedIn, stretches, turn, in_turn}
use Rattle.steps.specs.Waiting.{finished_after, Budget, Waiting}
use Rattle.steps.proofs.Accepted.{asked}
use Rattle.steps.proofs.Along.{fresh_run, from_append}
use Rattle.steps.proofs.Given.{given_accepted}
use Rattle.steps.proofs.Largest.{steps_fit}
use Rattle.steps.proofs.Stretches.{stretches_names, one_turn, turn_is, turns_are}
use Rattle.steps.proofs.Theorems.{holds}
use Rattle.steps.proofs.Waiting.{waiting_holds, count_grows}
use Rattle.run.specs.Answers.{RunAnswer}
use Rattle.run.specs.Promises.{RunPromise}
use Rattle.run.specs.Demand.{flow_in}
use Rattle.run.specs.Waiting.{AllMade, Answers, RunWaiting}
use Rattle.run.proofs.Demand.{told, told_false, told_finished, given, counted_steps, counted_held, advanced_more}

module _ (file cells : List ℕ) (accepted : (file_answer file).number ≡ 0) (start : length cells ≡ (flow_of file).cells) where
  abbrev workers : ℕ
  workers = (flow_of file).workers

  -- a schedule that finishes the run, and is not too long
  all_made : (schedule : List ℕ) → Names workers schedule → length schedule ≤ most_schedule → finished_after (flow_in file) workers cells schedule ≡ true
      → (r : RunAnswer) (after : List ℕ) → RunPromise file cells schedule r after → AllMade file r
  unfolding run_told
  all_made schedule names fits done r after promised =
      let here : Given file cells schedule = record { accepted = accepted; start = start; names = names } in
      let taken : r.number ≡ 0 =
      ap (λ (a : RunAnswer). a.number) promised.answer ∙ given_accepted file cells schedule here (le-leb _ _ fits) in
      record {
        taken = taken;
        is_finished = told_finished file cells schedule r after promised taken ∙ ap told done;
        advanced_is = counted_steps file cells schedule r after promised taken ∙ (holds file cells schedule here).total.exactly.0 done;
      }

  -- the workers in turn, by stretches
  turns_names : Names workers (in_turn (flow_of file))
  turns_names =
      subst (Names workers) (sym (turns_are workers (total (flow_of file))))
      (stretches_names (λ i. one_turn workers) workers (total (flow_of file)) (λ i h. (turn_is workers).stretch))

  none_yet : Names workers []
  none_yet i h = absurd (omega arith)

  -- what needs no schedule
  fresh : Waiting (flow_in file) workers cells []
  fresh = waiting_holds file cells [] (record { accepted = accepted; start = start; names = none_yet })

  -- a worker that makes the count one more has advanced
  free_by_count : (schedule : List ℕ) (w : ℕ) (r s : RunAnswer) → Answers file cells schedule r → Answers file cells (schedule ++ w ∷ []) s
      → s.advanced ≡ r.advanced + 1
      → (step (flow_in file) (run (flow_in file) cells schedule).machine w).outcome ≡ advanced
  unfolding run_from counted
  free_by_count schedule w r s here more counts =
      let before : Run = run (flow_in file) cells schedule in
      let one : (run (flow_in file) cells (schedule ++ w ∷ [])).advanced ≡ before.advanced + 1 =
      sym (counted_steps file cells (schedule ++ w ∷ []) s more.after more.promised more.taken) ∙ counts
      ∙ ap (λ (n : ℕ). n + 1) (counted_steps file cells schedule r here.after here.promised here.taken) in
      only (step (flow_in file) before.machine w).outcome (step (flow_in file) before.machine w).machine
      (sym (ap (λ (a : Run). a.advanced) (from_append (flow_in file) (fresh_run (flow_in file) cells) schedule (w ∷ []))) ∙ one)
    where
      only : (why : Outcome) (m : Machine)
          → (counted (run (flow_in file) cells schedule) why m).advanced ≡ (run (flow_in file) cells schedule).advanced + 1
          → why ≡ advanced
      only advanced m e = refl
      only past_last m e = absurd (omega arith)
      only (write_differs c) m e = absurd (omega arith)
      only (reads_differ c) m e = absurd (omega arith)

  still_free : (schedule : List ℕ) (w other : ℕ) → (other ≡ w → ⊥) → Given file cells schedule
      → (step (flow_in file) (run (flow_in file) cells schedule).machine w).outcome ≡ advanced
      → (step (flow_in file) (run (flow_in file) cells (schedule ++ other ∷ [])).machine w).outcome ≡ advanced
  unfolding run_from
  still_free schedule w other apart here free =
      (waiting_holds file cells schedule here).until_named w free (other ∷ []) none
    where
      none : NamedIn w (other ∷ []) → ⊥
      none (zero, inside, names) = apart names
      none (suc i, inside, names) = omega arith

  pub run_waiting : RunWaiting file cells
  run_waiting =
      record {
        stays_free = λ schedule w other apart r r_named later later_named here named after after_named counts.
            advanced_more file cells (schedule ++ other ∷ []) later later_named after.after after_named.after w after.promised after.taken
            (still_free schedule w other apart (given file cells schedule r here.after here.promised here.taken)
            (free_by_count schedule w r r_named here named counts))
            after_named.promised after_named.taken;
        some_advances = λ schedule stretch r s here unfinished each_one more.
            let grows =
            count_grows (flow_in file) workers cells schedule (asked file cells schedule (given file cells schedule r here.after here.promised here.taken))
            stretch each_one (told_false _ (sym (told_finished file cells schedule r here.after here.promised here.taken) ∙ unfinished)) in
            omega (
              arith,
              grows,
              counted_steps file cells schedule r here.after here.promised here.taken,
              counted_steps file cells (schedule ++ stretch) s more.after more.promised more.taken,
            );
        stretches_finish = λ order each_one fits.
            all_made (stretches order (total (flow_of file))) (stretches_names order workers (total (flow_of file)) each_one) fits
            (fresh.stretches_finish order each_one);
        named_in_turn = all_made (in_turn (flow_of file)) turns_names
            (omega (arith, each-length ((flow_of file).workers * total (flow_of file)) (turn workers), steps_fit file accepted)) fresh.in_turn_finishes;
        within_budget = λ order each_one n many inside r here unfinished.
            let bytes : List ℕ = take n (stretches order many) in
            subst (Budget (flow_in file) workers n) (sym (counted_held file cells bytes r here.after here.promised here.taken))
            (fresh.within_budget order each_one n many inside
            (told_false _ (sym (told_finished file cells bytes r here.after here.promised here.taken) ∙ unfinished)));
      }
