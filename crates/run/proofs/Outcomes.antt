-- What a run answers and leaves follows from the answer that its rules give: with a refusal every count is 0 and no cell changes, and
-- with success the counts and the cells are those of the run.
use mathlib.Core.Path.{◌≡◌, sym, ap, ap₂, subst, ◌∙◌}
use mathlib.Core.Bool.{Bool, true, false, cond}
use mathlib.Core.List.{List}
use Prim.Native.Nat.{ℕ, ◌+◌, ◌<◌, ◌≤◌}
use Rattle.std.proofs.Common.{Ok, Err}
use native.Mathlib.Nat.{zero-add}
use native.Mathlib.Omega.{arith}
use borrow.Author.Tests.{ltb-true, le-leb, lt-leb, eq-eqb, ne_eqb}
use lib.ListN.{length, get_or}
use lib.Dec.{eqb, leb, ltb}
use Rattle.layout.specs.Lists.{each}
use Rattle.layout.specs.Flow.{Task, Flow, most_schedule}
use Rattle.layout.specs.Refusal as Rules
use Rattle.layout.specs.Refusal.{success, refusal, unless, or_else, first_at}
use Rattle.layout.specs.File.{file_answer, flow_of, tasks_in}
use Rattle.roundtrip.proofs.NoRefusal.{kept, second_given, none_at, success_at}
use Rattle.roundtrip.proofs.Accepted.{flow_sound}
use Rattle.steps.specs.Operations.{effect}
use Rattle.steps.specs.Plain.{after_tasks}
use Rattle.steps.specs.Run.{Run, Names, setting_of, total}
use Rattle.steps.specs.Held.{Named, named_by}
use Rattle.steps.specs.Answers.{plain_answer, plain_cells, run_answer, ran, told_of, run_told, held_of, run_held, run_cells}
use Rattle.steps.proofs.Total.{total_bound}
use Rattle.refusal.specs.declared.Rule.{Rule}
use Rattle.refusal.specs.declared.Rule.TheVariants.{Start, Schedule}
use Rattle.refusal.specs.declared.Refusal.{Refusal}
use Rattle.refusal.specs.Numbers.{number_of, answer_of}
use Rattle.refusal.proofs.Unique.{number_positive}
use Rattle.file.specs.Answers.{CheckAnswer, answer_by as checked_by}
use Rattle.file.specs.Promises.{CheckPromise}
use Rattle.file.proofs.Order.{first_given}
use Rattle.file.proofs.Outcomes.{file_kept, same_answer, accepted, version_held, tasks_held, workers_held, cells_held}
use Rattle.run.specs.Answers.{plain_is, plain_by, RunAnswer, run_is, run_refused, answer_by}
use Rattle.run.specs.Promises.{PlainPromise, RunPromise, Walked}

-- the number and the place of a refusal by a rule
as_refused : {rule : Rule} {place : ℕ} (met : Refusal) → met.rule ≡ rule → met.place ≡ place → answer_of met ≡ refusal (number_of rule) place
as_refused met rule place = ap₂ (λ (r : Rule) (p : ℕ). refusal (number_of r) p) rule place

-- ---- the plain run

pub plain_refused : (file cells : List ℕ) (met : Refusal) → answer_of met ≡ plain_answer file cells → PlainPromise file cells (plain_by (Err met)) cells
unfolding plain_cells
plain_refused file cells met e =
    record {
      answer = ap plain_is e;
      cells_after =
          sym (ap (λ (b : Bool). cond b (after_tasks (effect (flow_of file).version) (flow_of file).tasks cells) cells)
          (ne_eqb (plain_answer file cells).number 0 (λ none. number_positive met.rule (ap (λ (a : Rules.Answer). a.number) e ∙ none))));
    }

-- a file that is refused is refused by each run
pub file_refused : (file : List ℕ) (met : Refusal) → CheckPromise file (checked_by (Err met)) → (cells : List ℕ) → answer_of met ≡ plain_answer file cells
unfolding plain_answer
file_refused file met promised cells =
    first_given (answer_of met) (file_answer file) _ (same_answer promised) (number_positive met.rule)

module _ {file : List ℕ} {met : CheckAnswer} (promised : CheckPromise file met) (cells : List ℕ) where
  module _ (none : met.number ≡ 0) where
    -- 12: the cells are as many as the flow's, or not
    counted : (b : Bool) → eqb (length cells) (flow_of file).cells ≡ b → refusal (unless b 12) 0 ≡ plain_answer file cells
    unfolding plain_answer
    counted b t =
        sym (second_given (file_answer file) _ (accepted promised none) ∙ ap (λ (kept : Bool). refusal (unless kept 12) 0) t)

    pub cells_refused : (refused : Refusal) → refused.rule ≡ Start → refused.place ≡ 0 → (length cells ≡ met.cells → ⊥)
        → answer_of refused ≡ plain_answer file cells
    cells_refused refused rule place other =
        as_refused refused rule place ∙ counted false (ne_eqb _ _ (λ e. other (e ∙ sym (cells_held promised none))))

    pub cells_kept : length cells ≡ met.cells → success ≡ plain_answer file cells
    cells_kept e = counted true (eq-eqb _ _ (e ∙ cells_held promised none))

    pub plain_done : (after : List ℕ) → length cells ≡ met.cells → after ≡ after_tasks (effect met.version) (tasks_in file met.tasks) cells
        → PlainPromise file cells (plain_by (Ok tt)) after
    unfolding plain_cells
    plain_done after e is =
        record {
          answer = ap plain_is (cells_kept e);
          cells_after =
              is ∙ (λ i. after_tasks (effect (version_held promised none i)) (tasks_held promised none i) cells)
              ∙ ap (λ (a : Rules.Answer). cond (eqb a.number 0) (after_tasks (effect (flow_of file).version) (flow_of file).tasks cells) cells) (cells_kept e);
        }

-- ---- the stepped run

run_zeros : (met : Rules.Answer) (flow : Flow) (after : Run) (steps : List Named) → (met.number ≡ 0 → ⊥)
    → run_refused met ≡ run_is (told_of met flow after) (held_of met steps)
unfolding each
run_zeros met flow after steps some = rw (ne_eqb met.number 0 some)

pub run_refused_lem : (file cells schedule : List ℕ) (met : Refusal) → answer_of met ≡ run_answer file cells schedule
    → RunPromise file cells schedule (answer_by (Err met)) cells
unfolding run_told run_held run_cells
run_refused_lem file cells schedule met e =
    let after : Run = ran file cells schedule in
    let steps : List Named = named_by (setting_of (flow_of file)) cells schedule in
    record {
      answer =
          run_zeros (answer_of met) (flow_of file) after steps (number_positive met.rule)
          ∙ ap (λ (a : Rules.Answer). run_is (told_of a (flow_of file) after) (held_of a steps)) e;
      cells_after =
          sym (ap (λ (b : Bool). cond b after.machine.cells cells) (ne_eqb (number_of met.rule) 0 (number_positive met.rule)))
          ∙ ap (λ (a : Rules.Answer). cond (eqb a.number 0) after.machine.cells cells) e;
      bounded = omega arith;
    }

-- what refuses the plain run refuses the stepped run
pub plain_passed_on : (file cells schedule : List ℕ) (met : Refusal) → answer_of met ≡ plain_answer file cells
    → answer_of met ≡ run_answer file cells schedule
unfolding run_answer
plain_passed_on file cells schedule met e = first_given (answer_of met) (plain_answer file cells) _ e (number_positive met.rule)

-- 14 at the first byte that names no worker
abbrev by_bytes : List ℕ → ℕ → Rules.Answer
by_bytes schedule workers = first_at (λ index. unless (ltb (get_or schedule index 0) workers) 14) 0 (length schedule)

module _ {file : List ℕ} {met : CheckAnswer} (promised : CheckPromise file met) (none : met.number ≡ 0) (cells : List ℕ)
    (sized : length cells ≡ met.cells) (schedule : List ℕ) where
  -- 13: the schedule is short enough, or not
  measured : (b : Bool) → leb (length schedule) most_schedule ≡ b
      → or_else (refusal (unless b 13) 0) (by_bytes schedule met.workers) ≡ run_answer file cells schedule
  unfolding run_answer
  measured b t =
      let rest : ℕ → Rules.Answer = λ workers. or_else (refusal (unless (leb (length schedule) most_schedule) 13) 0) (by_bytes schedule workers) in
      ap (λ (c : Bool). or_else (refusal (unless c 13) 0) (by_bytes schedule met.workers)) (sym t)
      ∙ ap rest (workers_held promised none)
      ∙ sym (second_given (plain_answer file cells) (rest (flow_of file).workers)
      (sym (ap (λ (a : Rules.Answer). a.number) (cells_kept promised cells none sized))))

  pub too_long : (refused : Refusal) → refused.rule ≡ Schedule → refused.place ≡ 0 → most_schedule < length schedule
      → answer_of refused ≡ run_answer file cells schedule
  too_long refused rule place h = as_refused refused rule place ∙ measured false (lt-leb (length schedule) most_schedule h)

  module _ (short : length schedule ≤ most_schedule) where
    pub names_answer : (refused : Refusal) → answer_of refused ≡ by_bytes schedule met.workers → answer_of refused ≡ run_answer file cells schedule
    names_answer refused found = found ∙ measured true (le-leb (length schedule) most_schedule short)

    module _ (found : success ≡ by_bytes schedule met.workers) where
      each_named : (i : ℕ) → i < length schedule → unless (ltb (get_or schedule (0 + i) 0) met.workers) 14 ≡ 0
      each_named =
          none_at (λ index. unless (ltb (get_or schedule index 0) met.workers) 14) 0 (length schedule)
          (sym (ap (λ (a : Rules.Answer). a.number) found))

      pub names : Names met.workers schedule
      names i h =
          ltb-true (get_or schedule i 0) met.workers
          (kept (ltb (get_or schedule i 0) met.workers) 14 0 (omega arith) (rw zero-add at (each_named i h))).0

      succeeds : success ≡ run_answer file cells schedule
      succeeds =
          sym (success_at (λ index. unless (ltb (get_or schedule index 0) met.workers) 14) 0 (length schedule) each_named)
          ∙ measured true (le-leb (length schedule) most_schedule short)

      -- the steps that advance are at most the flow's total
      within_total : (ran file cells schedule).advanced ≤ total (flow_of file)
      within_total =
          let sound = flow_sound file (file_kept file (accepted promised none)) in
          total_bound (setting_of (flow_of file)) (flow_of file).workers (λ i h. (sound.each_task i _ h).owned)
          (λ i h. (sound.each_task i _ h).some_access) cells schedule
          (λ i h. subst (λ (n : ℕ). get_or schedule i 0 < n) (workers_held promised none) (names i h))

      pub run_done : (r : RunAnswer) (after : List ℕ) → Walked met.version (tasks_in file met.tasks) met.workers cells schedule r after
          → RunPromise file cells schedule r after
      unfolding run_told run_held run_cells
      run_done r after steps =
          let flow : Flow = flow_of file in
          let all_named : List Named = named_by (setting_of flow) cells schedule in
          let walked : Walked flow.version flow.tasks flow.workers cells schedule r after =
          subst (λ (workers : ℕ). Walked flow.version flow.tasks workers cells schedule r after) (workers_held promised none)
          (subst (λ (version : ℕ). Walked version flow.tasks met.workers cells schedule r after) (version_held promised none)
          (subst (λ (tasks : List Task). Walked met.version tasks met.workers cells schedule r after) (tasks_held promised none) steps)) in
          record {
            answer =
                walked.answer
                ∙ ap (λ (a : Rules.Answer). run_is (told_of a flow (ran file cells schedule)) (held_of a all_named)) succeeds;
            cells_after =
                walked.cells_after
                ∙ ap (λ (a : Rules.Answer). cond (eqb a.number 0) (ran file cells schedule).machine.cells cells) succeeds;
            bounded = subst (λ (n : ℕ). n ≤ total flow) (sym (ap (λ (a : RunAnswer). a.advanced) walked.answer)) within_total;
          }
