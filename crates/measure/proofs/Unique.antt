-- The contract of the measuring allows one outcome for a file: it says what the answer is, and two things that are equal to a third are equal;
-- and an answer tells the result that it stands for.
use Rattle.std.proofs.Common.{◌≡◌, ℕ, List, Result, Ok, Err, sym, ap, ap₂, ◌∙◌}
use Rattle.layout.specs.Refusal.{refusal}
use Rattle.refusal.specs.declared.Refusal.{Refusal}
use Rattle.refusal.proofs.Unique.{number_positive, refusal_unique}
use Rattle.flow.specs.declared.Flow.{Flow}
use Rattle.flow.proofs.Unique.{flow_unique}
use Rattle.measure.specs.declared.Measured.{Measured}
use Rattle.measure.specs.Answers.{MeasureAnswer, answer_by}
use Rattle.measure.specs.Promises.{MeasurePromise}

pub measure_unique : (file : List ℕ) (r s : MeasureAnswer) → MeasurePromise file r → MeasurePromise file s → r ≡ s
measure_unique file r s p q = p.answer ∙ sym q.answer

-- results with one answer are the same
pub told_by : (r s : Result Measured Refusal) → answer_by r ≡ answer_by s → r ≡ s
told_by (Ok a) (Ok b) e =
    let same : a.flow ≡ b.flow =
    flow_unique a.flow b.flow (ap (λ (m : MeasureAnswer). m.version) e) (ap (λ (m : MeasureAnswer). m.tasks) e)
    (ap (λ (m : MeasureAnswer). m.workers) e)
    (ap (λ (m : MeasureAnswer). m.cells) e) in
    ap₂ (λ (flow : Flow) (total : ℕ). Ok record { flow = flow; total = total }) same (ap (λ (m : MeasureAnswer). m.total) e)
told_by (Ok a) (Err met) e = absurd (number_positive met.rule (sym (ap (λ (m : MeasureAnswer). m.number) e)))
told_by (Err met) (Ok a) e = absurd (number_positive met.rule (ap (λ (m : MeasureAnswer). m.number) e))
told_by (Err met) (Err other) e = ap Err (refusal_unique met other (ap (λ (m : MeasureAnswer). refusal m.number m.place) e))

pub measure_result_unique : (file : List ℕ) (r s : Result Measured Refusal) → MeasurePromise file (answer_by r)
    → MeasurePromise file (answer_by s)
    → r ≡ s
measure_result_unique file r s p q = told_by r s (measure_unique file _ _ p q)
