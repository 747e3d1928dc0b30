-- The check's contract allows one outcome for given inputs: it says what the answer is, and two things that are equal to a third are
-- equal; and an answer tells the result that it stands for.
use Rattle.std.proofs.Common.{◌≡◌, ℕ, List, Result, Ok, Err, sym, ap, ◌∙◌}
use Rattle.layout.specs.Refusal.{refusal}
use Rattle.layout.specs.File.{file_answer}
use Rattle.refusal.specs.declared.Refusal.{Refusal}
use Rattle.refusal.specs.Numbers.{met_by}
use Rattle.refusal.proofs.Unique.{number_positive, refusal_unique, met_unique}
use Rattle.flow.specs.declared.Flow.{Flow}
use Rattle.flow.proofs.Unique.{flow_unique}
use Rattle.file.specs.Answers.{CheckAnswer, answer_by}
use Rattle.file.specs.Promises.{CheckPromise}

pub check_unique : (file : List ℕ) (r s : CheckAnswer) → CheckPromise file r → CheckPromise file s → r ≡ s
check_unique file r s p q = p.answer ∙ sym q.answer

-- results with one answer are the same
pub told_by : (r s : Result Flow Refusal) → answer_by r ≡ answer_by s → r ≡ s
told_by (Ok flow) (Ok other) e =
    ap Ok
    (flow_unique flow other (ap (λ (a : CheckAnswer). a.version) e) (ap (λ (a : CheckAnswer). a.tasks) e)
    (ap (λ (a : CheckAnswer). a.workers) e)
    (ap (λ (a : CheckAnswer). a.cells) e))
told_by (Ok flow) (Err met) e = absurd (number_positive met.rule (sym (ap (λ (a : CheckAnswer). a.number) e)))
told_by (Err met) (Ok flow) e = absurd (number_positive met.rule (ap (λ (a : CheckAnswer). a.number) e))
told_by (Err met) (Err other) e = ap Err (refusal_unique met other (ap (λ (a : CheckAnswer). refusal a.number a.place) e))

pub result_unique : (file : List ℕ) (r s : Result Flow Refusal) → CheckPromise file (answer_by r) → CheckPromise file (answer_by s) → r ≡ s
result_unique file r s p q = told_by r s (check_unique file _ _ p q)

pub accept_unique : (file : List ℕ) (r s : Result (Unit {0}) Refusal) → met_by r ≡ file_answer file → met_by s ≡ file_answer file → r ≡ s
accept_unique file r s p q = met_unique r s (p ∙ sym q)
