-- The writer's contract allows one outcome for given inputs: it says what the answer and the lent output after are, and two things that
-- are equal to a third are equal. A refusal's number is not that of success, so the answer in 01's terms tells the result.
use Rattle.std.proofs.Common.{◌≡◌, ℕ, List, Result, Ok, Err, sym, ap, ◌∙◌}
use Rattle.layout.specs.Refusal.{refusal}
use Rattle.refusal.specs.declared.Refusal.{Refusal}
use Rattle.refusal.proofs.Unique.{number_positive, refusal_unique}
use Rattle.writer.specs.Answers.{WriteAnswer, answer_by}
use Rattle.writer.specs.Promises.{WritePromise}

pub write_unique : (rows : List ℕ) (version workers cells : ℕ) (out : List ℕ) (r s : WriteAnswer) (r_after s_after : List ℕ)
    → WritePromise rows version workers cells out r r_after
    → WritePromise rows version workers cells out s s_after
    → (r ≡ s) × (r_after ≡ s_after)
write_unique rows version workers cells out r s r_after s_after p q = (p.answer ∙ sym q.answer, p.lent ∙ sym q.lent)

same_result : (r s : Result ℕ Refusal) → answer_by r ≡ answer_by s → r ≡ s
same_result (Ok bytes) (Ok others) e = ap (λ (a : WriteAnswer). Ok a.bytes) e
same_result (Ok bytes) (Err met) e = absurd (number_positive met.rule (sym (ap (λ (a : WriteAnswer). a.number) e)))
same_result (Err met) (Ok bytes) e = absurd (number_positive met.rule (ap (λ (a : WriteAnswer). a.number) e))
same_result (Err met) (Err other) e = ap Err (refusal_unique met other (ap (λ (a : WriteAnswer). refusal a.number a.place) e))

-- the same of what the call returns
pub write_result_unique : (rows : List ℕ) (version workers cells : ℕ) (out : List ℕ) (r s : Result ℕ Refusal) (r_after s_after : List ℕ)
    → WritePromise rows version workers cells out (answer_by r) r_after
    → WritePromise rows version workers cells out (answer_by s) s_after
    → (r ≡ s) × (r_after ≡ s_after)
write_result_unique rows version workers cells out r s r_after s_after p q =
    (same_result r s (p.answer ∙ sym q.answer), p.lent ∙ sym q.lent)
