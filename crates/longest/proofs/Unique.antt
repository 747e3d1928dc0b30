-- The contract of the worst case allows one outcome for a file: it says what the answer is, and two things that are equal to a third are equal;
-- and an answer tells the result that it stands for.
use Rattle.std.proofs.Common.{◌≡◌, ℕ, List, Result, Ok, Err, sym, ap, ◌∙◌}
use Rattle.layout.specs.Refusal.{refusal}
use Rattle.refusal.specs.declared.Refusal.{Refusal}
use Rattle.refusal.proofs.Unique.{number_positive, refusal_unique}
use Rattle.longest.specs.declared.Longest.{Longest}
use Rattle.longest.specs.Answers.{LongestAnswer, answer_by}
use Rattle.longest.specs.Promises.{WorstCasePromise}

pub worst_case_unique : (file : List ℕ) (r s : LongestAnswer) → WorstCasePromise file r → WorstCasePromise file s → r ≡ s
worst_case_unique file r s p q = p.answer ∙ sym q.answer

-- the figures of an answer
abbrev figures_of : LongestAnswer → Longest
figures_of a = record { total = a.total; stretches = a.stretches; steps = a.steps; held = a.held }

-- results with one answer are the same
told_by : (r s : Result Longest Refusal) → answer_by r ≡ answer_by s → r ≡ s
told_by (Ok a) (Ok b) e = ap (λ (m : LongestAnswer). Ok (figures_of m)) e
told_by (Ok a) (Err met) e = absurd (number_positive met.rule (sym (ap (λ (m : LongestAnswer). m.number) e)))
told_by (Err met) (Ok a) e = absurd (number_positive met.rule (ap (λ (m : LongestAnswer). m.number) e))
told_by (Err met) (Err other) e = ap Err (refusal_unique met other (ap (λ (m : LongestAnswer). refusal m.number m.place) e))

pub worst_case_result_unique : (file : List ℕ) (r s : Result Longest Refusal) → WorstCasePromise file (answer_by r)
    → WorstCasePromise file (answer_by s)
    → r ≡ s
worst_case_result_unique file r s p q = told_by r s (worst_case_unique file _ _ p q)
