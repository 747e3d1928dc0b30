-- The reader's contract allows one outcome for given inputs: it says what the answer and the lent rows after are, and two things that
-- are equal to a third are equal; and an answer tells the result that it stands for.
use Rattle.std.proofs.Common.{◌≡◌, ℕ, List, Result, Ok, Err, refl, sym, ap, ◌∙◌}
use Rattle.refusal.specs.declared.Refusal.{Refusal}
use Rattle.flow.specs.declared.Flow.{Flow}
use Rattle.file.specs.Answers as Check
use Rattle.file.proofs.Unique.{told_by}
use Rattle.reader.specs.Answers.{ReadAnswer, answer_by}
use Rattle.reader.specs.Promises.{ReadPromise}

pub read_unique : (file rows : List ℕ) (r s : ReadAnswer) (r_after s_after : List ℕ) → ReadPromise file rows r r_after
    → ReadPromise file rows s s_after
    → (r ≡ s) × (r_after ≡ s_after)
read_unique file rows r s r_after s_after p q = (p.answer ∙ sym q.answer, p.lent ∙ sym q.lent)

-- the check's answer for the same result
abbrev check_by : ReadAnswer → Check.CheckAnswer
check_by a =
    record { number = a.number; place = a.place; tasks = a.tasks; workers = a.workers; cells = a.cells; version = a.version }

same_check : (r : Result Flow Refusal) → Check.answer_by r ≡ check_by (answer_by r)
same_check (Ok flow) = refl
same_check (Err met) = refl

pub result_unique : (file rows : List ℕ) (r s : Result Flow Refusal) (r_after s_after : List ℕ) → ReadPromise file rows (answer_by r) r_after
    → ReadPromise file rows (answer_by s) s_after
    → (r ≡ s) × (r_after ≡ s_after)
result_unique file rows r s r_after s_after p q =
    let same = read_unique file rows _ _ r_after s_after p q in
    (told_by r s (same_check r ∙ ap check_by same.0 ∙ sym (same_check s)), same.1)
