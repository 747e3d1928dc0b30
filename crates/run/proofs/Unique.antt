-- Each run's contract allows one outcome for given inputs: it says what the answer and the cells after are, and two things that are equal
-- to a third are equal; and an answer tells the result that it stands for.
use Rattle.std.proofs.Common.{◌≡◌, ℕ, List, [], ◌∷◌, Bool, true, false, cond, map, Option, Some, None, Result, Ok, Err, refl, sym, ap, ◌∙◌}
use Rattle.layout.specs.Refusal.{refusal}
use Rattle.refusal.specs.declared.Refusal.{Refusal}
use Rattle.refusal.proofs.Unique.{number_positive, refusal_unique, met_unique}
use Rattle.machine.specs.declared.Held.{Held}
use Rattle.machine.specs.declared.Held.TheVariants.{PastLast, WriteDiffers, ReadsDiffer}
use Rattle.notes.specs.Noted.{reason_in, cell_in}
use Rattle.run.specs.declared.Ran.{Ran}
use Rattle.run.specs.Answers.{PlainAnswer, plain_by, RunAnswer, answer_by}
use Rattle.run.specs.Promises.{PlainPromise, RunPromise}

pub plain_unique : (file cells : List ℕ) (r s : PlainAnswer) (r_after s_after : List ℕ) → PlainPromise file cells r r_after
    → PlainPromise file cells s s_after
    → (r ≡ s) × (r_after ≡ s_after)
plain_unique file cells r s r_after s_after p q = (p.answer ∙ sym q.answer, p.cells_after ∙ sym q.cells_after)

pub run_unique : (file cells schedule : List ℕ) (r s : RunAnswer) (r_after s_after : List ℕ)
    → RunPromise file cells schedule r r_after
    → RunPromise file cells schedule s s_after
    → (r ≡ s) × (r_after ≡ s_after)
run_unique file cells schedule r s r_after s_after p q = (p.answer ∙ sym q.answer, p.cells_after ∙ sym q.cells_after)

-- ---- the results

pub plain_result_unique : (file cells : List ℕ) (r s : Result (Unit {0}) Refusal) (r_after s_after : List ℕ)
    → PlainPromise file cells (plain_by r) r_after
    → PlainPromise file cells (plain_by s) s_after
    → (r ≡ s) × (r_after ≡ s_after)
plain_result_unique file cells r s r_after s_after p q =
    let same = plain_unique file cells (plain_by r) (plain_by s) r_after s_after p q in
    (met_unique r s (ap (λ (a : PlainAnswer). refusal a.number a.place) same.0), same.1)

-- a latest held step is told by its reason and its cell
pub latest_told : (a b : Option Held) → reason_in a ≡ reason_in b → cell_in a ≡ cell_in b → a ≡ b
latest_told None None r c = refl
latest_told None (Some PastLast) r c = cc
latest_told None (Some (WriteDiffers cell)) r c = cc
latest_told None (Some (ReadsDiffer cell)) r c = cc
latest_told (Some PastLast) None r c = cc
latest_told (Some PastLast) (Some PastLast) r c = refl
latest_told (Some PastLast) (Some (WriteDiffers cell)) r c = cc
latest_told (Some PastLast) (Some (ReadsDiffer cell)) r c = cc
latest_told (Some (WriteDiffers cell)) None r c = cc
latest_told (Some (WriteDiffers cell)) (Some PastLast) r c = cc
latest_told (Some (WriteDiffers cell)) (Some (WriteDiffers other)) r c = ap (λ (n : ℕ). Some (WriteDiffers n)) c
latest_told (Some (WriteDiffers cell)) (Some (ReadsDiffer other)) r c = cc
latest_told (Some (ReadsDiffer cell)) None r c = cc
latest_told (Some (ReadsDiffer cell)) (Some PastLast) r c = cc
latest_told (Some (ReadsDiffer cell)) (Some (WriteDiffers other)) r c = cc
latest_told (Some (ReadsDiffer cell)) (Some (ReadsDiffer other)) r c = ap (λ (n : ℕ). Some (ReadsDiffer n)) c

-- and so are those of all workers
pub all_told : (xs ys : List (Option Held)) → map reason_in xs ≡ map reason_in ys → map cell_in xs ≡ map cell_in ys → xs ≡ ys
all_told [] [] r c = refl
all_told [] (y ∷ ys) r c = cc
all_told (x ∷ xs) [] r c = cc
all_told (x ∷ xs) (y ∷ ys) r c =
    let here : x ≡ y = latest_told x y (cc) (cc) in
    let later : xs ≡ ys = all_told xs ys (cc) (cc) in
    cc

-- whether it has finished is told by the number for it
pub finished_told : (a b : Bool) → ◌≡◌ {A = ℕ} (cond a 1 0) (cond b 1 0) → a ≡ b
finished_told true true e = refl
finished_told true false e = cc
finished_told false true e = cc
finished_told false false e = refl

told_by : (r s : Result Ran Refusal) → answer_by r ≡ answer_by s → r ≡ s
told_by (Ok a) (Ok b) e =
    let latest : a.notes.latest ≡ b.notes.latest =
    all_told a.notes.latest b.notes.latest (ap (λ (t : RunAnswer). t.reasons) e) (ap (λ (t : RunAnswer). t.cells) e) in
    let finished : a.finished ≡ b.finished = finished_told a.finished b.finished (ap (λ (t : RunAnswer). t.finished) e) in
    λ i.
    Ok record {
      advanced = (e i).advanced;
      held = (e i).held;
      done = (e i).done;
      finished = finished i;
      notes = record { past_last = (e i).past_last; write_differs = (e i).write_differs; reads_differ = (e i).reads_differ; latest = latest i };
    }
told_by (Ok a) (Err met) e = absurd (number_positive met.rule (sym (ap (λ (t : RunAnswer). t.number) e)))
told_by (Err met) (Ok a) e = absurd (number_positive met.rule (ap (λ (t : RunAnswer). t.number) e))
told_by (Err met) (Err other) e = ap Err (refusal_unique met other (ap (λ (t : RunAnswer). refusal t.number t.place) e))

pub run_result_unique : (file cells schedule : List ℕ) (r s : Result Ran Refusal) (r_after s_after : List ℕ)
    → RunPromise file cells schedule (answer_by r) r_after
    → RunPromise file cells schedule (answer_by s) s_after
    → (r ≡ s) × (r_after ≡ s_after)
run_result_unique file cells schedule r s r_after s_after p q =
    let same = run_unique file cells schedule (answer_by r) (answer_by s) r_after s_after p q in
    (told_by r s same.0, same.1)
