-- Each public function's contract allows one outcome for given inputs. An answer's number, bytes and end tell its case, and with its
-- place and its row they tell all of it; a reader is told by its file and its place.
use Rattle.std.proofs.Common.{◌≡◌, ℕ, List, Option, Some, None, Result, Ok, Err, Bor, refl, sym, ap, ◌∙◌}
use Rattle.std.specs.Option.{option_transpose}
use Rattle.std.specs.Result.{result_transpose}
use Rattle.layout.specs.Refusal.{refusal}
use Rattle.refusal.specs.declared.Refusal.{Refusal}
use Rattle.refusal.proofs.Unique.{refusal_unique}
use Rattle.row_reader.specs.declared.Rows.{Rows}
use Rattle.row_reader.specs.Answers.{RowAnswer, case_answer}
use Rattle.row_reader.specs.Promises.{Answered, StandsAt, NextPromise, following}

-- ---- an answer

-- the bytes and the end tell the case
differ : {A : Type 0} {a b : RowAnswer} → a ≡ b → (a.bytes ≡ b.bytes → a.ended ≡ b.ended → A) → A
differ e apart = apart (ap (λ (s : RowAnswer). s.bytes) e) (ap (λ (s : RowAnswer). s.ended) e)

told : (r s : Result (Option (List ℕ)) Refusal) → case_answer r ≡ case_answer s → r ≡ s
told (Ok (Some row)) (Ok (Some other)) e = ap (λ (s : RowAnswer). Ok (Some s.row)) e
told (Ok (Some row)) (Ok None) e = differ e (λ bytes ended. cc)
told (Ok (Some row)) (Err met) e = differ e (λ bytes ended. cc)
told (Ok None) (Ok (Some row)) e = differ e (λ bytes ended. cc)
told (Ok None) (Ok None) e = refl
told (Ok None) (Err met) e = differ e (λ bytes ended. cc)
told (Err met) (Ok (Some row)) e = differ e (λ bytes ended. cc)
told (Err met) (Ok None) e = differ e (λ bytes ended. cc)
told (Err met) (Err other) e = ap Err (refusal_unique met other (ap (λ (s : RowAnswer). refusal s.number s.place) e))

-- what a reader gives is told by what a fetch gives
pub transposed : (r : Option (Result (List ℕ) Refusal)) → result_transpose (option_transpose r) ≡ r
transposed None = refl
transposed (Some (Ok row)) = refl
transposed (Some (Err met)) = refl

-- ---- the public functions

pub fetch_unique : (file : List ℕ) (task : ℕ) (r s : Result (Option (List ℕ)) Refusal) → Answered file task r → Answered file task s → r ≡ s
fetch_unique file task r s p q = told r s (p ∙ sym q)

reader_unique : (file : Bor (List ℕ)) (task : ℕ) (r s : Rows) → StandsAt file task r → StandsAt file task s → r ≡ s
reader_unique file task r s p q = λ i. record { file = (p.0 ∙ sym q.0) i; task = (p.1 ∙ sym q.1) i }

pub new_unique : (file : Bor (List ℕ)) (r s : Rows) → StandsAt file 1 r → StandsAt file 1 s → r ≡ s
new_unique file = reader_unique file 1

-- what is given, and the reader that is left
pub next_unique : (before : Rows) (r s : Option (Result (List ℕ) Refusal)) (after after' : Rows) → NextPromise before r after
    → NextPromise before s after'
    → (r ≡ s) × (after ≡ after')
next_unique before r s after after' p q = (
  sym (transposed r) ∙ ap result_transpose (fetch_unique before.file.now before.task _ _ p.0 q.0) ∙ transposed s,
  reader_unique before.file (following before.task) after after' p.1 q.1,
)
