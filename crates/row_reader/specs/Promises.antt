-- What the row reader's functions promise of an answer, of a new reader, and of a reader that a call has moved on.
use Rattle.std.specs.Prelude.{◌≡◌, cond, List, ℕ, Option, Result, ◌+◌}
use Rattle.std.specs.Option.{option_transpose}
use Rattle.std.specs.Borrow.{Bor}
use Rattle.layout.specs.Flow.{most_tasks, up_to}
use Rattle.refusal.specs.declared.Refusal.{Refusal}
use Rattle.row_reader.specs.declared.Rows.{Rows}
use Rattle.row_reader.specs.Answers.{case_answer, answer_at}

-- the answer is the one at a place of a file
abbrev pub Answered : List ℕ → ℕ → Result (Option (List ℕ)) Refusal → Type 0
Answered file task r = case_answer r ≡ answer_at file task

-- the reader keeps the very file that is lent, and has this place in it
abbrev pub StandsAt : Bor (List ℕ) → ℕ → Rows → Type 0
StandsAt file task r = (r.file ≡ file) × (r.task ≡ task)

-- the place after one call: a number that no task can have stays
abbrev pub following : ℕ → ℕ
following task = cond (up_to most_tasks task) (task + 1) task

-- of the reader before a call, what is given, and the reader after it: the answer is the one at the reader's place, and the
-- reader is moved on
abbrev pub NextPromise : Rows → Option (Result (List ℕ) Refusal) → Rows → Type 0
NextPromise before r after =
    Answered before.file.now before.task (option_transpose r) × StandsAt before.file (following before.task) after
