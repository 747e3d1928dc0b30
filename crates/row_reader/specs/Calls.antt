-- Calls of `next`, one after another, on one reader, as its contract alone allows them, and what they give on a new reader (01,
-- "Numbers of refusal"): "It gives task 1 first and says the end at every call after the last; a refused file gives its refusal at
-- every call".
use Rattle.std.specs.Prelude.{◌≡◌, cond, List, [], ◌∷◌, map, ℕ, Option, Some, None, Result, Ok, ◌+◌, ◌≤◌, min, ltb, length}
use Rattle.std.specs.Borrow.{Bor}
use Rattle.layout.specs.Lists.{each, joined}
use Rattle.layout.specs.Flow.{most_tasks}
use Rattle.layout.specs.File.{row_at, tasks_of, file_answer, rows_of}
use Rattle.refusal.specs.declared.Refusal.{Refusal}
use Rattle.row_reader.specs.declared.Rows.{Rows}
use Rattle.row_reader.specs.Answers.{RowAnswer, case_answer, answer_by, bytes_given, refused_by}
use Rattle.row_reader.specs.Promises.{StandsAt, NextPromise}

-- what one call gives
abbrev pub Item : Type 0
Item = Option (Result (List ℕ) Refusal)

-- the reader before the calls, what they give, and the reader after them: each is made on the reader that the one before it left
pub data Called : Rows → List Item → Rows → Type 0 where
  no_call : {reader : Rows} → Called reader [] reader
  call_then : {before between after : Rows} {item : Item} {later : List Item} → NextPromise before item between
      → Called between later after
      → Called before (item ∷ later) after

-- ---- of an accepted file

-- answer i, counted from 0: the row of task i + 1, and the end after the last task
abbrev pub answer_of_call : List ℕ → ℕ → RowAnswer
answer_of_call file i = cond (ltb i (tasks_of file)) (case_answer (Ok (Some (row_at file (i + 1))))) (case_answer (Ok None))

-- what calls on a new reader of it answer and leave
pub record GivesRows (file : Bor (List ℕ)) (all : List Item) (after : Rows) : Type 0 where
  pub answers : map answer_by all ≡ each (length all) (answer_of_call file.now)
  -- once as many calls are made as there are tasks, the bytes given are the rows of `reader::read`
  pub together : tasks_of file.now ≤ length all → joined bytes_given (map answer_by all) ≡ rows_of file.now
  -- the very file that was lent is kept
  pub stands : StandsAt file (min (length all + 1) (most_tasks + 1)) after

-- ---- of a refused file: the check's own number and place at every call, and no row

pub record GivesRefusal (file : Bor (List ℕ)) (all : List Item) (after : Rows) : Type 0 where
  pub answers : map answer_by all ≡ each (length all) (λ _. refused_by (file_answer file.now))
  pub stands : StandsAt file (min (length all + 1) (most_tasks + 1)) after
