-- The calls of one row reader, one after another. Each is answered at the place where the ones before it left the reader, and moves
-- it on: so a new reader of an accepted file gives the file's rows in order and then says the end at every call, and one of a
-- refused file gives the check's own refusal at every call. What holds of `answer_at` at each place holds of the sequence.
use borrow.Author.Tests.{ltb-true, ltb-false}
use lib.ListN.{drop_of_length-le}
use lib.Seq.{take_all}
use Rattle.std.proofs.Common.{◌≡◌, ℕ, ◌+◌, ◌*◌, ◌<◌, ◌≤◌, min, Bool, true, false, cond, ltb, List, ◌∷◌, map, length, take, drop, Some, None, Ok, Bor, refl, sym, ap, ap₂, ◌∙◌, arith}
use Rattle.layout.specs.Lists.{each, joined}
use Rattle.layout.specs.Flow.{most_tasks}
use Rattle.layout.specs.Refusal.{refusal}
use Rattle.layout.specs.File.{row_at, tasks_of, file_answer, rows_of}
use Rattle.layout.proofs.Lists.{each_same}
use Rattle.roundtrip.proofs.Pieces.{joined_cut}
use Rattle.roundtrip.proofs.Read.{file_sizes, row_sized, rows_length, row_there}
use Rattle.file.proofs.Outcomes.{file_kept, succeeds}
use Rattle.row_reader.specs.declared.Rows.{Rows}
use Rattle.row_reader.specs.Answers.{RowAnswer, case_answer, answer_by, bytes_given, given, answer_at}
use Rattle.row_reader.specs.Promises.{StandsAt}
use Rattle.row_reader.specs.Calls.{Item, Called, no_call, call_then, answer_of_call, GivesRows, GivesRefusal}
use Rattle.row_reader.proofs.Places.{is_up_to, is_past, place_after, goes_on_after}
use Rattle.row_reader.proofs.Fetches.{with_refusal, without, has_row, has_none, by_answer}

-- ---- an answer's number and place are the check's, and success where a row is given or the end is said

pub numbered : (file : List ℕ) (task : ℕ) → refusal (answer_at file task).number (answer_at file task).place ≡ file_answer file
numbered file task =
    by_answer file task (λ a. refusal a.number a.place ≡ file_answer file) (λ none there. succeeds file none)
    (λ none past. succeeds file none)
    (λ some. refl)

-- ---- calls of any reader

called_answers : {before after : Rows} {all : List Item} → Called before all after
    → map answer_by all ≡ each (length all) (λ i. answer_at before.file.now (place_after i before.task))
unfolding place_after each
called_answers no_call = refl
called_answers (call_then {later} said rest) =
    ap₂ (λ (first : RowAnswer) (others : List RowAnswer). first ∷ others) said.0
    (called_answers rest ∙ (λ k. each (length later) (λ i. answer_at (said.1.0 k).now (place_after i (said.1.1 k)))))

called_leaves : {before after : Rows} {all : List Item} → Called before all after
    → StandsAt before.file (place_after (length all) before.task) after
unfolding place_after
called_leaves no_call = (refl, refl)
called_leaves (call_then {later} said rest) =
    let left = called_leaves rest in
    (left.0 ∙ said.1.0, left.1 ∙ ap (place_after (length later)) said.1.1)

-- ---- an accepted file

-- what holds of a row before the last task and of the end after it holds of each answer
by_call : (file : List ℕ) (i : ℕ) (P : RowAnswer → Type 0) → (i < tasks_of file → P (case_answer (Ok (Some (row_at file (i + 1))))))
    → (tasks_of file ≤ i → P (case_answer (Ok None)))
    → P (answer_of_call file i)
by_call file i P row end = go (ltb i (tasks_of file)) refl
  where
    go : (b : Bool) → ltb i (tasks_of file) ≡ b → P (cond b (case_answer (Ok (Some (row_at file (i + 1))))) (case_answer (Ok None)))
    go true e = row (ltb-true i (tasks_of file) e)
    go false e = end (ltb-false i (tasks_of file) e)

module _ (file : List ℕ) (none : (file_answer file).number ≡ 0) where
  place : (i : ℕ) → place_after i 1 ≡ min (1 + i) (most_tasks + 1)
  place i = goes_on_after i 1 (omega arith) (omega arith)

  call_answers : (i : ℕ) → answer_at file (place_after i 1) ≡ answer_of_call file i
  call_answers i =
      without file (place_after i 1) none
      ∙ by_call file i (λ a. given file (place_after i 1) ≡ a)
      (λ l.
      let on : place_after i 1 ≡ i + 1 = omega (arith, place i, file_sizes file (file_kept file none)) in
      ap (given file) on ∙ has_row file (i + 1) (is_up_to (tasks_of file) (i + 1) (omega arith) (omega arith)))
      (λ l. has_none file (place_after i 1) (is_past (tasks_of file) (place_after i 1) (omega (arith, place i, file_sizes file (file_kept file none)))))

  -- each answer gives its piece of the rows, and past them nothing
  gives_piece : (i : ℕ) → bytes_given (answer_of_call file i) ≡ take 48 (drop (48 * i) (rows_of file))
  gives_piece i =
      by_call file i (λ a. bytes_given a ≡ take 48 (drop (48 * i) (rows_of file)))
      (λ l.
      take_all 48 (row_at file (i + 1)) (omega (arith, row_sized file (file_kept file none) i l))
      ∙ sym (row_there file (file_kept file none) i l))
      (λ l. sym (ap (take 48) (drop_of_length-le (rows_of file) {i = 48 * i} (omega (arith, rows_length file (file_kept file none))))))

  all_given : (calls : ℕ) → tasks_of file ≤ calls → joined bytes_given (each calls (answer_of_call file)) ≡ rows_of file
  all_given calls enough =
      joined_cut 48 calls (rows_of file) bytes_given (answer_of_call file) (λ i l. gives_piece i)
      ∙ take_all (48 * calls) (rows_of file) (omega (arith, rows_length file (file_kept file none)))

-- ---- calls of a reader that `new` makes

module _ {file : Bor (List ℕ)} {reader after : Rows} {all : List Item} (made : StandsAt file 1 reader) (called : Called reader all after) where
  new_answers : map answer_by all ≡ each (length all) (λ i. answer_at file.now (place_after i 1))
  new_answers = called_answers called ∙ (λ k. each (length all) (λ i. answer_at (made.0 k).now (place_after i (made.1 k))))

  new_stands : StandsAt file (min (length all + 1) (most_tasks + 1)) after
  new_stands =
      let left = called_leaves called in (
        left.0 ∙ made.0,
        left.1 ∙ ap (place_after (length all)) made.1 ∙ goes_on_after (length all) 1 (omega arith) (omega arith) ∙ (omega arith),
      )

  pub gives_rows : (file_answer file.now).number ≡ 0 → GivesRows file all after
  gives_rows none =
      let same = new_answers ∙ each_same (length all) _ _ (λ i l. call_answers file.now none i) in
      record {
        answers = same;
        together = λ enough. ap (joined bytes_given) same ∙ all_given file.now none (length all) enough;
        stands = new_stands;
      }

  pub gives_refusal : ((file_answer file.now).number ≡ 0 → ⊥) → GivesRefusal file all after
  gives_refusal some =
      record {
        answers = new_answers ∙ each_same (length all) _ _ (λ i l. with_refusal file.now (place_after i 1) some);
        stands = new_stands;
      }
