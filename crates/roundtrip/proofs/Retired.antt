-- Operation 6 on the way there and back: rows that the writer takes keep a reader's rules as well, and have none; and of the rows of an accepted
-- file the writer refuses, under rule 18, exactly those that have one, at the first.
use mathlib.Core.Path.{◌≡◌, sym, ap, ◌∙◌}
use mathlib.Core.Bool.{Bool, true, false, not, ◌&&◌, true≢false}
use mathlib.Core.Logic.{⊎_elim}
use mathlib.Core.List.{List}
use Prim.Native.Nat.{ℕ, ◌+◌, ◌-◌, ◌<◌}
use native.Mathlib.Nat.{add_comm}
use native.Mathlib.Omega.{arith}
use borrow.Author.Tests.{not-true, not-false}
use lib.ListN.{get_or}
use lib.Dec.{lit<}
use Rattle.layout.specs.Flow.{Task}
use Rattle.layout.specs.Refusal.{Answer, success, refusal, unless, first_at}
use Rattle.layout.specs.Row.{task_of, uses_larger, retired_in_reader, retired_in_writer, row_refusal}
use Rattle.layout.specs.File.{row_at, version_of, tasks_of, workers_of, cells_of, flow_of, rows_of}
use Rattle.layout.specs.Write.{row_count, row_of_task, rows_answer, flow_of_rows}
use Rattle.layout.proofs.Lists.{and-false, each-length, each_at, all_pass, all_keeps}
use Rattle.roundtrip.specs.Larger.{without_larger, FirstLarger}
use Rattle.roundtrip.proofs.NoRefusal.{same_at, success_at, FirstBreak, break_at}
use Rattle.roundtrip.proofs.Rows.{row_keeps, only_18}
use Rattle.roundtrip.proofs.Answers.{FileKept, RowsKept, rows_asked}
use Rattle.roundtrip.proofs.Read.{count_back, row_taken, rows_kept}

-- ---- rows that the writer takes

without_kept : (retired used : Bool) → not used ≡ true → not (retired && used) ≡ true
without_kept retired used none = rw (not-true used none, and-false retired)

module _ (rows : List ℕ) (version workers cells : ℕ) (k : RowsKept (retired_in_writer version) rows version workers cells) where
  row_without : (i : ℕ) → i < row_count rows → not (uses_larger (task_of (row_of_task rows (i + 1)))) ≡ true
  row_without i l = (row_keeps (retired_in_writer version) workers cells (row_of_task rows (i + 1)) (k.each_row i l)).retirement

  pub no_larger : without_larger (flow_of_rows rows version workers cells) ≡ true
  unfolding flow_of_rows
  no_larger = all_pass (λ task. not (uses_larger task)) (row_count rows) (λ i. task_of (row_of_task rows (i + 1))) row_without

  pub readers_keep : RowsKept (retired_in_reader version) rows version workers cells
  readers_keep =
      record {
        some_byte = k.some_byte;
        bytes_fit = k.bytes_fit;
        whole_rows = k.whole_rows;
        known = k.known;
        sizes = k.sizes;
        each_row =
            λ i l.
            only_18 (retired_in_writer version) workers cells (row_of_task rows (i + 1)) (k.each_row i l) (retired_in_reader version)
            ∙ ap (λ (b : Bool). unless b 18) (without_kept (retired_in_reader version) _ (row_without i l));
      }

-- ---- the rows of an accepted file

module _ (file : List ℕ) (k : FileKept file) where
  -- the task whose number is given has no operation 6
  abbrev without : ℕ → Bool
  without task = not (uses_larger (task_of (row_at file task)))

  -- the writer's answer
  abbrev writes : Answer
  writes = rows_answer (rows_of file) (version_of file) (workers_of file) (cells_of file)

  row_asked : (i : ℕ) → i < tasks_of file
      → row_refusal (retired_in_writer (version_of file)) (workers_of file) (cells_of file) (row_of_task (rows_of file) (1 + i)) ≡ unless (without (1 + i)) 18
  row_asked i l =
      rw (add_comm 1 i, row_taken file k i l)
      (only_18 (retired_in_reader (version_of file)) (workers_of file) (cells_of file) (row_at file (i + 1)) (k.rows i l) (retired_in_writer (version_of file)))

  -- the writer meets rule 18 alone
  writer_meets : writes ≡ first_at (λ task. unless (without task) 18) 1 (tasks_of file)
  writer_meets =
      rows_asked (rows_of file) (version_of file) (workers_of file) (cells_of file) (rows_kept file k)
      ∙ ap
      (first_at (λ task. row_refusal (retired_in_writer (version_of file)) (workers_of file) (cells_of file) (row_of_task (rows_of file) task)) 1)
      (count_back file k)
      ∙ same_at _ _ 1 (tasks_of file) row_asked

  flow_without : (i : ℕ) → i < tasks_of file → without_larger (flow_of file) ≡ true → without (i + 1) ≡ true
  unfolding flow_of
  flow_without i l = all_keeps (λ task. not (uses_larger task)) (tasks_of file) (λ j. task_of (row_at file (j + 1))) i l

  pub rows_accepted : without_larger (flow_of file) ≡ true → writes ≡ success
  rows_accepted none =
      writer_meets
      ∙ success_at (λ task. unless (without task) 18) 1 (tasks_of file)
      (λ i l. rw (add_comm 1 i, flow_without i l none))

  all_without : ((i : ℕ) → i < tasks_of file → without (1 + i) ≡ true) → without_larger (flow_of file) ≡ true
  unfolding flow_of
  all_without h =
      all_pass (λ task. not (uses_larger task)) (tasks_of file) (λ j. task_of (row_at file (j + 1)))
      (λ i l. rw (add_comm 1 i) at (h i l))

  task_at : (none : Task) (i : ℕ) → i < tasks_of file → get_or (flow_of file).tasks i none ≡ task_of (row_at file (1 + i))
  unfolding flow_of
  task_at none i l = rw (add_comm 1 i) (each_at (tasks_of file) (λ j. task_of (row_at file (j + 1))) i none l)

  first_one : (i : ℕ) → FirstBreak without 18 1 (tasks_of file) i → FirstLarger (flow_of file) (1 + i)
  unfolding flow_of
  first_one i broken =
      let back : 1 + i - 1 ≡ i = omega arith in
      record {
        from_1 = omega arith;
        there = rw (each-length (tasks_of file) (λ j. task_of (row_at file (j + 1)))) (omega (arith, broken.there));
        has_it = λ none. rw (back, task_at none i broken.there) (not-false _ broken.breaks);
        none_before =
            λ none earlier low before.
            rw (task_at none (earlier - 1) (omega (arith, broken.there)))
            (not-true _ (broken.kept_before (earlier - 1) (omega arith)));
      }

  pub first_refused : without_larger (flow_of file) ≡ false → (task : ℕ) × FirstLarger (flow_of file) task × (writes ≡ refusal 18 task)
  first_refused some =
      ⊎_elim (λ none. absurd (true≢false (sym (all_without none) ∙ some)))
      (λ broken. (1 + broken.0, first_one broken.0 broken.1, writer_meets ∙ broken.1.given)) (break_at without 18 (lit< tt) 1 (tasks_of file))
