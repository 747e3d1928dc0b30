-- What an answer of success says, since it is given only where no refusal is met: to the file check, that rule 1 is kept, rules
-- 2 to 5 by every block and a row's rules by every row; to the writer's, that rules 15, 22 and 4 are, and a row's rules by every row.
use mathlib.Core.Path.{◌≡◌, ap, ◌∙◌}
use mathlib.Core.Bool.{Bool, true}
use mathlib.Core.List.{List}
use Prim.Native.Nat.{ℕ, ◌+◌, ◌%◌, ◌<◌, ◌≤◌}
use native.Mathlib.Nat.{zero-add, add_comm}
use native.Mathlib.Omega.{arith}
use borrow.Author.Tests.{eqb-true, eq-eqb, leb-true, le-leb}
use lib.ListN.{length}
use lib.Dec.{lit<}
use Rattle.layout.specs.Refusal.{Answer, success, refusal, unless, or_else, first_at}
use Rattle.layout.specs.Flow.{known_version, most_bytes, most_row_bytes, in_range, WithinLimits}
use Rattle.layout.specs.Row.{retired_in_writer, row_refusal}
use Rattle.layout.specs.File.{file_answer, length_sound, blocks_of, tasks_of, block_number, row_number}
use Rattle.layout.specs.Write.{rows_answer, rows_sound, row_count, row_of_task}
use Rattle.roundtrip.proofs.NoRefusal.{and_iff, both_zero, second_given, rule_then, rule_passed, none_at, success_at}

-- ---- the file check

pub record FileKept (file : List ℕ) : Type 0 where
  pub some_byte : 1 ≤ length file
  pub bytes_fit : length file ≤ most_bytes
  pub whole_blocks : length file % 512 ≡ 0
  pub blocks : (i : ℕ) → i < blocks_of file → block_number file i ≡ 0
  pub rows : (i : ℕ) → i < tasks_of file → row_number file (i + 1) ≡ 0

module _ (file : List ℕ) where
  pub file_keeps : (file_answer file).number ≡ 0 → FileKept file
  unfolding file_answer
  file_keeps h =
      let by_blocks : Answer = first_at (block_number file) 0 (blocks_of file) in
      let by_rows : Answer = first_at (row_number file) 1 (tasks_of file) in
      let start = rule_then (length_sound (length file)) 1 (or_else by_blocks by_rows) (lit< tt) h in
      let sized = simp and_iff at start.0 in
      let both = both_zero by_blocks by_rows start.1 in
      record {
        some_byte = omega (arith, leb-true);
        bytes_fit = omega (arith, leb-true);
        whole_blocks = omega (arith, eqb-true);
        blocks = λ i l. rw zero-add at (none_at (block_number file) 0 (blocks_of file) both.0 i l);
        rows = λ i l. rw (add_comm 1 i) at (none_at (row_number file) 1 (tasks_of file) both.1 i l);
      }

  pub keeps_file : FileKept file → file_answer file ≡ success
  unfolding file_answer
  keeps_file h =
      rule_passed (length_sound (length file)) 1 _ (simp and_iff (omega (arith, eq-eqb, le-leb)))
      ∙ second_given (first_at (block_number file) 0 (blocks_of file)) _
      (ap (λ (a : Answer). a.number) (success_at (block_number file) 0 (blocks_of file) (λ i l. rw zero-add (h.blocks i l))))
      ∙ success_at (row_number file) 1 (tasks_of file) (λ i l. rw (add_comm 1 i) (h.rows i l))

-- ---- the writer's check of rows

-- rows that keep the rules, where operation 6 is retired or not
pub record RowsKept (retired : Bool) (rows : List ℕ) (version workers cells : ℕ) : Type 0 where
  pub some_byte : 1 ≤ length rows
  pub bytes_fit : length rows ≤ most_row_bytes
  pub whole_rows : length rows % 48 ≡ 0
  pub known : known_version version ≡ true
  pub sizes : WithinLimits (row_count rows) workers cells
  pub each_row : (i : ℕ) → i < row_count rows → row_refusal retired workers cells (row_of_task rows (i + 1)) ≡ 0

module _ (rows : List ℕ) (version workers cells : ℕ) where
  -- the first refusal among the rows
  abbrev by_rows : Answer
  by_rows = first_at (λ task. row_refusal (retired_in_writer version) workers cells (row_of_task rows task)) 1 (row_count rows)

  pub rows_keep : (rows_answer rows version workers cells).number ≡ 0 → RowsKept (retired_in_writer version) rows version workers cells
  unfolding rows_answer
  rows_keep h =
      let by_sizes : Answer = or_else (refusal (unless (in_range (row_count rows) workers cells) 4) 0) by_rows in
      let start =
      rule_then (rows_sound (length rows)) 15 (or_else (refusal (unless (known_version version) 22) 0) by_sizes) (lit< tt) h in
      let versioned = rule_then (known_version version) 22 by_sizes (lit< tt) start.1 in
      let then = rule_then (in_range (row_count rows) workers cells) 4 by_rows (lit< tt) versioned.1 in
      let sized = simp and_iff at start.0 in
      let ranged = simp and_iff at then.0 in
      record {
        some_byte = omega (arith, leb-true);
        bytes_fit = omega (arith, leb-true);
        whole_rows = omega (arith, eqb-true);
        known = versioned.0;
        sizes = omega (arith, leb-true);
        each_row =
            λ i l.
            rw (add_comm 1 i)
            at (none_at (λ task. row_refusal (retired_in_writer version) workers cells (row_of_task rows task)) 1 (row_count rows) then.1 i l);
      }

  -- of rows that keep the rules, but for operation 6 perhaps, the writer asks only the rows
  pub rows_asked : {retired : Bool} → RowsKept retired rows version workers cells → rows_answer rows version workers cells ≡ by_rows
  unfolding rows_answer
  rows_asked h =
      rule_passed (rows_sound (length rows)) 15 _ (simp and_iff (omega (arith, eq-eqb, le-leb)))
      ∙ rule_passed (known_version version) 22 _ h.known
      ∙ rule_passed (in_range (row_count rows) workers cells) 4 _ (simp and_iff (omega (arith, le-leb)))

  pub keep_rows : RowsKept (retired_in_writer version) rows version workers cells → rows_answer rows version workers cells ≡ success
  keep_rows h =
      rows_asked h
      ∙ success_at (λ task. row_refusal (retired_in_writer version) workers cells (row_of_task rows task)) 1 (row_count rows)
      (λ i l. rw (add_comm 1 i) (h.each_row i l))
