-- Worked cases of the check, as a table of what is got and what is expected: declared writes (02, Q-6), in flows of version 1 with 2 workers
-- and 3 cells. `proofs/Cases.antt` proves the table under a single statement.
use Rattle.std.specs.Prelude.{List, [], ◌∷◌, ◌++◌, ℕ}
use Rattle.layout.specs.Bytes.{padded}
use Rattle.layout.specs.File.{file_answer}
use Rattle.layout.specs.Write.{row_count, file_of}

pub record Case : Type 0 where
  pub got : List ℕ
  pub expected : List ℕ

abbrev pub gives : List ℕ → List ℕ → Case
gives got expected = record { got = got; expected = expected }

-- the number and the place that the check gives for a file of these rows
unfoldable pub check_of : List ℕ → List ℕ
check_of rows =
    (file_answer (file_of 1 (row_count rows) 2 3 rows)).number ∷ (file_answer (file_of 1 (row_count rows) 2 3 rows)).place ∷ []

-- ---- the rows

-- write 0, and an operation that writes it
unfoldable pub once_written : List ℕ
once_written = padded 48 (0 ∷ 1 ∷ 1 ∷ 0 ∷ 0 ∷ 2 ∷ 0 ∷ 0 ∷ 0 ∷ 0 ∷ 0 ∷ 0 ∷ 1 ∷ 0 ∷ 0 ∷ 0 ∷ 7 ∷ 0 ∷ [])

-- write 0, and no operation
unfoldable pub never_written : List ℕ
never_written = padded 48 (0 ∷ 1 ∷ 0 ∷ 0 ∷ 0 ∷ 2 ∷ [])

-- read-and-write 0, and no operation
unfoldable pub never_changed : List ℕ
never_changed = padded 48 (0 ∷ 1 ∷ 0 ∷ 0 ∷ 0 ∷ 3 ∷ [])

-- owner 2 of 2 workers
unfoldable pub no_such_owner : List ℕ
no_such_owner = padded 48 (2 ∷ 1 ∷ 0 ∷ 0 ∷ 0 ∷ 1 ∷ [])

-- write 0, and an operation that writes cell 1, which isn't named
unfoldable pub another_cell : List ℕ
another_cell = padded 48 (0 ∷ 1 ∷ 1 ∷ 0 ∷ 0 ∷ 2 ∷ 0 ∷ 0 ∷ 0 ∷ 0 ∷ 0 ∷ 0 ∷ 1 ∷ 1 ∷ 0 ∷ 0 ∷ 7 ∷ 0 ∷ [])

-- write 0, 1 and 2, and operations that write two of them
unfoldable pub two_written : ℕ → ℕ → List ℕ
two_written first second =
    padded 48
    (0 ∷ 3 ∷ 2 ∷ 0 ∷ 0 ∷ 2 ∷ 1 ∷ 2 ∷ 2 ∷ 2 ∷ 0 ∷ 0 ∷ 1 ∷ first ∷ 0 ∷ 0 ∷ 7 ∷ 0 ∷ 1 ∷ second ∷ 0 ∷ 0 ∷ 7 ∷ 0 ∷ [])

-- ---- the table

unfoldable pub cases : List Case
cases =
    gives (check_of once_written) (0 ∷ 0 ∷ [])
    -- "a task in which a mode 2 cell is written by no operation"
    ∷ gives (check_of never_written) (17 ∷ 1 ∷ [])
    -- "Mode 3 cells need not be written"
    ∷ gives (check_of never_changed) (0 ∷ 0 ∷ [])
    -- every access is asked: the first, the second and the third
    ∷ gives (check_of (two_written 1 2)) (17 ∷ 1 ∷ [])
    ∷ gives (check_of (two_written 2 0)) (17 ∷ 1 ∷ [])
    ∷ gives (check_of (two_written 0 1)) (17 ∷ 1 ∷ [])
    -- a write by another task, before or after, is none of this task's
    ∷ gives (check_of (once_written ++ never_written)) (17 ∷ 2 ∷ [])
    ∷ gives (check_of (never_written ++ once_written)) (17 ∷ 1 ∷ [])
    -- "directly after 11 on the same task"
    ∷ gives (check_of another_cell) (11 ∷ 1 ∷ [])
    -- "and before 6 on the next"
    ∷ gives (check_of (never_written ++ no_such_owner)) (17 ∷ 1 ∷ [])
    ∷ gives (check_of (no_such_owner ++ never_written)) (6 ∷ 1 ∷ [])
    ∷ []
