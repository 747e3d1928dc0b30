-- Worked cases of rule 18 (02, Q-9), as a table of what is got and what is expected, in flows of 2 workers and 3 cells.
-- `proofs/Retired.antt` proves the table under a single statement.
use Rattle.std.specs.Prelude.{List, [], ◌∷◌, ◌++◌, ℕ, length}
use Rattle.layout.specs.Lists.{joined}
use Rattle.layout.specs.Bytes.{padded}
use Rattle.layout.specs.File.{file_answer}
use Rattle.layout.specs.Write.{row_count, file_of}
use Rattle.layout.specs.Cases.{Case, gives, once_written, no_such_owner}
use Rattle.layout.specs.Versions.{writing}

-- ---- the rows

-- cell 0 under a mode, read 1, and operations of these codes, each of cell 0 with cell 1
unfoldable pub of_codes : ℕ → List ℕ → List ℕ
of_codes mode codes =
    padded 48
    (0 ∷ 2 ∷ length codes ∷ 0 ∷ 0 ∷ mode ∷ 1 ∷ 1 ∷ 0 ∷ 0 ∷ 0 ∷ 0 ∷ joined (λ code. code ∷ 0 ∷ 1 ∷ 0 ∷ 0 ∷ 0 ∷ []) codes)

-- read-and-write 0, and 'the larger of'
unfoldable pub larger : List ℕ
larger = of_codes 3 (6 ∷ [])

-- ---- what a case gives

-- the number and the place that the check gives for a file of these rows in a version
unfoldable pub reading : ℕ → List ℕ → List ℕ
reading version rows =
    (file_answer (file_of version (row_count rows) 2 3 rows)).number ∷ (file_answer (file_of version (row_count rows) 2 3 rows)).place ∷ []

-- ---- the table

unfoldable pub retirement : List Case
retirement =
    -- "Stored version 1 flows that have it are still read"
    gives (reading 1 larger) (0 ∷ 0 ∷ [])
    -- "Version 2 flows may not use it"
    ∷ gives (reading 2 larger) (18 ∷ 1 ∷ [])
    -- "and the writer no longer writes it in either version"
    ∷ gives (writing larger 1 2 512) (18 ∷ 1 ∷ [])
    ∷ gives (writing larger 2 2 512) (18 ∷ 1 ∷ [])
    -- every operation is asked: the second, and the sixth
    ∷ gives (reading 2 (of_codes 3 (3 ∷ 6 ∷ 3 ∷ []))) (18 ∷ 1 ∷ [])
    ∷ gives (reading 2 (of_codes 3 (3 ∷ 3 ∷ 3 ∷ 3 ∷ 3 ∷ 6 ∷ []))) (18 ∷ 1 ∷ [])
    ∷ gives (writing (of_codes 3 (3 ∷ 3 ∷ 3 ∷ 3 ∷ 3 ∷ 6 ∷ [])) 1 2 512) (18 ∷ 1 ∷ [])
    -- "place the task"
    ∷ gives (reading 2 (once_written ++ larger)) (18 ∷ 2 ∷ [])
    ∷ gives (writing (once_written ++ larger ++ larger) 1 2 512) (18 ∷ 2 ∷ [])
    -- "after 10", whichever operation that is at
    ∷ gives (reading 2 (of_codes 3 (6 ∷ 7 ∷ []))) (10 ∷ 1 ∷ [])
    ∷ gives (reading 2 (of_codes 3 (7 ∷ 6 ∷ []))) (10 ∷ 1 ∷ [])
    ∷ gives (writing (of_codes 3 (6 ∷ 7 ∷ [])) 1 2 512) (10 ∷ 1 ∷ [])
    -- "and before 11 on the same task"; where it is not retired, 11 is given
    ∷ gives (reading 2 (of_codes 1 (6 ∷ []))) (18 ∷ 1 ∷ [])
    ∷ gives (reading 1 (of_codes 1 (6 ∷ []))) (11 ∷ 1 ∷ [])
    ∷ gives (writing (of_codes 1 (6 ∷ [])) 1 2 512) (18 ∷ 1 ∷ [])
    -- an earlier task's refusal comes first
    ∷ gives (reading 2 (no_such_owner ++ larger)) (6 ∷ 1 ∷ [])
    ∷ gives (reading 2 (larger ++ no_such_owner)) (18 ∷ 1 ∷ [])
    ∷ gives (writing (no_such_owner ++ larger) 1 2 512) (6 ∷ 1 ∷ [])
    -- in the writer after 22 and 4, and before 16
    ∷ gives (writing larger 3 2 512) (22 ∷ 0 ∷ [])
    ∷ gives (writing larger 1 9 512) (4 ∷ 0 ∷ [])
    ∷ gives (writing larger 1 2 0) (18 ∷ 1 ∷ [])
    ∷ []
