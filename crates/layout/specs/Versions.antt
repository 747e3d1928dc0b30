-- Worked cases of the version (02, Q-8), as a table of what is got and what is expected, in flows of 2 workers and 3 cells.
-- `proofs/Versions.antt` proves the table under a single statement.
use Rattle.std.specs.Prelude.{List, [], ◌∷◌, ◌++◌, ℕ}
use Rattle.layout.specs.Lists.{each, joined}
use Rattle.layout.specs.Block.{block_of}
use Rattle.layout.specs.File.{version_of, file_answer, told}
use Rattle.layout.specs.Write.{file_of, write_answer}
use Rattle.layout.specs.Cases.{Case, gives, once_written}

-- ---- what a case gives

-- the number and the place that the check gives, and the version that is told
unfoldable pub version_told : List ℕ → List ℕ
version_told file = (file_answer file).number ∷ (file_answer file).place ∷ told (file_answer file) (version_of file) ∷ []

-- of a file of one task in a version
unfoldable pub in_version : ℕ → List ℕ
in_version version = version_told (file_of version 1 2 3 once_written)

-- of a file of eleven tasks, ten of them in block 0 and one in block 1, with a version for each block
unfoldable pub eleven_rows : List ℕ
eleven_rows = joined (λ i. once_written) (each 11 (λ i. i))

unfoldable pub in_versions : ℕ → ℕ → List ℕ
in_versions first second = version_told (block_of first 11 2 3 eleven_rows 0 ++ block_of second 11 2 3 eleven_rows 1)

-- the number and the place that the writer gives for rows, a version, so many workers and room for so many bytes
unfoldable pub writing : List ℕ → ℕ → ℕ → ℕ → List ℕ
writing rows version workers room =
    (write_answer rows version workers 3 room).number ∷ (write_answer rows version workers 3 room).place ∷ []

-- ---- the table

unfoldable pub versions : List Case
versions =
    gives (in_version 1) (0 ∷ 0 ∷ 1 ∷ [])
    ∷ gives (in_version 2) (0 ∷ 0 ∷ 2 ∷ [])
    -- "a version that is neither 1 nor 2"; the reader says which it read, "0 if refused"
    ∷ gives (in_version 0) (3 ∷ 0 ∷ 0 ∷ [])
    ∷ gives (in_version 3) (3 ∷ 0 ∷ 0 ∷ [])
    ∷ gives (in_version 255) (3 ∷ 0 ∷ 0 ∷ [])
    -- "All blocks of a file have one version"
    ∷ gives (in_versions 1 1) (0 ∷ 0 ∷ 1 ∷ [])
    ∷ gives (in_versions 2 2) (0 ∷ 0 ∷ 2 ∷ [])
    -- "or not block 0's"
    ∷ gives (in_versions 1 2) (3 ∷ 1 ∷ 0 ∷ [])
    ∷ gives (in_versions 2 1) (3 ∷ 1 ∷ 0 ∷ [])
    ∷ gives (in_versions 2 3) (3 ∷ 1 ∷ 0 ∷ [])
    ∷ gives (in_versions 3 3) (3 ∷ 0 ∷ 0 ∷ [])
    -- "The writer is told which to write", and "gives 22 for another version", of which every bit counts
    ∷ gives (writing once_written 1 2 512) (0 ∷ 0 ∷ [])
    ∷ gives (writing once_written 2 2 512) (0 ∷ 0 ∷ [])
    ∷ gives (writing once_written 0 2 512) (22 ∷ 0 ∷ [])
    ∷ gives (writing once_written 3 2 512) (22 ∷ 0 ∷ [])
    ∷ gives (writing once_written 257 2 512) (22 ∷ 0 ∷ [])
    -- "after 15"
    ∷ gives (writing [] 3 2 512) (15 ∷ 0 ∷ [])
    -- "and before 4", and so before all that comes after 4
    ∷ gives (writing once_written 3 9 512) (22 ∷ 0 ∷ [])
    ∷ gives (writing once_written 3 2 0) (22 ∷ 0 ∷ [])
    ∷ gives (writing once_written 2 9 0) (4 ∷ 0 ∷ [])
    ∷ []
