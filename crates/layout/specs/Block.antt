-- A block of 512 bytes and refusals 2 to 5 (01, "The file" and "Numbers of refusal"; 02, Q-8): its head and tail, and the first rule
-- that it breaks.
use Rattle.std.specs.Prelude.{Bool, ◌&&◌, List, [], ◌∷◌, ◌++◌, ℕ, ◌+◌, ◌-◌, ◌*◌, ◌/◌, min, take, drop, eqb}
use Rattle.layout.specs.Bytes.{at, word, word_bytes, part, all_zero, padded}
use Rattle.layout.specs.Flow.{known_version, in_range}
use Rattle.layout.specs.Fletcher.{fletcher}
use Rattle.layout.specs.Refusal.{first_broken}

-- "the four letters SFLW"
abbrev pub letters : List ℕ
letters = 83 ∷ 70 ∷ 76 ∷ 87 ∷ []

-- the fewest blocks for so many tasks, ten rows to a block
abbrev pub blocks_for : ℕ → ℕ
blocks_for tasks = (tasks + 9) / 10

-- "Every block but the last has ten rows; the last has the rest"
abbrev pub rows_in : ℕ → ℕ → ℕ
rows_in tasks index = min 10 (tasks - 10 * index)

-- ---- the rules of a block. Before the block come the file's number of blocks, block 0's version, tasks, workers and cells, and
-- ---- this block's number

-- 2: check A and check B over bytes 0-509. "The stored byte must equal the sum"
abbrev pub check_sound : List ℕ → Bool
check_sound block = eqb (at block 510) (fletcher (take 510 block)).a && eqb (at block 511) (fletcher (take 510 block)).b

-- the first four bytes are the letters
abbrev pub letters_sound : List ℕ → List ℕ → Bool
letters_sound four block =
    eqb (at block 0) (at four 0) && eqb (at block 1) (at four 1) && eqb (at block 2) (at four 2) && eqb (at block 3) (at four 3)

-- 3: letters, block number, number of blocks and bytes 14-15
abbrev pub head_sound : ℕ → ℕ → List ℕ → Bool
head_sound blocks index block =
    letters_sound letters block && eqb (word block 6) index && eqb (word block 8) blocks
    && eqb (at block 14) 0
    && eqb (at block 15) 0

-- 3 "now covers a version that is neither 1 nor 2, or not block 0's"
abbrev pub version_sound : ℕ → List ℕ → Bool
version_sound version block = known_version (at block 4) && eqb (at block 4) version

-- the block states these tasks, workers and cells
abbrev pub states : ℕ → ℕ → ℕ → List ℕ → Bool
states tasks workers cells block = eqb (word block 10) tasks && eqb (at block 12) workers && eqb (at block 13) cells

-- 4: tasks, workers and cells within range and as in block 0; the fewest blocks for the tasks; the right rows in this block
abbrev pub sizes_sound : ℕ → ℕ → ℕ → ℕ → ℕ → List ℕ → Bool
sizes_sound blocks tasks workers cells index block =
    in_range (word block 10) (at block 12) (at block 13) && states tasks workers cells block && eqb blocks (blocks_for tasks)
    && eqb (at block 5) (rows_in tasks index)

-- 5: unused rows and bytes 496-509 are zero
abbrev pub rest_sound : List ℕ → Bool
rest_sound block = all_zero (part (16 + 48 * at block 5) 510 block)

-- the first of 2 to 5 that a block breaks; 0 where it breaks none
unfoldable pub block_refusal : ℕ → ℕ → ℕ → ℕ → ℕ → ℕ → List ℕ → ℕ
block_refusal blocks version tasks workers cells index block =
    first_broken
    ((2, check_sound block)
    ∷ (3, head_sound blocks index block)
    ∷ (3, version_sound version block)
    ∷ (4, sizes_sound blocks tasks workers cells index block)
    ∷ (5, rest_sound block)
    ∷ [])

-- ---- the block of rows

-- bytes 0-15
abbrev pub head_of : ℕ → ℕ → ℕ → ℕ → ℕ → List ℕ
head_of version tasks workers cells index =
    letters
    ++ (version
    ∷ rows_in tasks index
    ∷ word_bytes index ++ (word_bytes (blocks_for tasks) ++ (word_bytes tasks ++ (workers ∷ cells ∷ 0 ∷ 0 ∷ []))))

-- bytes 0-509: the head, the block's rows out of all rows, and zeros
unfoldable pub body_of : ℕ → ℕ → ℕ → ℕ → List ℕ → ℕ → List ℕ
body_of version tasks workers cells rows index =
    head_of version tasks workers cells index ++ padded 494 (take (48 * rows_in tasks index) (drop (480 * index) rows))

-- bytes, with their check A and check B after them
abbrev pub sealed : List ℕ → List ℕ
sealed body = body ++ ((fletcher body).a ∷ (fletcher body).b ∷ [])

-- the block of that number
unfoldable pub block_of : ℕ → ℕ → ℕ → ℕ → List ℕ → ℕ → List ℕ
block_of version tasks workers cells rows index = sealed (body_of version tasks workers cells rows index)
