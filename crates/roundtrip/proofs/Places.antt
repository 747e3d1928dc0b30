-- Where a block and a row stand, by an index from 0: ten rows go to a block, 48 bytes to a row and 512 to a block, so that a
-- row's place is known by its index over 10 and the rest.
use mathlib.Core.Path.{◌≡◌, sym, ap, ◌∙◌}
use mathlib.Core.List.{List}
use Prim.Native.Nat.{ℕ, ◌+◌, ◌-◌, ◌*◌, ◌/◌, ◌%◌, ◌<◌}
use native.Mathlib.Omega.{arith}
use lib.ListN.{length, take, drop}
use lib.Seq.{get_or-take}
use Rattle.layout.specs.Bytes.{at}
use Rattle.layout.specs.Block.{blocks_for}
use Rattle.layout.specs.File.{block_at, row_start, row_at}
use Rattle.layout.specs.Write.{row_of_task}
use Rattle.roundtrip.proofs.Parts.{part_sized, part_length, part_of_part}

pub block_at_lem : (file : List ℕ) (i : ℕ) → block_at file i ≡ take 512 (drop (512 * i) file)
block_at_lem file i = part_sized (512 * i) 512 file

pub row_at_lem : (file : List ℕ) (i : ℕ) → row_at file (i + 1) ≡ take 48 (drop (16 + 48 * (i % 10)) (block_at file (i / 10)))
row_at_lem file i =
    let place : ℕ = 16 + 48 * (i % 10) in
    let before : i + 1 - 1 ≡ i = omega arith in
    let start : 512 * (i / 10) + 16 + 48 * (i % 10) ≡ 512 * (i / 10) + place = omega arith in
    rw (before, start) (part_sized (512 * (i / 10) + place) 48 file)
    ∙ sym (part_of_part 48 place 512 (512 * (i / 10)) file (omega arith))
    ∙ ap (λ (t : List ℕ). take 48 (drop place t)) (sym (block_at_lem file (i / 10)))

-- a row that stands in a file of as many blocks as its tasks need has its size
pub row_long : (file : List ℕ) (tasks i : ℕ) → length file ≡ 512 * blocks_for tasks → i < tasks → length (row_at file (i + 1)) ≡ 48
row_long file tasks i e l =
    ap length (part_sized (row_start (i + 1)) 48 file) ∙ part_length (row_start (i + 1)) 48 file (omega arith)

pub row_of_task_lem : (rows : List ℕ) (i : ℕ) → row_of_task rows (i + 1) ≡ take 48 (drop (48 * i) rows)
row_of_task_lem rows i =
    let before : i + 1 - 1 ≡ i = omega arith in
    rw before (part_sized (48 * i) 48 rows)

-- what the file states stands in block 0
pub in_first : (file : List ℕ) (i : ℕ) → i < 512 → at file i ≡ at (block_at file 0) i
in_first file i l = sym (get_or-take 512 file i 0 l)
