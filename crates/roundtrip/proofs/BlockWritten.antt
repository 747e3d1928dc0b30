-- The block of rows keeps rules 2 to 5, and its rows stand in it: its bytes are laid out as the rules ask, and where its parts
-- are joined is known by their sizes.
use mathlib.Core.Path.{◌≡◌, refl, ap, ◌∙◌}
use mathlib.Core.Bool.{true}
use mathlib.Core.List.{List, [], ◌∷◌, ◌++◌}
use Prim.Native.Nat.{ℕ, ◌+◌, ◌*◌, ◌-◌, ◌<◌, ◌≤◌}
use native.Mathlib.Omega.{arith}
use lib.ListN.{length, take, drop, replicate, length-append, length-replicate}
use lib.Seq.{take_all, take_at, drop_at, get_or-append-add}
use Rattle.layout.specs.Flow.{known_version, WithinLimits}
use Rattle.layout.specs.Bytes.{at, part, all_zero, padded}
use Rattle.layout.specs.Fletcher.{fletcher}
use Rattle.layout.specs.Block.{blocks_for, rows_in, head_of, body_of, sealed, block_of}
use Rattle.layout.proofs.Zeros.{zero-replicate}
use Rattle.roundtrip.proofs.Parts.{part_sized, part_length, part_left, part_right, part_of_part}
use Rattle.roundtrip.proofs.BlockRules.{BlockKept}

-- ---- bytes with their check after them

module _ (body : List ℕ) (sized : length body ≡ 510) where
  sealed_front : take 510 (sealed body) ≡ body
  sealed_front = take_at body _ 510 sized

  sealed_at : (n : ℕ) → at (sealed body) (510 + n) ≡ at ((fletcher body).a ∷ (fletcher body).b ∷ []) n
  sealed_at n = rw (← sized) (get_or-append-add body _ n 0)

  sealed_a : at (sealed body) 510 ≡ (fletcher (take 510 (sealed body))).a
  sealed_a = rw sealed_front (sealed_at 0)

  sealed_b : at (sealed body) 511 ≡ (fletcher (take 510 (sealed body))).b
  sealed_b = rw sealed_front (sealed_at 1)

-- ---- 16 bytes of head and rows with zeros after them, under their check

module _ (head rows : List ℕ) (used : ℕ) (head_sized : length head ≡ 16) (rows_sized : length rows ≡ used) (fits : used ≤ 494)
  where
    body_length : length (head ++ padded 494 rows) ≡ 510
    unfolding padded
    body_length = simp (length-append, length-replicate) (omega arith)

    -- after the rows there are zeros
    rest_zero : all_zero (part (16 + used) 510 (sealed (head ++ padded 494 rows))) ≡ true
    unfolding padded
    rest_zero =
        let up_to_lem : 510 ≡ 16 + used + (494 - used) = omega arith in
        ap all_zero
        (ap (λ (k : ℕ). part (16 + used) k (sealed (head ++ padded 494 rows))) up_to_lem
        ∙ part_sized (16 + used) (494 - used) (sealed (head ++ padded 494 rows))
        ∙ part_left (494 - used) (16 + used) (head ++ padded 494 rows) _ (rw body_length (omega arith))
        ∙ part_right (494 - used) used 16 head _ head_sized
        ∙ ap (take (494 - used)) (drop_at rows _ used rows_sized ∙ ap (λ (k : ℕ). replicate (494 - k) 0) rows_sized)
        ∙ take_all (494 - used) (replicate (494 - used) 0) (rw length-replicate (omega arith)))
        ∙ zero-replicate (494 - used)

    -- a part of the rows
    row_part : (n m : ℕ) → m + n ≤ used → take n (drop (16 + m) (sealed (head ++ padded 494 rows))) ≡ take n (drop m rows)
    unfolding padded
    row_part n m l =
        part_left n (16 + m) (head ++ padded 494 rows) _ (rw body_length (omega arith)) ∙ part_right n m 16 head _ head_sized
        ∙ part_left n m rows _ (omega arith)

-- ---- the block of rows keeps the rules

module _ (version tasks workers cells : ℕ) (rows : List ℕ) (index : ℕ) (fits : 480 * index + 48 * rows_in tasks index ≤ length rows) where
  own_sized : length (take (48 * rows_in tasks index) (drop (480 * index) rows)) ≡ 48 * rows_in tasks index
  own_sized = part_length (480 * index) (48 * rows_in tasks index) rows fits

  own_length : length (body_of version tasks workers cells rows index) ≡ 510
  unfolding body_of
  own_length = body_length (head_of version tasks workers cells index) _ (48 * rows_in tasks index) refl own_sized (omega arith)

  pub block_length : length (block_of version tasks workers cells rows index) ≡ 512
  unfolding block_of
  block_length = simp (length-append, own_length)

  -- a row of the block is the task's row among all rows
  pub block_row : (j : ℕ) → j < rows_in tasks index
      → take 48 (drop (16 + 48 * j) (block_of version tasks workers cells rows index)) ≡ take 48 (drop (480 * index + 48 * j) rows)
  unfolding block_of body_of
  block_row j l =
      row_part (head_of version tasks workers cells index) _ (48 * rows_in tasks index) refl own_sized (omega arith) 48 (48 * j)
      (omega arith)
      ∙ part_of_part 48 (48 * j) (48 * rows_in tasks index) (480 * index) rows (omega arith)

  pub block_kept : known_version version ≡ true → WithinLimits tasks workers cells
      → BlockKept (blocks_for tasks) version tasks workers cells index (block_of version tasks workers cells rows index)
  unfolding block_of body_of
  block_kept known sizes =
      record {
        check_a = sealed_a (body_of version tasks workers cells rows index) own_length;
        check_b = sealed_b (body_of version tasks workers cells rows index) own_length;
        head = omega arith;
        known = known;
        sizes = sizes;
        fewest = refl;
        rest = rest_zero (head_of version tasks workers cells index) _ (48 * rows_in tasks index) refl own_sized (omega arith);
      }
