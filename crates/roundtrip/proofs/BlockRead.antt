-- A block that keeps rules 2 to 5 is the block of its rows: the rules name every byte of the head, the zeros after the rows and
-- the two bytes of the check, and leave only the rows free.
use mathlib.Core.Path.{◌≡◌, sym, ap, ap₂, ◌∙◌}
use mathlib.Core.List.{List, [], ◌∷◌, ◌++◌}
use Prim.Native.Nat.{ℕ, ◌*◌}
use native.Mathlib.Omega.{arith}
use lib.ListN.{length, take, drop, length-drop, take-append-drop}
use lib.Seq.{take-add, take_all}
use Rattle.layout.specs.Lists.{each}
use Rattle.layout.specs.Bytes.{IsBytes, at, padded}
use Rattle.layout.specs.Fletcher.{fletcher}
use Rattle.layout.specs.Block.{blocks_for, rows_in, head_of, sealed}
use Rattle.roundtrip.proofs.Parts.{part_bytes, padded_back, word_back}
use Rattle.roundtrip.proofs.BlockRules.{BlockKept}

module _ (blocks version tasks workers cells index : ℕ) (block : List ℕ) (k : BlockKept blocks version tasks workers cells index block)
    (sized : length block ≡ 512) where
  head_back : IsBytes block → take 16 block ≡ head_of version tasks workers cells index
  unfolding each IsBytes
  head_back bytes =
      let number = word_back (at block 6) (at block 7) index (bytes 6) k.head.number in
      let of_blocks = word_back (at block 8) (at block 9) (blocks_for tasks) (bytes 8) (k.head.of_blocks ∙ k.fewest) in
      let of_tasks = word_back (at block 10) (at block 11) tasks (bytes 10) k.head.of_tasks in
      part_bytes 16 0 block (omega arith) ∙ (cc)

  -- the rows, with zeros after them
  rows_back : take 494 (drop 16 block) ≡ padded 494 (take (48 * rows_in tasks index) (drop 16 block))
  rows_back =
      sym (padded_back (48 * rows_in tasks index) 494 16 block (omega arith) (omega arith) (rw k.head.rows at k.rest))

  check_back : drop 510 block ≡ (fletcher (take 510 block)).a ∷ (fletcher (take 510 block)).b ∷ []
  unfolding each
  check_back =
      sym (take_all 2 (drop 510 block) (rw (length-drop, sized) (omega arith))) ∙ part_bytes 2 510 block (omega arith) ∙ (cc)

  pub block_back : IsBytes block
      → block ≡ sealed (head_of version tasks workers cells index ++ padded 494 (take (48 * rows_in tasks index) (drop 16 block)))
  block_back bytes =
      sym (take-append-drop 510 block) ∙ ap (λ (t : List ℕ). take 510 block ++ t) check_back
      ∙ ap sealed (take-add 16 494 block ∙ ap₂ ◌++◌ (head_back bytes) rows_back)
