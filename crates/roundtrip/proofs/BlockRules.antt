-- What rules 2 to 5 say of a block, byte by byte: every test is an equation or an order between numbers, so no refusal is given
-- exactly where all of them hold.
use mathlib.Core.Path.{◌≡◌, refl}
use mathlib.Core.Bool.{true}
use mathlib.Core.List.{List}
use Prim.Native.Nat.{ℕ, ◌+◌, ◌*◌}
use native.Mathlib.Omega.{arith}
use borrow.Author.Tests.{eqb-true, eq-eqb, leb-true, le-leb}
use lib.ListN.{take}
use lib.Dec.{eqb}
use Rattle.layout.specs.Flow.{known_version, WithinLimits}
use Rattle.layout.specs.Lists.{all}
use Rattle.layout.specs.Bytes.{at, word, part, all_zero}
use Rattle.layout.specs.Refusal.{first_broken}
use Rattle.layout.specs.Fletcher.{fletcher}
use Rattle.layout.specs.Block.{block_refusal, blocks_for, rows_in, check_sound, head_sound, sizes_sound}
use Rattle.roundtrip.proofs.NoRefusal.{rule_kept, and_iff}

pub record Head (blocks version tasks workers cells index : ℕ) (block : List ℕ) : Type 0 where
  pub letter_s : at block 0 ≡ 83
  pub letter_f : at block 1 ≡ 70
  pub letter_l : at block 2 ≡ 76
  pub letter_w : at block 3 ≡ 87
  pub of_version : at block 4 ≡ version
  pub rows : at block 5 ≡ rows_in tasks index
  pub number : word block 6 ≡ index
  pub of_blocks : word block 8 ≡ blocks
  pub of_tasks : word block 10 ≡ tasks
  pub of_workers : at block 12 ≡ workers
  pub of_cells : at block 13 ≡ cells
  pub spare_14 : at block 14 ≡ 0
  pub spare_15 : at block 15 ≡ 0

pub record BlockKept (blocks version tasks workers cells index : ℕ) (block : List ℕ) : Type 0 where
  pub check_a : at block 510 ≡ (fletcher (take 510 block)).a
  pub check_b : at block 511 ≡ (fletcher (take 510 block)).b
  pub head : Head blocks version tasks workers cells index block
  pub known : known_version version ≡ true
  pub sizes : WithinLimits tasks workers cells
  pub fewest : blocks ≡ blocks_for tasks
  pub rest : all_zero (part (16 + 48 * at block 5) 510 block) ≡ true

module _ (blocks version tasks workers cells index : ℕ) (block : List ℕ) where
  pub block_keeps : block_refusal blocks version tasks workers cells index block ≡ 0 → BlockKept blocks version tasks workers cells index block
  unfolding block_refusal all
  block_keeps h =
      let rule : (i : ℕ) → _ = rule_kept _ refl h in
      let check = simp and_iff at (rule 0) in
      let head = simp and_iff at (rule 1) in
      let version_is = simp and_iff at (rule 2) in
      let of_version : at block 4 ≡ version = omega (arith, eqb-true) in
      let sizes = simp and_iff at (rule 3) in
      record {
        check_a = omega (arith, eqb-true);
        check_b = omega (arith, eqb-true);
        head = omega (arith, eqb-true);
        known = rw of_version at version_is.0;
        sizes = omega (arith, eqb-true, leb-true);
        fewest = omega (arith, eqb-true);
        rest = rule 4;
      }

  pub keeps_block : BlockKept blocks version tasks workers cells index block → block_refusal blocks version tasks workers cells index block ≡ 0
  unfolding block_refusal first_broken
  keeps_block h =
      let check : check_sound block ≡ true = simp and_iff (omega (arith, eq-eqb)) in
      let known : known_version (at block 4) ≡ true = rw h.head.of_version h.known in
      let same : eqb (at block 4) version ≡ true = eq-eqb _ _ h.head.of_version in
      let head : head_sound blocks index block ≡ true = simp and_iff (omega (arith, eq-eqb)) in
      let sizes : sizes_sound blocks tasks workers cells index block ≡ true = simp and_iff (omega (arith, eq-eqb, le-leb)) in
      rw (check, head, known, same, sizes, h.rest)
