-- The pieces that the writer lays are blocks: one that is made of rows has its size.
use mathlib.Core.Path.{◌≡◌}
use mathlib.Core.List.{List}
use Prim.Native.Nat.{ℕ, ◌*◌, ◌<◌}
use native.Mathlib.Omega.{arith}
use lib.ListN.{length}
use Rattle.layout.specs.Block.{blocks_for, block_of}
use Rattle.roundtrip.proofs.BlockWritten.{block_length}

pub block_long : (version tasks workers cells : ℕ) (rows : List ℕ) (i : ℕ) → length rows ≡ 48 * tasks → i < blocks_for tasks
    → length (block_of version tasks workers cells rows i) ≡ 512
block_long version tasks workers cells rows i e l = block_length version tasks workers cells rows i (omega arith)
