-- `filler::fill` meets its contract: head, rows and check, each in its part, are the block.
use Rattle.std.proofs.Common.{arith}
use Rattle.std.proofs.lemmas.List.{take_at}
use Rattle.std.proofs.Math.Nat.{add-sub_cancel_left}
use Rattle.layout.specs.Block.{block_of, body_of}
use Rattle.filler.proofs.fill.Goals as goal

pub returns : goal.returns
unfolding block_of body_of
returns c =
    rw (c.seal.ensures, c.copy_from_slice.ensures.after, c.head.ensures, take_at c.rows.new.part _ 494 (omega arith), c.rows.ensures, add-sub_cancel_left, c.rows_in.ensures)
