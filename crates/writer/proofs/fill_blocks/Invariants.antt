-- The invariant of `writer::fill_blocks`: the blocks so far stand one after another, and the lent bytes behind them are as they were.
use Rattle.std.proofs.Common.{◌≡◌}
use Rattle.layout.specs.Block.{block_of}
use Rattle.file.proofs.Laid.{laid}
use Rattle.writer.proofs.fill_blocks.Given as goal

abbrev pub invariant-loop-index : goal.invariant-loop-index
invariant-loop-index l =
    l.out ≡ laid 512 (block_of l.flow.version l.flow.tasks l.flow.workers l.flow.cells l.rows) (λ i. i) l.fn.out l.index
