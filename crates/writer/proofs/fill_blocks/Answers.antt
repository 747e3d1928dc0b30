-- `writer::fill_blocks` meets its contract: each block is laid behind the ones before it.
use Rattle.std.proofs.Common.{◌≡◌, ◌*◌, ap, refl, ◌∙◌, arith}
use Rattle.layout.specs.Block.{blocks_for, block_of}
use Rattle.layout.specs.Write.{file_of}
use Rattle.file.proofs.Laid.{laid, laid_none, laid_more}
use Rattle.writer.proofs.Laid.{block_long}
use Rattle.writer.proofs.fill_blocks.Goals as goal

pub loop-index-init : goal.loop-index-init
loop-index-init c =
    let a = c.args in
    laid_none 512 (block_of a.flow.version a.flow.tasks a.flow.workers a.flow.cells a.rows.now) (λ i. i) a.out.now

pub loop-index-preserved : goal.loop-index-preserved
loop-index-preserved c =
    let a = c.args in
    let l = c.loop-index in
    laid_more 512 (block_of a.flow.version a.flow.tasks a.flow.workers a.flow.cells a.rows.now) (λ i. i) a.out.now
    l.index (512 * l.index) l.out c.fill.new.part
    (λ i m. block_long a.flow.version a.flow.tasks a.flow.workers a.flow.cells a.rows.now i c.requires.rows_whole (omega arith))
    l.invariant refl c.fill.ensures

pub returns : goal.returns
unfolding file_of
returns c =
    let a = c.args in
    let all : c.loop-index.index ≡ blocks_for a.flow.tasks = omega arith in
    c.loop-index.invariant
    ∙ ap (laid 512 (block_of a.flow.version a.flow.tasks a.flow.workers a.flow.cells a.rows.now) (λ i. i) a.out.now) all
