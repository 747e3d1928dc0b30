-- `copy_rows` meets its contract: one row more is laid behind those before it.
use Rattle.std.proofs.Common.{rules, ◌+◌, refl, arith}
use Rattle.layout.specs.File.{row_at}
use Rattle.roundtrip.proofs.Places.{row_long}
use Rattle.file.proofs.Laid.{laid_none, laid_more}
use Rattle.reader.proofs.copy_rows.Goals as goal

pub loop-done-init : goal.loop-done-init
loop-done-init c = laid_none 48 _ _ _

pub loop-done-preserved : goal.loop-done-preserved
loop-done-preserved c =
    laid_more 48 (row_at c.args.file.now) (λ i. i + 1) c.args.rows.now c.loop-done.done _ _ _
    (λ i m. row_long c.args.file.now c.args.tasks i c.requires.whole (omega arith))
    c.loop-done.invariant refl (search rules)
