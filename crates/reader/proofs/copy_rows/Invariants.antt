-- The rows so far stand one after another, and the lent bytes behind them are as they were.
use Rattle.std.proofs.Common.{◌≡◌, ◌+◌}
use Rattle.layout.specs.File.{row_at}
use Rattle.file.proofs.Laid.{laid}
use Rattle.reader.proofs.copy_rows.Given as goal

abbrev pub invariant-loop-done : goal.invariant-loop-done
invariant-loop-done l = l.rows ≡ laid 48 (row_at l.file) (λ i. i + 1) l.fn.rows l.done
