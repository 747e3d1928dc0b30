-- `read_through` ends with its calls: the reader itself never ends.
use Rattle.std.proofs.Common.{◌-◌}
use Rattle.row_reader_cases.proofs.read_through.Given as goal

abbrev pub decreases-loop-call : goal.decreases-loop-call
decreases-loop-call l = l.calls - l.call
