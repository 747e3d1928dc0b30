-- The rows before the next are told.
use Rattle.std.proofs.Common.{map}
use Rattle.by_number.specs.Numbers.{numbers_of_counter}
use Rattle.by_number.proofs.Filled.{Filled}
use Rattle.by_number.proofs.tell_rows.Given as goal

abbrev pub invariant-loop-w : goal.invariant-loop-w
invariant-loop-w l = Filled (λ row. map numbers_of_counter row) l.counters l.numbers l.w
