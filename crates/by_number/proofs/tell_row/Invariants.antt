-- The counters before the next are told.
use Rattle.by_number.specs.Numbers.{numbers_of_counter}
use Rattle.by_number.proofs.Filled.{Filled}
use Rattle.by_number.proofs.tell_row.Given as goal

abbrev pub invariant-loop-c : goal.invariant-loop-c
invariant-loop-c l = Filled numbers_of_counter l.counters l.numbers l.c
