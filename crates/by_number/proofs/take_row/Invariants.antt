-- The counters before the next are taken.
use Rattle.arrays.specs.Numbers.{counter_of_numbers}
use Rattle.by_number.proofs.Filled.{Filled}
use Rattle.by_number.proofs.take_row.Given as goal

abbrev pub invariant-loop-c : goal.invariant-loop-c
invariant-loop-c l = Filled counter_of_numbers l.numbers l.counters l.c
