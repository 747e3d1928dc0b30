-- `tell_row` meets its contract: each counter is told by its numbers, one after another.
use Rattle.std.proofs.Common.{rules}
use Rattle.arrays.specs.Arrays.{nothing}
use Rattle.by_number.specs.Numbers.{numbers_of_counter}
use Rattle.by_number.proofs.Filled.{none_filled, filled_more, all_filled}
use Rattle.by_number.proofs.tell_row.Goals as goal

pub loop-c-init : goal.loop-c-init
loop-c-init c = none_filled _ _ _ (search rules)

pub loop-c-preserved : goal.loop-c-preserved
loop-c-preserved c = filled_more numbers_of_counter _ _ _ _ nothing c.loop-c.invariant (search rules) (search rules)

pub returns : goal.returns
returns c = all_filled numbers_of_counter _ _ _ nothing c.loop-c.invariant (search rules)
