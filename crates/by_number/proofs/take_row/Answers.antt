-- `take_row` meets its contract: each counter is taken from its numbers, one after another.
use Rattle.std.proofs.Common.{rules, []}
use Rattle.arrays.specs.Numbers.{counter_of_numbers}
use Rattle.by_number.proofs.Filled.{none_filled, filled_more, all_filled}
use Rattle.by_number.proofs.take_row.Goals as goal

pub loop-c-init : goal.loop-c-init
loop-c-init c = none_filled _ _ _ (search rules)

pub loop-c-preserved : goal.loop-c-preserved
loop-c-preserved c = filled_more counter_of_numbers _ _ _ _ [] c.loop-c.invariant (search rules) (search rules)

pub returns : goal.returns
returns c = all_filled counter_of_numbers _ _ _ [] c.loop-c.invariant (search rules)
