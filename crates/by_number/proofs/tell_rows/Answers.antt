-- `tell_rows` meets its contract: each row is told, one after another.
use Rattle.std.proofs.Common.{rules, [], map}
use Rattle.by_number.specs.Numbers.{numbers_of_counter}
use Rattle.by_number.proofs.Filled.{none_filled, filled_more, all_filled}
use Rattle.by_number.proofs.tell_rows.Goals as goal

pub loop-w-init : goal.loop-w-init
loop-w-init c = none_filled _ _ _ (search rules)

pub loop-w-preserved : goal.loop-w-preserved
loop-w-preserved c = filled_more (λ row. map numbers_of_counter row) _ _ _ _ [] c.loop-w.invariant (search rules) (search rules)

pub returns : goal.returns
returns c = all_filled (λ row. map numbers_of_counter row) _ _ _ [] c.loop-w.invariant (search rules)
