-- `kept_from` meets its contract: the rows of counters and the places are taken from their numbers, one after another.
use Rattle.std.proofs.Common.{rules, [], map}
use Rattle.arrays.specs.Numbers.{counter_of_numbers, place_of_numbers}
use Rattle.by_number.proofs.Filled.{none_filled, filled_more, all_filled}
use Rattle.by_number.proofs.kept_from.Goals as goal

pub loop-w-init : goal.loop-w-init
loop-w-init c =
    record {
      shared_taken = c.take_row.ensures;
      rows_taken = none_filled _ _ _ (search rules);
      places_taken = none_filled _ _ _ (search rules);
    }

pub loop-w-preserved : goal.loop-w-preserved
loop-w-preserved c =
    record {
      shared_taken = c.loop-w.invariant.shared_taken;
      rows_taken = filled_more (λ row. map counter_of_numbers row) _ _ _ _ [] c.loop-w.invariant.rows_taken (search rules) (search rules);
      places_taken = filled_more place_of_numbers _ _ _ _ [] c.loop-w.invariant.places_taken (search rules) (search rules);
    }

pub returns : goal.returns
returns c =
    let i = c.loop-w.invariant in
    let rows = all_filled (λ row. map counter_of_numbers row) _ _ _ [] i.rows_taken (search rules) in
    let places = all_filled place_of_numbers _ _ _ [] i.places_taken (search rules) in
    λ k. record { shared = i.shared_taken k; private = rows k; places = places k }
