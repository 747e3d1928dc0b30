-- The shared counters are taken, and so are the rows and the places before the next.
use Rattle.std.proofs.Common.{◌≡◌, map}
use Rattle.arrays.specs.Numbers.{counter_of_numbers, place_of_numbers}
use Rattle.by_number.proofs.Filled.{Filled}
use Rattle.by_number.proofs.kept_from.Given as goal

abbrev pub invariant-loop-w : goal.invariant-loop-w
invariant-loop-w l =
    record {
      shared_taken : l.kept.shared ≡ map counter_of_numbers l.shared;
      rows_taken : Filled (λ row. map counter_of_numbers row) l.«private» l.kept.«private» l.w;
      places_taken : Filled place_of_numbers l.places l.kept.places l.w;
    }
