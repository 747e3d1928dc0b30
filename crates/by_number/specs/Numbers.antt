-- What bare numbers of counters and places stand for, and which numbers stand for a counter and a place.
use Rattle.std.specs.Prelude.{cond, List, [], ◌∷◌, ℕ, map, set}
use Rattle.steps.specs.Step.{Outcome}
use Rattle.arrays.specs.declared.Counter.{Counter}
use Rattle.arrays.specs.declared.Stage.{Stage}
use Rattle.arrays.specs.declared.Stage.TheVariants.{WaitWrite, WaitReads, Operate, End, Post}
use Rattle.arrays.specs.declared.Place.{Place}
use Rattle.arrays.specs.declared.Kept.{Kept}
use Rattle.arrays.specs.Arrays.{Arrays, lent, moves_on}
use Rattle.arrays.specs.Numbers.{counter_of_numbers, place_of_numbers}

-- the two numbers of a counter
abbrev pub numbers_of_counter : Counter → List ℕ
numbers_of_counter counter = counter.last_write ∷ counter.reads ∷ []

-- the stages are numbered from 0
abbrev pub number_of_stage : Stage → ℕ
number_of_stage WaitWrite = 0
number_of_stage WaitReads = 1
number_of_stage Operate = 2
number_of_stage End = 3
number_of_stage Post = 4

-- the four numbers of a place
abbrev pub numbers_of_place : Place → List ℕ
numbers_of_place place = place.passed ∷ number_of_stage place.stage ∷ place.index ∷ place.row ∷ []

-- what numbers stand for: shared counters, each worker's counters, and places; and the arrays of a step with these
abbrev pub kept_of : List (List ℕ) → List (List (List ℕ)) → List (List ℕ) → Kept
kept_of shared private places =
    record {
      shared = map counter_of_numbers shared;
      private = map (λ row. map counter_of_numbers row) private;
      places = map place_of_numbers places;
    }

abbrev pub standing_for : List ℕ → List (List ℕ) → List (List (List ℕ)) → List (List ℕ) → Arrays
standing_for cells shared private places = lent cells (kept_of shared private places)

-- the places after a step: the worker's numbers are those of the next place where it moves on, and all others stay
abbrev pub numbers_after : Outcome → List (List ℕ) → ℕ → Place → List (List ℕ)
numbers_after why places w next = cond (moves_on why) (set places w (numbers_of_place next)) places
