-- Counters and places from bare numbers.
use Rattle.std.specs.Prelude.{cond, List, ℕ, get_or, eqb}
use Rattle.arrays.specs.declared.Counter.{Counter}
use Rattle.arrays.specs.declared.Stage.{Stage}
use Rattle.arrays.specs.declared.Stage.TheVariants.{WaitWrite, WaitReads, Operate, End, Post}
use Rattle.arrays.specs.declared.Place.{Place}

-- the last write and the reads
abbrev pub counter_of_numbers : List ℕ → Counter
counter_of_numbers numbers = record { last_write = get_or numbers 0 0; reads = get_or numbers 1 0 }

-- the stages are numbered from 0, and every number above 3 is the last one's
abbrev pub stage_of_number : ℕ → Stage
stage_of_number number =
    cond (eqb number 0) WaitWrite (cond (eqb number 1) WaitReads (cond (eqb number 2) Operate (cond (eqb number 3) End Post)))

-- the tasks gone past, the stage, the index, and where the next task's row starts
abbrev pub place_of_numbers : List ℕ → Place
place_of_numbers numbers =
    record {
      passed = get_or numbers 0 0;
      stage = stage_of_number (get_or numbers 1 0);
      index = get_or numbers 2 0;
      row = get_or numbers 3 0;
    }
