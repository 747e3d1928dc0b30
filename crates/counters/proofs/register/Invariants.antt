-- What all accesses would have noted is what those from j on have yet to note, and each counter of the worker's row has had at most j
-- reads added.
use Rattle.std.proofs.Common.{◌≡◌, [], ℕ, ◌+◌, ◌≤◌, get_or, drop}
use Rattle.layout.specs.Lists.{each}
use Rattle.layout.specs.Row.{access_at}
use Rattle.arrays.specs.Arrays.{counter_at, noted_all, most_reads}
use Rattle.counters.proofs.register.Given as goal

abbrev pub invariant-loop-j : goal.invariant-loop-j
invariant-loop-j l =
    record {
      few : (c : ℕ) → (counter_at (get_or l.private l.w []) c).reads ≤ most_reads + l.j;
      left : noted_all l.fn.private l.w l.number (each (get_or l.row 1 0) (access_at l.row))
          ≡ noted_all l.private l.w l.number (drop l.j (each (get_or l.row 1 0) (access_at l.row)));
    }
