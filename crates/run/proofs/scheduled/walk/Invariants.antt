use Rattle.std.proofs.Common.{◌≡◌, length}
use Rattle.arrays.specs.Arrays.{lent}
use Rattle.run.proofs.Walking.{Walking}
use Rattle.run.proofs.scheduled.walk.Given as goal

-- the machine that the arrays stand for, run over the bytes left, gives what the whole schedule gives from a fresh start, and what is kept of
-- the steps is what the rules tell of those made
abbrev pub invariant-loop-byte : goal.invariant-loop-byte
invariant-loop-byte l =
    record {
      sized : length l.cells ≡ length l.initial.cells;
      walking : Walking l.tasks.file.now l.tasks.version l.tasks.count l.initial.cells l.schedule l.byte-index (lent l.cells l.kept) l.notes;
    }
