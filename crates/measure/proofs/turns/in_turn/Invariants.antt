use Rattle.std.proofs.Common.{◌≡◌, ◌++◌, drop}
use Rattle.layout.specs.Lists.{each}
use Rattle.steps.specs.Turns.{turn}
use Rattle.measure.proofs.turns.in_turn.Given as goal

-- the bytes passed name the workers in turn, and the next is at hand
abbrev pub invariant-loop-byte : goal.invariant-loop-byte
invariant-loop-byte l =
    record {
      next : l.w ≡ turn l.workers l.byte-index;
      filled : l.byte-items ≡ each l.byte-index (turn l.workers) ++ drop l.byte-index l.initial.byte-items;
    }
