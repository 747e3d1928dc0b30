-- The bytes that came so far are the reader's first ones, and each turn is for at least one more.
use Rattle.std.proofs.Common.{◌-◌, ◌≤◌, length, take}
use Rattle.std.specs.Io.KnownBytes.{Consumes}
use Rattle.console.proofs.read_up_to.Given as goal

abbrev pub invariant-loop-done : goal.invariant-loop-done
invariant-loop-done g l =
    (l.done ≤ length l.input) × Consumes (g.R.Read.remaining l.initial.reader) (g.R.Read.remaining l.reader) (take l.done l.input)

abbrev pub decreases-loop-done : goal.decreases-loop-done
decreases-loop-done g l = length l.input - l.done
