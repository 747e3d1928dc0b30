use Rattle.row.proofs.Keeps.{KeptSoFar}
use Rattle.row.proofs.Counted.modes_left.Given as goal

abbrev pub invariant-loop-i : goal.invariant-loop-i
invariant-loop-i l = KeptSoFar l.self.row.now l.i l.modes.digits
