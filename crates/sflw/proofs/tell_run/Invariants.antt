use Rattle.std.proofs.Common.{◌≡◌}
use Rattle.sflw.proofs.Workers.{told}
use Rattle.sflw.proofs.tell_run.Given as goal

-- the words of the workers so far are written
abbrev pub invariant-loop-w : goal.invariant-loop-w
invariant-loop-w l = l.answer ≡ told l.initial.answer l.notes.latest l.w
