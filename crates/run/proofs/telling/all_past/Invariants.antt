use Rattle.std.proofs.Common.{◌≡◌, true, get_or, leb}
use Rattle.layout.specs.Lists.{each, all}
use Rattle.arrays.specs.Arrays.{no_place}
use Rattle.run.proofs.telling.all_past.Given as goal

-- the workers so far are past the last task
abbrev pub invariant-loop-w : goal.invariant-loop-w
invariant-loop-w l = all (λ v. leb l.tasks (get_or l.places v no_place).passed) (each l.w (λ v. v)) ≡ true
