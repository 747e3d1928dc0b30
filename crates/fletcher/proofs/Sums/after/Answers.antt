use Rattle.std.proofs.Common.{ap}
use Rattle.layout.specs.Fletcher.{Sums}
use Rattle.layout.proofs.Fletcher.{late_end}
use Rattle.fletcher.proofs.Sums.after.Goals as goal

pub returns-clause-a : goal.returns-clause-a
returns-clause-a c = ap (λ (s : Sums). s.a) (late_end _ _ _ _ c.loop-byte-test.false c.loop-byte.invariant.rest)

pub returns-clause-b : goal.returns-clause-b
returns-clause-b c = ap (λ (s : Sums). s.b) (late_end _ _ _ _ c.loop-byte-test.false c.loop-byte.invariant.rest)
