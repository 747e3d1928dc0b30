use Rattle.std.proofs.Common.{◌∙◌, ap}
use Rattle.layout.specs.Fletcher.{Sums}
use Rattle.fletcher.proofs.Parts.{part_taken, none_left}
use Rattle.fletcher.proofs.sums_of.Goals as goal

pub loop-part-preserved : goal.loop-part-preserved
loop-part-preserved c =
    let now = c.in-Some.ensures.steps in
    record {
      size = now.0 ∙ c.loop-part.invariant.size;
      reduced = c.after-done.ensures.reduced;
      rest = part_taken _ _ _ _ _ _ _ c.loop-part.invariant.rest now.1.0 c.after-done.ensures.a c.after-done.ensures.b;
    }

pub returns-clause-a : goal.returns-clause-a
returns-clause-a c = ap (λ (s : Sums). s.a) (none_left _ _ _ c.loop-part.invariant.rest c.in-None.ensures.steps.1.0)

pub returns-clause-b : goal.returns-clause-b
returns-clause-b c = ap (λ (s : Sums). s.b) (none_left _ _ _ c.loop-part.invariant.rest c.in-None.ensures.steps.1.0)
