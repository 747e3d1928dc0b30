-- `checking::check` meets its contract: of an accepted file block 0 is there, and what it states is within the limits.
use Rattle.std.proofs.Common.{rules, sym, ap}
use Rattle.layout.specs.Refusal.{Answer}
use Rattle.file.proofs.Outcomes.{some_block, sizes_fit, version_fits}
use Rattle.file.proofs.checking.check.Goals as goal

pub of-first-requires : goal.of-first-requires
of-first-requires c = some_block _ (ap (λ (a : Answer). a.number) (sym c.in_ok-accept.ensures))

pub invariant_of-result : goal.invariant_of-result
invariant_of-result c =
    let fit = sizes_fit _ (ap (λ (a : Answer). a.number) (sym c.in_ok-accept.ensures)) in
    let byte = version_fits _ (ap (λ (a : Answer). a.number) (sym c.in_ok-accept.ensures)) in
    search rules
