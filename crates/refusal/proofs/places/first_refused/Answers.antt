use Rattle.std.proofs.Common.{Ok, Err, ◌+◌, ap₂, ◌∙◌, sym, arith}
use Rattle.layout.specs.Refusal.{refusal}
use Rattle.refusal.specs.Numbers.{number_of}
use Rattle.refusal.proofs.First.{met_here, met_later, none_left}
use Rattle.refusal.proofs.places.first_refused.Goals as goal

pub returns-in-Err : goal.returns-in-Err
returns-in-Err g c =
    λ number premise.
    ap₂ (λ rule place. refusal (number_of rule) place) c.at.ensures.rule c.at.ensures.place
    ∙ met_here number c.loop-place.place (c.args.from + c.args.count) c.in-Err.rule (omega arith)
    (premise c.loop-place.place (Err c.in-Err.rule) (omega arith) (omega arith) c.in-Err.ensures)
    ∙ sym (c.loop-place.invariant number premise)

pub loop-place-preserved : goal.loop-place-preserved
loop-place-preserved g c =
    λ number premise.
    c.loop-place.invariant number premise
    ∙ met_later number c.loop-place.place (c.args.from + c.args.count) (omega arith)
    (premise c.loop-place.place (Ok c.in_default.field-0) (omega arith) (omega arith) c.in_default.ensures)

pub returns : goal.returns
returns g c = λ number premise. none_left number c.loop-place.place (c.args.from + c.args.count) (omega arith) ∙ sym (c.loop-place.invariant number premise)
