-- `worst_case` meets its contract: no sum goes out of range, and what is left of the total is the owners' steps.
use Rattle.std.proofs.Common.{ℕ, ◌*◌, refl, ap, arith, rules}
use Rattle.longest.proofs.Figures.{figures_refused, figures, left_is, figures_are}
use Rattle.longest.proofs.worst_case.Goals as goal

pub returns-in_err-measured : goal.returns-in_err-measured
returns-in_err-measured c =
    let met = figures_refused _ _ c.in_err-measured.ensures in
    search rules

pub overflow_sub-stretches : goal.overflow_sub-stretches
overflow_sub-stretches c = (figures _ c.in_ok-measured.measured c.in_ok-measured.ensures).some_worker

pub overflow_sub-stretches-2 : goal.overflow_sub-stretches-2
overflow_sub-stretches-2 c = omega (arith, (figures _ c.in_ok-measured.measured c.in_ok-measured.ensures).total_is)

pub overflow_sub-result : goal.overflow_sub-result
overflow_sub-result c =
    let m = c.in_ok-measured.measured in
    let f = figures _ m c.in_ok-measured.ensures in
    omega (arith, f.total_below, ap (λ (n : ℕ). n * m.flow.workers) (left_is _ m c.in_ok-measured.ensures))

pub returns : goal.returns
returns c = figures_are _ c.in_ok-measured.measured c.in_ok-measured.ensures _ _ (left_is _ c.in_ok-measured.measured c.in_ok-measured.ensures) refl
