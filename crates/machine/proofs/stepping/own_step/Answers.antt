-- `machine::stepping::own_step` meets its contract: an own step that advances is changed and moved on as the rules say, and one
-- that is held stores nothing.
use Rattle.std.proofs.Common.{◌≡◌, Err, length, arith, rules}
use Rattle.arrays.specs.Arrays.{lent}
use Rattle.arrays.proofs.Changes.{small_access, small_index}
use Rattle.machine.proofs.Steps.{stays, own_step_made, own_step_held}
use Rattle.machine.proofs.stepping.own_step.Goals as goal

-- away from the operations the worker stands at an access
pub held-requires-clause-access_there : goal.held-requires-clause-access_there
held-requires-clause-access_there c = small_access c.args.row.now (length c.args.cells.now) _ _ c.requires.row_fits.0 c.requires.stands

pub next-requires-clause-place_within : goal.next-requires-clause-place_within
next-requires-clause-place_within c =
    let fits = c.requires.row_fits in
    (fits.3, small_index c.args.row.now (length c.args.cells.now) _ _ fits.0 c.requires.stands)

pub next-requires-clause-access_there : goal.next-requires-clause-access_there
next-requires-clause-access_there c =
    (λ other. (small_access c.args.row.now (length c.args.cells.now) _ _ c.requires.row_fits.0 c.requires.stands other).0, c.requires.row_found)

pub returns-in_err-held : goal.returns-in_err-held
returns-in_err-held c =
    let a = c.args in
    let why = c.in_err-held.field-0.0 in
    let same : c.from_residual.result ≡ Err why = search rules in
    rw same
    (own_step_held a.version a.row.now a.w (lent a.cells.now a.kept.now) _ c.requires.counters_fit.0 c.in_err-held.ensures (stays why))

pub returns : goal.returns
returns c =
    let a = c.args in
    let changed = c.change in
    rw c.next.ensures
    (own_step_made a.version a.row.now a.w (lent a.cells.now a.kept.now) (lent changed.new.cells changed.new.kept) c.in_ok-held.ensures
    changed.ensures.changed changed.ensures.places (omega (arith, c.requires.row_fits.2)))
