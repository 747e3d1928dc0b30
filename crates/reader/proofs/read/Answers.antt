-- `read` meets its contract: a refusal comes before any byte is written, and the rows of an accepted file are laid into the lent bytes.
use Rattle.std.proofs.Common.{rules, refl}
use Rattle.file.proofs.Outcomes.{rows_fit}
use Rattle.reader.proofs.Outcomes.{passed_on, read_short, read_done}
use Rattle.reader.proofs.read.Goals as goal

pub returns-in_err-flow : goal.returns-in_err-flow
returns-in_err-flow c =
    let met = passed_on c.args.file.now c.args.rows.now c.in_err-flow.field-0.0 c.in_err-flow.ensures in
    search rules

pub returns-then-rows-flow : goal.returns-then-rows-flow
returns-then-rows-flow c =
    let short = read_short c.args.file.now c.args.rows.now c.in_ok-flow.flow c.in_ok-flow.ensures (search rules) in
    search rules

pub copy_rows-requires-clause-whole : goal.copy_rows-requires-clause-whole
copy_rows-requires-clause-whole c = (rows_fit c.in_ok-flow.ensures refl).0

pub returns : goal.returns
returns c = read_done c.args.file.now c.args.rows.now c.in_ok-flow.flow c.in_ok-flow.ensures _ (search rules) c.copy_rows.ensures
