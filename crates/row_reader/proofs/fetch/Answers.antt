-- `fetch` meets its contract: the row stands within a file that the check accepts.
use Rattle.std.proofs.Common.{rules}
use Rattle.row_reader.proofs.Fetches.{refused_is, row_fits, row_is, end_is}
use Rattle.row_reader.proofs.fetch.Goals as goal

pub returns-in_err-flow : goal.returns-in_err-flow
returns-in_err-flow c = refused_is _ c.args.task _ c.in_err-flow.ensures c.from_residual.ensures

pub row_of-requires-clause-row_there : goal.row_of-requires-clause-row_there
row_of-requires-clause-row_there c =
    row_fits c.in_ok-flow.flow c.in_ok-flow.ensures c.args.task (search rules) (search rules)

pub returns-then-contains : goal.returns-then-contains
returns-then-contains c =
    row_is c.in_ok-flow.flow c.in_ok-flow.ensures c.args.task _ (search rules) (search rules) c.row_of.ensures

pub returns-else-contains : goal.returns-else-contains
returns-else-contains c = end_is c.in_ok-flow.flow c.in_ok-flow.ensures c.args.task (search rules)
