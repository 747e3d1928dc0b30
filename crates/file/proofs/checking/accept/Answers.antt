-- `checking::accept` meets its contract: length, blocks and rows are asked in the order of the definition, and each part stands within what the
-- parts before it showed.
use Rattle.std.proofs.Common.{rules}
use Rattle.file.proofs.Order.{length_refused, counted, block_refused, rows_within, sizes_fit, row_answers}
use Rattle.file.proofs.checking.accept.Goals as goal

pub returns-in_err-blocks : goal.returns-in_err-blocks
returns-in_err-blocks c =
    let refused = length_refused c.args.file.now c.whole_blocks.ensures c.in_err-blocks.ensures.ok_part in
    search rules

pub blocks_met-requires : goal.blocks_met-requires
blocks_met-requires c =
    let whole = counted c.args.file.now c.whole_blocks.ensures c.in_ok-blocks.ensures.ok_part in
    search rules

pub returns-in_err-blocks_met : goal.returns-in_err-blocks_met
returns-in_err-blocks_met c =
    let whole = counted c.args.file.now c.whole_blocks.ensures c.in_ok-blocks.ensures.ok_part in
    let refused = block_refused whole _ c.in_err-blocks_met.ensures in
    search rules

pub rows_met-requires : goal.rows_met-requires
rows_met-requires c =
    let whole = counted c.args.file.now c.whole_blocks.ensures c.in_ok-blocks.ensures.ok_part in
    search (rules, rows_within whole c.in_ok-blocks_met.ensures, sizes_fit whole c.in_ok-blocks_met.ensures)

pub returns : goal.returns
returns c =
    row_answers (counted c.args.file.now c.whole_blocks.ensures c.in_ok-blocks.ensures.ok_part) c.in_ok-blocks_met.ensures c.rows_met.ensures
