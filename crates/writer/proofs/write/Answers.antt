-- `writer::write` meets its contract: a refusal comes before any byte is written, and the blocks of accepted rows are laid
-- into the lent output.
use Rattle.std.proofs.Common.{ap₂, ◌∙◌, arith}
use Rattle.layout.specs.Refusal.{refusal}
use Rattle.refusal.specs.Numbers.{number_of}
use Rattle.writer.proofs.Order.{rows_refused, counted, flow_refused, flow_made, given_refused, output_short}
use Rattle.writer.proofs.Outcomes.{refused_is, refused_as, write_done}
use Rattle.writer.proofs.write.Goals as goal

pub returns-in_err-tasks : goal.returns-in_err-tasks
returns-in_err-tasks c =
    refused_as _ _ _ _ _ _ (rows_refused _ _ _ _ _ c.whole_rows.ensures c.in_err-tasks.ensures.value) _ c.from_residual.ensures

-- from here on, the rows are whole rows
pub returns-in_err-flow : goal.returns-in_err-flow
returns-in_err-flow c =
    refused_as _ _ _ _ _ _ (flow_refused _ _ _ _ _ (counted c.whole_rows.ensures c.in_ok-tasks.ensures.ok_part) c.in_err-flow.ensures) _
    c.from_residual-in_err-flow.ensures

-- and from here on, there is a flow of the version and the sizes asked for
pub returns-in_err-given_met : goal.returns-in_err-given_met
returns-in_err-given_met c =
    let made = flow_made c.in_ok-flow.flow (counted c.whole_rows.ensures c.in_ok-tasks.ensures.ok_part) c.in_ok-flow.ensures in
    refused_as _ _ _ _ _ _ (given_refused made _ _ c.in_err-given_met.ensures) _ c.from_residual-in_err-given_met.ensures

pub returns-then-out-bytes : goal.returns-then-out-bytes
returns-then-out-bytes c =
    let made = flow_made c.in_ok-flow.flow (counted c.whole_rows.ensures c.in_ok-tasks.ensures.ok_part) c.in_ok-flow.ensures in
    refused_is _ _ _ _ _ _
    (ap₂ (λ rule place. refusal (number_of rule) place) c.at.ensures.rule c.at.ensures.place
    ∙ output_short made c.in_ok-given_met.ensures _ (omega arith))

pub returns : goal.returns
returns c =
    let made = flow_made c.in_ok-flow.flow (counted c.whole_rows.ensures c.in_ok-tasks.ensures.ok_part) c.in_ok-flow.ensures in
    write_done made c.in_ok-given_met.ensures _ _ c.blocks_for-bytes.ensures (omega arith) c.fill_blocks.ensures
