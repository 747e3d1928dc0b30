use Rattle.std.proofs.Common.{arith, rules}
use Rattle.layout.specs.Flow.{most_cells}
use Rattle.layout.proofs.Modes.{earlier}
use Rattle.modes.proofs.Table.{table_first}
use Rattle.row.proofs.Keeps.{Turn, cells_fit, breaks, kept_next, kept_all}
use Rattle.row.proofs.Counted.modes_left.Goals as goal
use Rattle.row.proofs.Counted.modes_left.Goals.{After-operation_at-operation}

-- one operation more
turn : (c : After-operation_at-operation)
    → Turn c.args.self.row.now c.loop-i.i c.loop-i.modes.digits c.operation_at-operation.result.code c.operation_at-operation.result.a c.operation_at-operation.result.b
turn c =
    record {
      sound = c.requires.operations_sound;
      more = omega arith;
      kept = c.loop-i.invariant;
      code_is = c.operation_at-operation.ensures.code;
      cells_are = c.operation_at-operation.ensures.cells;
    }

pub loop-i-init : goal.loop-i-init
unfolding earlier
loop-i-init c =
    record { table = rw c.requires.table_of_row (table_first most_cells _ c.requires.accesses_in_range c.requires.named_once); rest = search rules; left = cc }

pub mode_in-of_a-requires : goal.mode_in-of_a-requires
mode_in-of_a-requires c = (cells_fit (turn (goal.at.mode_in-of_a-requires c).After-operation_at-operation)).0

pub mode_in-of_b-requires : goal.mode_in-of_b-requires
mode_in-of_b-requires c = (cells_fit (turn (goal.at.mode_in-of_b-requires c).After-operation_at-operation)).1

pub returns-then-not-keeps_modes : goal.returns-then-not-keeps_modes
returns-then-not-keeps_modes c = breaks (turn (goal.at.returns-then-not-keeps_modes c).After-operation_at-operation) cc

pub with_mode-modes-requires-clause-cell_can_be : goal.with_mode-modes-requires-clause-cell_can_be
with_mode-modes-requires-clause-cell_can_be c = (cells_fit (turn (goal.at.with_mode-modes-requires-clause-cell_can_be c).After-operation_at-operation)).0

pub loop-i-preserved : goal.loop-i-preserved
loop-i-preserved c =
    rw c.with_mode-modes.ensures (kept_next (turn (goal.at.loop-i-preserved c).After-operation_at-operation) cc)

pub returns : goal.returns
returns c = kept_all c.args.self.row.now c.loop-i.i c.loop-i.modes.digits (omega arith) c.loop-i.invariant
