use Rattle.std.proofs.Common.{sym, ap, ◌∙◌, arith, rules}
use Rattle.layout.specs.Bytes.{at}
use Rattle.layout.specs.Row.{access_at, task_of, named_once}
use Rattle.layout.proofs.Modes.{each-drop-all}
use Rattle.modes.specs.Table.{table_of}
use Rattle.row.proofs.Once.{Turn, next_cell, next_mode, named_twice, named_next, table_next}
use Rattle.row.proofs.Counted.modes_of.Goals as goal
use Rattle.row.proofs.Counted.modes_of.Goals.{After-access_at-access}

-- one access more
turn : (c : After-access_at-access) → Turn c.args.self.row.now c.loop-j.j c.loop-j.modes.digits c.access_at-access.result.cell c.access_at-access.result.mode
turn c =
    record {
      sound = c.requires;
      more = search rules;
      most = omega arith;
      once = c.loop-j.invariant.once;
      table = c.loop-j.invariant.table;
      cell_is = c.access_at-access.ensures.cell;
      mode_is = c.access_at-access.ensures.mode;
    }

pub loop-j-init : goal.loop-j-init
unfolding task_of named_once table_of
loop-j-init c =
    let row = c.args.self.row.now in
    let none = each-drop-all (at row 1) (access_at row) c.args.self.accesses (omega arith) in
    record { once = ap named_once none; table = c.none-modes.ensures ∙ sym (ap table_of none) }

pub mode_in-requires : goal.mode_in-requires
mode_in-requires c = next_cell (turn (goal.at.mode_in-requires c).After-access_at-access)

pub returns-then-mode_in-ne0 : goal.returns-then-mode_in-ne0
returns-then-mode_in-ne0 c = named_twice (turn (goal.at.returns-then-mode_in-ne0 c).After-access_at-access) (λ e. c.if-mode_in-ne0.true (c.mode_in.ensures ∙ e))

pub with_mode-modes-requires-clause-cell_can_be : goal.with_mode-modes-requires-clause-cell_can_be
with_mode-modes-requires-clause-cell_can_be c = next_cell (turn (goal.at.with_mode-modes-requires-clause-cell_can_be c).After-access_at-access)

pub with_mode-modes-requires-clause-mode_can_be : goal.with_mode-modes-requires-clause-mode_can_be
with_mode-modes-requires-clause-mode_can_be c = next_mode (turn (goal.at.with_mode-modes-requires-clause-mode_can_be c).After-access_at-access)

pub loop-j-preserved : goal.loop-j-preserved
loop-j-preserved c =
    let t = turn (goal.at.loop-j-preserved c).After-access_at-access in
    record { once = named_next t (sym c.mode_in.ensures ∙ c.if-mode_in-ne0.false); table = c.with_mode-modes.ensures ∙ table_next t }
