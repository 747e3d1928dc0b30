use Rattle.std.proofs.Common.{◌≡◌, true, drop}
use Rattle.layout.specs.Row.{task_of, named_once}
use Rattle.modes.specs.Table.{table_of}
use Rattle.row.proofs.Counted.modes_of.Given as goal

abbrev pub invariant-loop-j : goal.invariant-loop-j
invariant-loop-j l =
    let passed = drop l.j (task_of l.self.row.now).accesses in
    record { once : named_once passed ≡ true; table : l.modes.digits ≡ table_of passed }
