use Rattle.std.proofs.Common.{rules, tests}
use Rattle.std.proofs.lemmas.Iterator.{YieldsList-from_range}
use Rattle.std.proofs.lemmas.Iterator.Search.{all_from_yields_List}
use Rattle.layout.specs.Row.{operation_sound}
use Rattle.row.proofs.Indexes.{all_each}
use Rattle.row.proofs.Counted.used_sound.Goals as goal

pub returns : goal.returns
returns c =
    let row = c.args.self.row.now in
    let n = c.args.self.operations in
    rw (← c.args.self.operations_are)
    (all_each (operation_sound c.args.cells row) n (λ i. i)
    (all_from_yields_List (operation_sound c.args.cells row) _ _ _ c.all.ensures.ran (YieldsList-from_range 0 n n (search rules) (search rules)) (λ x b q k. search (rules, tests))))
