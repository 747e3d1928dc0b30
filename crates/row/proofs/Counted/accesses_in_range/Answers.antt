use Rattle.std.proofs.Common.{rules, tests}
use Rattle.std.proofs.lemmas.Iterator.{YieldsList-from_range}
use Rattle.std.proofs.lemmas.Iterator.Search.{all_from_yields_List}
use Rattle.layout.specs.Row.{access_at, access_in_range}
use Rattle.row.proofs.Indexes.{all_each}
use Rattle.row.proofs.Counted.accesses_in_range.Goals as goal

pub returns : goal.returns
returns c =
    let row = c.args.self.row.now in
    let n = c.args.self.accesses in
    rw (← c.args.self.accesses_are)
    (all_each (access_in_range c.args.cells) n (access_at row)
    (all_from_yields_List (λ j. access_in_range c.args.cells (access_at row j)) _ _ _ c.all.ensures.ran (YieldsList-from_range 0 n n (search rules) (search rules)) (λ x b q k. search (rules, tests))))
