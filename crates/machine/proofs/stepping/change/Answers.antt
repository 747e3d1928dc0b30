-- `machine::stepping::change` meets its contract: at each stage the code stores what the rules change at the own step tried there.
use Rattle.std.proofs.Common.{◌+◌, rules}
use Rattle.arrays.specs.Arrays.{lent, Stands}
use Rattle.arrays.proofs.Changes.{waited, made, posted, zeroed, ended}
use Rattle.machine.proofs.stepping.change.Goals as goal

pub returns-in-WaitWrite-clause-changed : goal.returns-in-WaitWrite-clause-changed
returns-in-WaitWrite-clause-changed c =
    let a = c.args in
    waited a.version a.row.now a.w (a.place.passed + 1) a.place.index (lent a.cells.now a.kept.now) c.requires.counters_fit.0 a.place.stage
    c.in-WaitWrite.is

pub returns-in-Operate-clause-changed : goal.returns-in-Operate-clause-changed
returns-in-Operate-clause-changed c =
    let a = c.args in
    rw (c.in-Operate.is, c.operate.ensures)
    (made a.version a.row.now a.w (a.place.passed + 1) a.place.index (lent a.cells.now a.kept.now) c.requires.counters_fit.0)

pub returns-then-is_write-clause-changed : goal.returns-then-is_write-clause-changed
unfolding Stands
returns-then-is_write-clause-changed c =
    let a = c.args in
    rw (c.in-End.is, c.from-cell.ensures, c.access_at-access.ensures.cell)
    (zeroed a.version (a.place.passed + 1) (record { shape = c.requires.counters_fit.0; worker = search rules; within = search rules })
    (search rules))

pub returns-else-is_write-clause-changed : goal.returns-else-is_write-clause-changed
unfolding Stands
returns-else-is_write-clause-changed c =
    let a = c.args in
    rw (c.in-End.is, c.note.ensures, c.from-cell.ensures, c.access_at-access.ensures.cell)
    (ended a.version (a.place.passed + 1) (record { shape = c.requires.counters_fit.0; worker = search rules; within = search rules })
    (search rules))

pub returns-in-Post-clause-changed : goal.returns-in-Post-clause-changed
unfolding Stands
returns-in-Post-clause-changed c =
    let a = c.args in
    rw (c.in-Post.is, c.note-in-Post.ensures, c.from-cell-in-Post.ensures, c.access_at.ensures.cell)
    (posted a.version (a.place.passed + 1) (record { shape = c.requires.counters_fit.0; worker = search rules; within = search rules }))
