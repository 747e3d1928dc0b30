-- `machine::stepping::step` meets its contract: the three ways through the code are the rules' three cases.
use Rattle.std.proofs.Common.{◌≡◌, ◌+◌, get_or, rules}
use Rattle.layout.specs.File.{row_at}
use Rattle.arrays.specs.Arrays.{lent, no_place}
use Rattle.machine.proofs.Steps.{step_past, step_other, step_own}
use Rattle.machine.proofs.stepping.step.Goals as goal

pub returns-then-tasks-place : goal.returns-then-tasks-place
returns-then-tasks-place c =
    let a = c.args in
    let t = a.tasks.now in
    step_past t.file.now t.version t.count a.w (lent a.cells.now a.kept.now) c.requires.steppable.0 c.requires.steppable.1 c.if-tasks-place.true

-- the row that is read is the next task's
pub returns-then-from-w : goal.returns-then-from-w
returns-then-from-w c =
    let a = c.args in
    let t = a.tasks.now in
    let row_is : c.row_from-row.result.now ≡ row_at t.file.now ((get_or a.kept.now.places a.w no_place).passed + 1) = search rules in
    rw (c.register.ensures, c.next_task.ensures, row_is)
    (step_other t.file.now t.version t.count a.w (lent a.cells.now a.kept.now) c.requires.steppable.0 c.requires.steppable.1
    c.if-tasks-place.false
    (rw (← row_is, ← c.from.ensures) (search rules)))

pub returns : goal.returns
returns c =
    let a = c.args in
    let t = a.tasks.now in
    let row_is : c.row_from-row.result.now ≡ row_at t.file.now ((get_or a.kept.now.places a.w no_place).passed + 1) = search rules in
    step_own t.file.now t.version t.count a.w (lent a.cells.now a.kept.now) c.requires.steppable.0 c.requires.steppable.1
    c.if-tasks-place.false _ (lent c.own_step.new.cells c.own_step.new.kept)
    (rw (← row_is, ← c.from.ensures) (search rules))
    (rw (← row_is) c.own_step.ensures)
