-- `scheduled::walk` meets its contract: each step is noted, the three counts can be added, and what is told is told of the whole schedule's run.
use Rattle.std.proofs.Common.{arith, rules}
use Rattle.arrays.specs.Arrays.{lent}
use Rattle.machine.specs.Outcomes.{outcome_of}
use Rattle.run.proofs.Walking.{walk_begun, note_ready, stepped_on, counts_add, walk_ended}
use Rattle.run.proofs.scheduled.walk.Goals as goal

pub loop-byte-init : goal.loop-byte-init
loop-byte-init c =
    let tasks = c.args.tasks.now in
    record {
      sized = search rules;
      walking =
          rw (c.fresh-kept.ensures, c.none-notes.ensures)
          (walk_begun tasks.file.now tasks.version tasks.count c.args.cells.now c.args.schedule.now (rw c.requires.ready.0 tasks.ready));
    }

pub note-requires : goal.note-requires
note-requires c =
    let tasks = c.args.tasks.now in
    (search rules, note_ready tasks.file.now tasks.version tasks.count c.loop-byte.invariant.walking (omega arith) (outcome_of c.step-why.result) (omega arith))

pub loop-byte-preserved : goal.loop-byte-preserved
loop-byte-preserved c =
    let tasks = c.args.tasks.now in
    record {
      sized = search rules;
      walking =
          stepped_on tasks.file.now tasks.version tasks.count c.loop-byte.invariant.walking (omega arith) c.from-w.result (search rules) (lent c.step-why.new.cells c.step-why.new.kept)
          (outcome_of c.step-why.result) c.step-why.ensures c.note.new.self c.note.ensures.counts_after c.note.ensures.reasons_after c.note.ensures.cells_after;
    }

pub overflow_add-held : goal.overflow_add-held
overflow_add-held c =
    let tasks = c.args.tasks.now in
    omega (arith, counts_add tasks.file.now tasks.version tasks.count c.loop-byte.invariant.walking)

pub overflow_add-held-2 : goal.overflow_add-held-2
overflow_add-held-2 c =
    let tasks = c.args.tasks.now in
    omega (arith, counts_add tasks.file.now tasks.version tasks.count c.loop-byte.invariant.walking)

pub overflow_sub-advanced : goal.overflow_sub-advanced
overflow_sub-advanced c =
    let tasks = c.args.tasks.now in
    omega (arith, counts_add tasks.file.now tasks.version tasks.count c.loop-byte.invariant.walking)

pub returns : goal.returns
returns c =
    let tasks = c.args.tasks.now in
    walk_ended tasks.file.now tasks.version tasks.count c.loop-byte.invariant.walking (omega arith) (omega arith) c.args.workers c.done_tasks-done.result c.all_past-finished.result c.done_tasks-done.ensures c.all_past-finished.ensures
