-- `turns::in_turn` meets its contract: the bytes passed name the workers in turn, and the next is at hand.
use Rattle.std.proofs.Common.{refl, sym, ap, ◌∙◌, arith, add-one}
use Rattle.layout.specs.Lists.{each}
use Rattle.steps.specs.Turns.{next_turn, turn}
use Rattle.measure.proofs.Filled.{filled_more}
use Rattle.measure.proofs.turns.in_turn.Goals as goal

pub loop-byte-init : goal.loop-byte-init
unfolding turn each
loop-byte-init c = record { next = refl; filled = refl }

pub loop-byte-preserved : goal.loop-byte-preserved
unfolding turn
loop-byte-preserved c =
    let a = c.args in
    let l = c.loop-byte in
    record {
      next = c.next_turn-w.ensures ∙ ap (next_turn a.workers) l.invariant.next ∙ ap (turn a.workers) (sym (add-one l.byte-index));
      filled = filled_more (turn a.workers) a.schedule.now l.byte-items l.byte-index (omega arith) l.invariant.filled l.w l.invariant.next;
    }
