-- `access_steps` meets its contract: the sum is whole where no access is left.
use Rattle.std.proofs.Common.{◌≡◌, ◌+◌, Bool, cond, get_or, sym, ap, ◌∙◌, arith, rules}
use Rattle.layout.specs.Row.{task_of, access_at}
use Rattle.measure.proofs.Sums.{access_next, access_end}
use Rattle.measure.proofs.access_steps.Goals as goal
use Rattle.measure.proofs.access_steps.Goals.{then-is_write, else-is_write}

pub loop-index-preserved : goal.loop-index-preserved
unfolding task_of
loop-index-preserved c =
    let row = c.args.row.now in
    let l = c.loop-index in
    let one : c.if-is_write.steps ≡ cond c.is_write.result 4 2 =
    elim c.if-is_write.branch [
      | then-is_write w ↦ w.steps-is ∙ sym (ap (λ (b : Bool). cond b 4 2) w.if-is_write.true)
      | else-is_write w ↦ w.steps-is ∙ sym (ap (λ (b : Bool). cond b 4 2) w.if-is_write.false)
    ] in
    record {
      few = elim c.if-is_write.branch [ then-is_write w ↦ omega arith | else-is_write w ↦ omega arith ];
      whole =
          access_next (get_or row 1 0) (access_at row) l.index l.steps _ _ c.is_write.result (omega arith) (search rules)
          (ap (λ n. l.steps + n) one) l.invariant.whole;
    }

pub returns : goal.returns
unfolding task_of
returns c =
    let row = c.args.row.now in
    let l = c.loop-index in
    (access_end (get_or row 1 0) (access_at row) l.index l.steps _ (omega arith) l.invariant.whole, omega arith)
