-- `tell_run` meets its contract: each worker's two words are written, and no other's.
use Rattle.std.proofs.Common.{◌≡◌, cond, refl, ap, ◌∙◌, arith, rules}
use Rattle.sflw.proofs.Workers.{told, first_words, all_told}
use Rattle.sflw.proofs.tell_run.Goals as goal

pub loop-w-init : goal.loop-w-init
unfolding told
loop-w-init c = refl

pub returns : goal.returns
returns c =
    let l = c.loop-w in
    let last : l.w ≡ 8 = omega arith in
    let finished : c.from-finished.result ≡ cond c.args.ran.finished 1 0 = search rules in
    l.invariant ∙ ap (told (first_words c.args.ran c.from-finished.result) c.args.ran.notes.latest) last ∙ all_told c.args.ran c.from-finished.result finished
