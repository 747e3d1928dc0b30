use Rattle.std.proofs.Common.{◌≡◌, ℕ, ◌+◌, ◌-◌, ◌≤◌, List, ◌++◌, rules, length, take, sym, subst, length-take-le}
use Rattle.std.proofs.lemmas.List.{take-append-le}
use Rattle.std.proofs.KnownBytes.{Consumes-trans}
use Rattle.std.proofs.Math.Seq.{take-append-add}
use Rattle.std.specs.Io.KnownBytes.{Consumes}
use borrow.Rule.Slice.PartMut.{put_mid, post_of}
use Rattle.console.proofs.read_up_to.Goals as goal

-- What stood before a part that is read, and the first bytes that came into it.
take-read : (at k n : ℕ) (old came : List ℕ) → at ≤ length old → n ≤ length came → take at old ++ take n came ≡ take (at + n) (put_mid at k old came)
take-read at k n old came within fits =
    sym (rw (length-take-le at old within, take-append-le n came (post_of at k old) fits) at (take-append-add (take at old) (came ++ post_of at k old) n))

pub loop-done-preserved : goal.loop-done-preserved
loop-done-preserved g c =
    let within = c.loop-done.invariant.0 in
    let fits = c.in-Ok.ensures.bound.0 in
    let joined = take-read c.loop-done.done (length c.loop-done.input - c.loop-done.done) c.in-Ok.n c.loop-done.input c.read.new.buf within fits in
    (search rules, subst (Consumes _ _) joined (Consumes-trans _ _ _ _ _ c.loop-done.invariant.1 c.in-Ok.ensures.bytes.0))
