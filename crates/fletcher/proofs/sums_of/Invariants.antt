-- The sums so far, carried on over the bytes that are left, are the sums over all.
use Rattle.std.proofs.Common.{◌≡◌, ◌<◌}
use Rattle.std.specs.Slice.Iter.{chunks_rest, chunks_size}
use Rattle.layout.specs.Fletcher.{sums, after, fletcher}
use Rattle.fletcher.proofs.sums_of.Given as goal

abbrev pub invariant-loop-part : goal.invariant-loop-part
invariant-loop-part l =
    record {
      size : chunks_size l.part-iterator ≡ 4096;
      reduced : (l.done.a < 255) × (l.done.b < 255);
      rest : fletcher l.fn.bytes ≡ after (sums l.done.a l.done.b) (chunks_rest l.part-iterator);
    }
