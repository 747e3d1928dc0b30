-- The sums, kept whole, are those of the definition once they are reduced, and they grow slowly enough to fit 32 bits over 4,096 bytes.
use Rattle.std.proofs.Common.{◌≡◌, ◌+◌, ◌*◌, ◌≤◌, drop}
use Rattle.layout.specs.Fletcher.{sums, after}
use Rattle.layout.proofs.Fletcher.{reduced}
use Rattle.fletcher.proofs.Sums.after.Given as goal

abbrev pub invariant-loop-byte : goal.invariant-loop-byte
invariant-loop-byte l =
    record {
      a_fits : l.a ≤ 254 + 255 * l.byte-index;
      b_fits : l.b ≤ 254 + 1044734 * l.byte-index;
      rest : after (sums l.fn.self.a l.fn.self.b) l.bytes ≡ after (reduced l.a l.b) (drop l.byte-index l.bytes);
    }
