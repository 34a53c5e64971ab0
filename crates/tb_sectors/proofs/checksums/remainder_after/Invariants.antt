use Rattle.std.proofs.Common.{◌≡◌, length}
use Rattle.tb_sectors.specs.Checksum.{remainder}
use Rattle.tb_sectors.proofs.Remainders.{AreBytes}
use Rattle.tb_sectors.proofs.checksums.remainder_after.Given as goal

abbrev pub decreases-loop-rest : goal.decreases-loop-rest
decreases-loop-rest l = length l.rest

abbrev pub invariant-loop-rest : goal.invariant-loop-rest
invariant-loop-rest l = record {
  sum : remainder l.rest l.sum ≡ remainder l.fn.bytes l.fn.start;
  bytes : AreBytes l.rest;
}
