use Rattle.std.proofs.Common.{◌≡◌, drop}
use Rattle.tb_sectors.specs.Checksum.{remainder}
use Rattle.tb_sectors.proofs.checksums.bytes_after.Given as goal

abbrev pub invariant-loop-byte : goal.invariant-loop-byte
invariant-loop-byte l = remainder (drop l.byte-index l.bytes) l.sum ≡ remainder l.bytes l.fn.start
