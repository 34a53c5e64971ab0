use Rattle.std.proofs.Common.{refl, arith}
use Rattle.tb_sectors.proofs.Remainders.{after_is}
use Rattle.tb_sectors.proofs.checksums.remainder_on.Goals as goal

pub returns : goal.returns
returns c = after_is c.args.sum c.args.byte _ c.byte_after-low.result (omega arith) refl c.byte_after-low.ensures
