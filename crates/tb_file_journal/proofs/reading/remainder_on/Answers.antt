use Rattle.std.proofs.Common.{refl, arith}
use Rattle.tb_file_journal.proofs.Remainders.{after_is}
use Rattle.tb_file_journal.proofs.reading.remainder_on.Goals as goal

pub returns : goal.returns
returns c = after_is c.args.sum c.args.byte _ c.byte_after-low.result (omega arith) refl c.byte_after-low.ensures
