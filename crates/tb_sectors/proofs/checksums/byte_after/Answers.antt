use Rattle.tb_sectors.proofs.Remainders.{row_is}
use Rattle.tb_sectors.proofs.checksums.byte_after.Goals as goal

pub returns : goal.returns
returns c = row_is c.args.byte c.args.zeros c.requires.byte c.requires.least c.requires.most
