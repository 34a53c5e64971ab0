use Rattle.tb_sectors.proofs.Remainders.{word_rows}
use Rattle.tb_sectors.proofs.checksums.word_after.Goals as goal

pub returns : goal.returns
returns c = word_rows c.args.zeros c.args.word c.byte_after.result c.byte_after-2.result c.byte_after-3.result c.byte_after-4.result c.requires.least c.byte_after.ensures c.byte_after-2.ensures c.byte_after-3.ensures c.byte_after-4.ensures
