use Rattle.tb_sectors.proofs.Written.{batch_is_written}
use Rattle.tb_sectors.proofs.laws.batch_is_written.Goals as goal

pub returns : goal.returns
returns c = batch_is_written
