use Rattle.tb_sectors.proofs.Written.{batch_has_its_bytes}
use Rattle.tb_sectors.proofs.laws.batch_has_its_bytes.Goals as goal

pub returns : goal.returns
returns c = batch_has_its_bytes
