use Rattle.tb_sectors.proofs.Written.{torn_is_cleared}
use Rattle.tb_sectors.proofs.laws.torn_is_cleared.Goals as goal

pub returns : goal.returns
returns c = torn_is_cleared
