use Rattle.tb_sectors.proofs.Losses.{sector_is_read_back}
use Rattle.tb_sectors.proofs.laws.sector_is_read_back.Goals as goal

pub returns : goal.returns
returns c = sector_is_read_back
