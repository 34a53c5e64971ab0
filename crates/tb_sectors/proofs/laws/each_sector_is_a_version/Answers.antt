use Rattle.tb_sectors.proofs.Versions.{each_sector_is_a_version}
use Rattle.tb_sectors.proofs.laws.each_sector_is_a_version.Goals as goal

pub returns : goal.returns
returns c = each_sector_is_a_version
