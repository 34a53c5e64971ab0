use Rattle.tb_sectors.proofs.Commits.{clears}
use Rattle.tb_sectors.proofs.writing.clear.Goals as goal

pub returns : goal.returns
returns g c = clears c.args.at c.args.sectors.now c.commit.result (g.D.SectorFile.disk c.args.device.now) (g.D.SectorFile.disk c.commit.new.device) c.commit.ensures.writes
