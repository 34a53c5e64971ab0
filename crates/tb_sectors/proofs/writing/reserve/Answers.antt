use Rattle.tb_sectors.proofs.Commits.{reserves}
use Rattle.tb_sectors.proofs.writing.reserve.Goals as goal

pub returns : goal.returns
returns g c =
    reserves c.args.end c.args.zeros.now c.commit.result (g.D.SectorFile.disk c.args.device.now) (g.D.SectorFile.disk c.commit.new.device) c.requires.ends c.requires.zeros c.requires.settled c.commit.ensures.writes
