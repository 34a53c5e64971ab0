use Rattle.tb_sectors.specs.private.Outcomes.{mixed_old, mixed_new}
use Rattle.tb_sectors.proofs.Commits.{sector_step, failed, synced, commits}
use Rattle.tb_sectors.proofs.writing.commit.Goals as goal

pub returns-in-Ok : goal.returns-in-Ok
returns-in-Ok g c =
    let writes = synced (sector_step (g.D.SectorFile.disk c.args.device.now) c.args.at c.args.sectors.now) c.args.at c.args.sectors.now (g.D.SectorFile.disk c.args.device.now)
    (g.D.SectorFile.disk c.write_at.new.self) (g.met.D.SectorFile.only_now c.args.device.now) (mixed_old _ _) (mixed_new _ _)
    c.write_at.result c.write_at.ensures c.in-Ok.is (g.D.SectorFile.disk c.sync.new.self) c.sync.result c.sync.ensures in
    record { writes = writes; commits = commits c.args.at c.args.sectors.now c.sync.result (g.D.SectorFile.disk c.args.device.now) (g.D.SectorFile.disk c.sync.new.self) writes }

pub returns-in-Err : goal.returns-in-Err
returns-in-Err g c =
    let writes = failed (sector_step (g.D.SectorFile.disk c.args.device.now) c.args.at c.args.sectors.now) c.args.at c.args.sectors.now (g.D.SectorFile.disk c.args.device.now)
    (g.D.SectorFile.disk c.write_at.new.self) (g.met.D.SectorFile.only_now c.args.device.now) (mixed_old _ _) (mixed_new _ _)
    c.write_at.result c.write_at.ensures c.in-Err.fault in
    record { writes = writes; commits = commits c.args.at c.args.sectors.now _ (g.D.SectorFile.disk c.args.device.now) (g.D.SectorFile.disk c.write_at.new.self) writes }
