use Rattle.std.proofs.Common.{length}
use Rattle.tb_sectors.specs.Ranges.{IsTorn}
use Rattle.tb_sectors.specs.private.Outcomes.{torn_none, torn_whole}
use Rattle.tb_sectors.proofs.Commits.{failed, synced}
use Rattle.tb_sectors.proofs.writing.write_and_sync.Goals as goal

pub returns-in-Ok : goal.returns-in-Ok
returns-in-Ok g c =
    synced (IsTorn c.args.at (length c.args.bytes.now)) c.args.at c.args.bytes.now (g.D.RangeFile.disk c.args.file.now) (g.D.RangeFile.disk c.write_at.new.self)
    (g.met.D.RangeFile.only_now c.args.file.now) (torn_none _ _ _) (torn_whole c.args.at c.args.bytes.now _ c.requires)
    c.write_at.result c.write_at.ensures c.in-Ok.is (g.D.RangeFile.disk c.sync.new.self) c.sync.result c.sync.ensures

pub returns-in-Err : goal.returns-in-Err
returns-in-Err g c =
    failed (IsTorn c.args.at (length c.args.bytes.now)) c.args.at c.args.bytes.now (g.D.RangeFile.disk c.args.file.now) (g.D.RangeFile.disk c.write_at.new.self)
    (g.met.D.RangeFile.only_now c.args.file.now) (torn_none _ _ _) (torn_whole c.args.at c.args.bytes.now _ c.requires)
    c.write_at.result c.write_at.ensures c.in-Err.fault
