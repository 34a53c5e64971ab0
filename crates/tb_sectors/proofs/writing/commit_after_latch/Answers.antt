use Rattle.std.proofs.Common.{List, ℕ, ◌-◌, subst}
use Rattle.tb_sectors.specs.Steps.{OverwritesRange}
use Rattle.tb_sectors.proofs.Commits.{closed_failed, closed_commits}
use Rattle.tb_sectors.proofs.writing.commit_after_latch.Goals as goal

pub returns-in-Ok-clause-commits : goal.returns-in-Ok-clause-commits
returns-in-Ok-clause-commits g c =
    closed_commits c.args.end c.args.sectors.now (g.D.RangeFile.disk c.args.device.now) (g.D.RangeFile.disk c.write_and_sync.new.file) (g.D.RangeFile.disk c.write_and_sync-in-Ok.new.file)
    c.write_and_sync.result c.write_and_sync-in-Ok.result c.requires.within c.in-Ok.is c.write_and_sync.ensures
    (subst (λ (bytes : List ℕ). OverwritesRange (c.args.end - 498) bytes c.write_and_sync-in-Ok.result (g.D.RangeFile.disk c.write_and_sync.new.file) (g.D.RangeFile.disk c.write_and_sync-in-Ok.new.file))
    c.latch_of.ensures c.write_and_sync-in-Ok.ensures)

pub returns-in-Err-clause-commits : goal.returns-in-Err-clause-commits
returns-in-Err-clause-commits g c =
    closed_failed c.args.end c.args.sectors.now c.in-Err.fault (g.D.RangeFile.disk c.args.device.now) (g.D.RangeFile.disk c.write_and_sync.new.file) c.requires.within c.in-Err.ensures
