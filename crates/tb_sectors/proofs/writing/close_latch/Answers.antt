use Rattle.std.proofs.Common.{List, ℕ, ◌-◌, subst}
use Rattle.tb_sectors.specs.Steps.{OverwritesRange}
use Rattle.tb_sectors.proofs.Commits.{closes_latch}
use Rattle.tb_sectors.proofs.writing.close_latch.Goals as goal

pub returns : goal.returns
returns g c =
    closes_latch c.args.end (g.D.RangeFile.disk c.args.device.now) (g.D.RangeFile.disk c.write_and_sync.new.file) c.write_and_sync.result c.requires.within
    (subst (λ (bytes : List ℕ). OverwritesRange (c.args.end - 498) bytes c.write_and_sync.result (g.D.RangeFile.disk c.args.device.now) (g.D.RangeFile.disk c.write_and_sync.new.file))
    c.latch_of.ensures c.write_and_sync.ensures)
