use Rattle.tb_file_journal.proofs.Kept.{shorten_failed, shorten_synced}
use Rattle.tb_file_journal.proofs.opening.cut_kept.Goals as goal

pub returns-in-Ok-clause-cuts : goal.returns-in-Ok-clause-cuts
returns-in-Ok-clause-cuts g c t =
    shorten_synced c.args.len (g.D.Device.disk c.args.device.now) (g.D.Device.disk c.cut.new.self) (g.met.D.Device.only_now c.args.device.now)
    c.cut.result (c.cut.ensures.cuts t) (g.D.Device.disk c.sync.new.self) c.sync.result c.in-Ok.is (c.sync.ensures.syncs t)

pub returns-in-Err-clause-cuts : goal.returns-in-Err-clause-cuts
returns-in-Err-clause-cuts g c t =
    shorten_failed c.args.len (g.D.Device.disk c.args.device.now) (g.D.Device.disk c.cut.new.self) (g.met.D.Device.only_now c.args.device.now)
    c.cut.result (c.cut.ensures.cuts t) c.in-Err.fault c.in-Err.is
