use Rattle.tb_file_journal.proofs.Kept.{overwrite_failed, overwrite_synced}
use Rattle.tb_file_journal.proofs.Named.{call_other, syncs_other}
use Rattle.tb_file_journal.proofs.journals.write_kept.Goals as goal

pub returns-in-Ok-clause-other : goal.returns-in-Ok-clause-other
returns-in-Ok-clause-other g c = syncs_other c.sync.result c.sync.ensures.names

pub returns-in-Err-clause-other : goal.returns-in-Err-clause-other
returns-in-Err-clause-other g c = call_other c.in-Err.fault c.in-Err.ensures.names

pub returns-in-Ok-clause-writes : goal.returns-in-Ok-clause-writes
returns-in-Ok-clause-writes g c t =
    overwrite_synced c.args.at c.args.bytes.now (g.D.Device.disk c.args.device.now) (g.D.Device.disk c.write_at.new.self) (c.requires.within t) (g.met.D.Device.only_now c.args.device.now)
    c.write_at.result (c.write_at.ensures.writes t) (g.D.Device.disk c.sync.new.self) c.sync.result c.in-Ok.is (c.sync.ensures.syncs t)

pub returns-in-Err-clause-writes : goal.returns-in-Err-clause-writes
returns-in-Err-clause-writes g c t =
    overwrite_failed c.args.at c.args.bytes.now (g.D.Device.disk c.args.device.now) (g.D.Device.disk c.write_at.new.self) (c.requires.within t) (g.met.D.Device.only_now c.args.device.now)
    c.write_at.result (c.write_at.ensures.writes t) c.in-Err.fault c.in-Err.is
