use Rattle.std.proofs.Common.{rules}
use Rattle.tb_file_journal.proofs.Publishing.{stage_failed, latch_done}
use Rattle.tb_file_journal.proofs.journals.publish.Goals as goal

pub returns-in-Ok-clause-publishes : goal.returns-in-Ok-clause-publishes
returns-in-Ok-clause-publishes g c t records fits spells some =
    let staged = c.write_kept.ensures.writes t in
    let opened = c.write_kept-in-Ok.ensures.writes t in
    latch_done (g.D.Device.disk c.args.device.now) (c.requires.whole t) c.args.batch.now c.split_at.result.1.now records
    fits spells some c.split_at.ensures.back c.args.end (c.requires.ends t)
    (g.D.Device.disk c.write_kept.new.device) c.write_kept.result c.in-Ok.is (search rules)
    (g.D.Device.disk c.write_kept-in-Ok.new.device) c.write_kept-in-Ok.result (search rules)

pub returns-in-Err-clause-publishes : goal.returns-in-Err-clause-publishes
returns-in-Err-clause-publishes g c t records fits spells some =
    let staged = c.write_kept.ensures.writes t in
    stage_failed (g.D.Device.disk c.args.device.now) (c.requires.whole t) c.args.batch.now c.split_at.result.1.now records
    fits spells some c.split_at.ensures.back c.args.end (c.requires.ends t)
    (g.D.Device.disk c.write_kept.new.device) c.write_kept.result c.in-Err.fault c.in-Err.is (search rules)
