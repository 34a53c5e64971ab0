use Rattle.std.proofs.Common.{refl}
use Rattle.tb_edge_file.proofs.PartCauses.{output_failed, dump_failed, round_reads_on}
use Rattle.tb_edge_file.proofs.Rounds.{round_lost, round_broken}
use Rattle.tb_edge_file.proofs.following.send_round.Goals as goal

pub returns-in-Ok-finish-clause-cause : goal.returns-in-Ok-finish-clause-cause
returns-in-Ok-finish-clause-cause g c t read has =
    let old = g.D.Device.disk c.args.device.now in
    round_reads_on old (g.D.Device.disk c.write_entries.new.device) c.args.after read c.write_entries.new.scan _ _ _
    (c.in-Ok.ensures.writes old.seen read (g.met.D.Device.holds_seen c.args.device.now t) has) (c.in-Ok.ensures.cause t read has) (c.in-Ok.ensures.untouched t).seen

pub returns-in-Err-finish-clause-sends : goal.returns-in-Err-finish-clause-sends
returns-in-Err-finish-clause-sends g c file read holds place =
    round_lost c.args.after read file _ _ _ _ _ _ refl (c.in-Ok.ensures.writes file read holds place) c.in-Err-finish.ensures.sent.1

pub returns-in-Err-finish-clause-cause : goal.returns-in-Err-finish-clause-cause
returns-in-Err-finish-clause-cause g c t read has =
    output_failed (g.D.Device.disk c.args.device.now) (g.D.Device.disk c.write_entries.new.device) _ refl (c.in-Ok.ensures.cause t read has).ok

pub returns-in-Err-clause-sends : goal.returns-in-Err-clause-sends
returns-in-Err-clause-sends g c file read holds place =
    round_broken c.args.after read file _ c.in-Err.fault c.dumped_fault.result _ _ c.dumped_fault.ensures (c.in-Err.ensures.writes file read holds place)

pub returns-in-Err-clause-cause : goal.returns-in-Err-clause-cause
returns-in-Err-clause-cause g c t read has =
    dump_failed (g.D.Device.disk c.args.device.now) (g.D.Device.disk c.write_entries.new.device) c.in-Err.fault c.dumped_fault.result c.dumped_fault.ensures
    (c.in-Err.ensures.cause t read has)
