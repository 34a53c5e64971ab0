use Rattle.tb_file_journal.proofs.Growths.{later_then}
use Rattle.tb_edge_file.proofs.Lives.{looked_still}
use Rattle.tb_edge_file.proofs.PartCauses.{round_cause_then, look_failed, later_seen}
use Rattle.tb_edge_file.proofs.Rounds.{once_more, no_more}
use Rattle.tb_edge_file.proofs.following.send_more.Goals as goal

pub returns-in-Ok-clause-sends : goal.returns-in-Ok-clause-sends
returns-in-Ok-clause-sends g c file start grown =
    let next = c.in-Ok.ensures.later grown.later grown.held in
    let place = c.go_on.ensures.reads grown.records grown.later next.later next.since grown.place in
    once_more g.D.Device.holds c.args.after file start grown.records next.later c.send_round.new.device c.send_round.new.scan c.send_round.result _ _
    (later_then file grown.later next.later grown.since next.since) (c.send_round.ensures.same next.later next.held) grown.sent
    (c.send_round.ensures.sends next.later grown.records next.held place)

pub returns-in-Ok-clause-looks : goal.returns-in-Ok-clause-looks
returns-in-Ok-clause-looks g c file held =
    looked_still g.D.Live.whole g.D.Device.holds c.args.device.now c.refresh.new.self c.send_round.new.device file c.send_round.result
    (c.in-Ok.ensures.later file held) c.send_round.ensures.same

pub returns-in-Ok-clause-cause : goal.returns-in-Ok-clause-cause
returns-in-Ok-clause-cause g c t read has =
    let old = g.D.Device.disk c.args.device.now in
    let mid = g.D.Device.disk c.refresh.new.self in
    let looks = c.in-Ok.ensures.looks t in
    round_cause_then old mid (g.D.Device.disk c.send_round.new.device) looks.cause.ok looks.looks.seen c.send_round.result c.send_round.new.scan
    (c.send_round.ensures.cause t read (c.go_on.ensures.reads read old.seen mid.seen (later_seen old mid looks.looks.seen) has))

pub returns-in-Err-clause-sends : goal.returns-in-Err-clause-sends
returns-in-Err-clause-sends g c file start grown =
    no_more g.D.Device.holds c.args.after file start c.in-Err.fault c.disk_fault.result c.args.device.now c.args.scan.now (g.W.Sink.output c.args.writer.now)
    c.disk_fault.ensures grown

pub returns-in-Err-clause-cause : goal.returns-in-Err-clause-cause
returns-in-Err-clause-cause g c t read has =
    look_failed (g.D.Device.disk c.args.device.now) (g.D.Device.disk c.refresh.new.self) c.in-Err.fault c.disk_fault.result c.disk_fault.ensures
    (c.in-Err.ensures.looks t)
