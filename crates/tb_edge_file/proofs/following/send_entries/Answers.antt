use Rattle.std.proofs.Common.{[], refl}
use Rattle.tb_edge_file.specs.Waiting.{written_by}
use Rattle.tb_edge_file.proofs.PartCauses.{part_cause_then, all_quiet}
use Rattle.tb_edge_file.proofs.Rounds.{first_round, one_round, first_broken}
use Rattle.tb_edge_file.proofs.Waitings.{unwaited}
use Rattle.tb_edge_file.proofs.following.send_entries.Goals as goal

pub returns-then-follows : goal.returns-then-follows
returns-then-follows g c = record {
  sends = λ file holds place.
      rw c.if-follows.true
      (c.send_on.ensures.sends file (g.W.Sink.output c.args.writer.now)
      (first_round g.O.Reading.Device.holds c.args.after file _ _ _ _ (c.in-Ok.ensures.same file holds) (c.in-Ok.ensures.sends file [] holds place)));
  ends = rw c.if-follows.true c.send_on.ensures.ends;
  cause = λ t has.
      let goes = c.in-Ok.ensures.cause t [] has in
      part_cause_then (g.O.Reading.Device.disk c.args.device.now) (g.O.Reading.Device.disk c.send_round.new.device) (g.O.Reading.Device.disk c.send_on.new.device)
      goes.quiet goes.seen (written_by c.send_on.result) (c.send_on.ensures.cause t goes.read goes.place);
}

pub returns-else-follows : goal.returns-else-follows
returns-else-follows g c = record {
  sends = λ file holds place.
      rw c.if-follows.false
      (one_round (g.O.Reading.Device.holds c.send_round.new.device) c.args.after file _ _ _ (c.in-Ok.ensures.same file holds)
      (c.in-Ok.ensures.sends file [] holds place));
  ends = rw c.if-follows.false refl;
  cause = λ t has. all_quiet _ _ (c.in-Ok.ensures.cause t [] has).quiet;
}

pub returns-in-Err : goal.returns-in-Err
returns-in-Err g c = record {
  sends = λ file holds place.
      first_broken c.args.follows c.args.after file c.send_round.new.scan _ _ c.in-Err.fault (c.in-Err.ensures.sends file [] holds place);
  ends = unwaited (λ at. g.O.Opener.pauses at c.args.name.now) c.args.follows c.in-Err.fault c.args.opener.now;
  cause = λ t has. c.in-Err.ensures.cause t [] has;
}
