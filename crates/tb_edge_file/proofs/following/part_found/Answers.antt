use Rattle.std.proofs.Common.{ℕ, List, [], sym, subst}
use Rattle.tb_file_journal.specs.Scans.{HasRead}
use Rattle.tb_edge_file.proofs.PartCauses.{part_cause_then, stopped_reading}
use Rattle.tb_edge_file.proofs.Rounds.{unread}
use Rattle.tb_edge_file.proofs.Waitings.{unwaited}
use Rattle.tb_edge_file.specs.Waiting.{written_by}
use Rattle.tb_edge_file.proofs.following.part_found.Goals as goal

pub returns-in-Ok : goal.returns-in-Ok
returns-in-Ok g c = record {
  writes = λ file holds. c.send_part-sent.ensures.writes file (c.in-Ok.ensures.same file holds) (c.in-Ok.ensures.begun file holds);
  ends = c.send_part-sent.ensures.ends;
  cause = λ t.
      let old = g.O.Reading.Device.disk c.args.device.now in
      let seen = c.in-Ok.ensures.seen t in
      let has = subst (λ (file : List ℕ). HasRead [] file c.in-Ok.scan) (sym seen)
      (c.in-Ok.ensures.begun old.seen (g.met.O.Reading.Device.holds_seen c.args.device.now t)) in
      part_cause_then old _ (g.O.Reading.Device.disk c.send_part-sent.new.device) (c.in-Ok.ensures.cause t).ok seen (written_by c.send_part-sent.result)
      (c.send_part-sent.ensures.cause t has);
}

pub returns-in-Err : goal.returns-in-Err
returns-in-Err g c = record {
  writes = λ file holds.
      unread c.args.part.follows c.args.part.after c.args.rules file c.in-Err.fault c.opened_fault.result _ c.opened_fault.ensures (c.in-Err.ensures.begun file holds);
  ends = unwaited (λ at. g.O.Opener.pauses at c.args.name.now) c.args.part.follows c.opened_fault.result c.args.opener.now;
  cause = λ t. stopped_reading _ _ c.in-Err.fault c.opened_fault.result c.opened_fault.ensures (c.in-Err.ensures.cause t).cause;
}
