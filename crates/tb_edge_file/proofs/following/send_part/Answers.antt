use Rattle.std.proofs.Common.{refl}
use Rattle.tb_edge_file.proofs.PartCauses.{output_failed}
use Rattle.tb_edge_file.proofs.Rounds.{part_sent, start_cut}
use Rattle.tb_edge_file.proofs.Waitings.{unwaited}
use Rattle.tb_edge_file.specs.Waiting.{written_by}
use Rattle.tb_edge_file.proofs.following.send_part.Goals as goal

pub returns-in-Ok : goal.returns-in-Ok
returns-in-Ok g c = record {
  writes = λ file holds place.
      part_sent (g.O.Reading.Device.holds c.send_entries.new.device) c.args.part.follows c.args.part.after c.args.rules file _ _ _ (written_by c.send_entries.result)
      c.in-Ok.ensures
      (rw c.floor_of-after.ensures at (c.send_entries.ensures.sends file holds place));
  ends = c.send_entries.ensures.ends;
  cause = c.send_entries.ensures.cause;
}

pub returns-in-Err : goal.returns-in-Err
returns-in-Err g c = record {
  writes = λ file holds place.
      start_cut c.args.part.follows c.args.part.after c.args.rules file _ _ c.in-Err.fault c.in-Err.ensures.0 c.in-Err.ensures.1 place.begins;
  ends = unwaited (λ at. g.O.Opener.pauses at c.args.name.now) c.args.part.follows c.in-Err.fault c.args.opener.now;
  cause = λ t has. output_failed _ _ c.in-Err.fault c.in-Err.ensures.0 (λ fault. refl);
}
