use Rattle.std.proofs.Common.{refl}
use Rattle.std.proofs.Common.{inl, inr}
use Rattle.tb_file_journal.specs.declared.faults.JournalFault.TheVariants.{Memory}
use Rattle.tb_file_journal.specs.declared.opening.OpenFault.TheVariants.{Device}
use Rattle.tb_edge_file.proofs.PartCauses.{part_cause_then, reads_on_then, all_quiet, stopped_reading}
use Rattle.tb_edge_file.proofs.Rounds.{reached, no_more}
use Rattle.tb_edge_file.specs.Waiting.{Begun, Again}
use Rattle.tb_edge_file.proofs.following.send_on.Goals as goal

pub loop-init : goal.loop-init
loop-init g c = record {
  waits = Begun;
  sends = λ file start grown. grown;
  cause = λ t read has. record { quiet = λ fault. refl; seen = refl; read = read; place = has };
}

pub loop-preserved : goal.loop-preserved
loop-preserved g c = record {
  waits = Again c.loop.invariant.waits c.in-More.ensures;
  sends = λ file start grown. c.in-Ok.ensures.sends file start (c.loop.invariant.sends file start grown);
  cause = λ t read has.
      let goes = c.loop.invariant.cause t read has in
      reads_on_then (g.O.Reading.Device.disk c.args.device.now) _ (g.O.Reading.Device.disk c.send_more.new.device) goes.quiet goes.seen c.send_more.new.scan
      (c.in-Ok.ensures.cause t goes.read goes.place);
}

pub returns-in-Enough : goal.returns-in-Enough
returns-in-Enough g c = record {
  sends = λ file start grown. reached g.O.Reading.Device.holds c.args.after file start _ _ _ (c.loop.invariant.sends file start grown);
  ends = record { between = _; waits = c.loop.invariant.waits; ends = c.in-Enough.ensures };
  cause = λ t read has. all_quiet _ _ (c.loop.invariant.cause t read has).quiet;
}

pub returns-in-Parted : goal.returns-in-Parted
returns-in-Parted g c = record {
  sends = λ file start grown. reached g.O.Reading.Device.holds c.args.after file start _ _ _ (c.loop.invariant.sends file start grown);
  ends = record { between = _; waits = c.loop.invariant.waits; ends = c.in-Parted.ensures };
  cause = λ t read has. all_quiet _ _ (c.loop.invariant.cause t read has).quiet;
}

pub returns-in-Err : goal.returns-in-Err
returns-in-Err g c = record {
  sends = λ file start grown. c.in-Err.ensures.sends file start (c.loop.invariant.sends file start grown);
  ends = Again c.loop.invariant.waits c.in-More.ensures;
  cause = λ t read has.
      let goes = c.loop.invariant.cause t read has in
      part_cause_then (g.O.Reading.Device.disk c.args.device.now) _ (g.O.Reading.Device.disk c.send_more.new.device) goes.quiet goes.seen _
      (c.in-Err.ensures.cause t goes.read goes.place);
}

pub returns : goal.returns
returns g c = record {
  sends = λ file start grown.
      no_more g.O.Reading.Device.holds c.args.after file start Memory _ _ _ _ refl (c.loop.invariant.sends file start grown);
  ends = c.loop.invariant.waits;
  cause = λ t read has.
      stopped_reading _ _ (Device Memory) _ refl (inl (inr (refl, (c.loop.invariant.cause t read has).quiet)));
}
