use Rattle.std.proofs.Common.{◌∙◌}
use Rattle.tb_file_journal.proofs.Blanks.{content_read}
use Rattle.tb_file_journal.proofs.opening.look.Goals as goal

pub returns-in-Ok-clause-found : goal.returns-in-Ok-clause-found
returns-in-Ok-clause-found g c file held = c.content_of.ensures ∙ content_read c.in-Ok.count file c.read_kept.new.into c.read_kept.auto.into (c.in-Ok.ensures.bytes file held)

pub returns-in-Ok-clause-finds : goal.returns-in-Ok-clause-finds
returns-in-Ok-clause-finds g c t =
    let before = g.D.Device.disk c.args.device.now in
    let reads = c.in-Ok.ensures.reads t in record {
      ok = c.content_of.ensures ∙ content_read c.in-Ok.count before.seen c.read_kept.new.into c.read_kept.auto.into (c.in-Ok.ensures.bytes before.seen (g.met.D.Device.holds_seen c.args.device.now t));
      settled = reads.settled;
      seen = reads.seen;
      sound = c.in-Ok.ensures.sound t;
      any_moment = reads.any_moment;
      cause = record { ok = (c.in-Ok.ensures.cause t).ok; cause = tt };
    }
