use Rattle.std.proofs.Common.{[], ℕ, List, sym, subst}
use Rattle.tb_file_journal.specs.Scans.{HasRead}
use Rattle.tb_file.proofs.Causes.{has_dump_then}
use Rattle.tb_file.proofs.dumps.write_dump.Goals as goal

pub returns-in-Ok-clause-dumps : goal.returns-in-Ok-clause-dumps
returns-in-Ok-clause-dumps g c file holds = c.dump_by.ensures.dumps file (c.in-Ok.ensures.same file holds) (c.in-Ok.ensures.begun file holds)

pub returns-in-Ok-clause-cause : goal.returns-in-Ok-clause-cause
returns-in-Ok-clause-cause g c t =
    let old = g.D.Device.disk c.args.device.now in
    let mid = g.D.Device.disk c.start.new.device in
    let seen = c.start.ensures.seen t in
    let here = subst (λ (f : List ℕ). HasRead [] f c.in-Ok.scan) (sym seen) (c.in-Ok.ensures.begun old.seen (g.met.D.Device.holds_seen c.args.device.now t)) in
    has_dump_then old mid (g.D.Device.disk c.dump_by.new.device) (c.in-Ok.ensures.cause t).ok seen c.dump_by.result (c.dump_by.ensures.cause t [] here)
