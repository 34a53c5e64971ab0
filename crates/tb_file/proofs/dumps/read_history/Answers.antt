use Rattle.std.proofs.Common.{[], ℕ, List, sym, subst}
use Rattle.tb_file_journal.specs.Scans.{HasRead}
use Rattle.tb_file.proofs.Causes.{has_start_then}
use Rattle.tb_file.proofs.dumps.read_history.Goals as goal

pub returns-in-Ok-clause-found : goal.returns-in-Ok-clause-found
returns-in-Ok-clause-found g c file holds = c.history_by.ensures.found file (c.in-Ok.ensures.same file holds) (c.in-Ok.ensures.begun file holds)

pub returns-in-Ok-clause-cause : goal.returns-in-Ok-clause-cause
returns-in-Ok-clause-cause g c t =
    let old = g.D.Device.disk c.args.device.now in
    let mid = g.D.Device.disk c.start.new.device in
    let seen = c.start.ensures.seen t in
    let here = subst (λ (f : List ℕ). HasRead [] f c.in-Ok.scan) (sym seen) (c.in-Ok.ensures.begun old.seen (g.met.D.Device.holds_seen c.args.device.now t)) in
    has_start_then old mid (g.D.Device.disk c.history_by.new.device) (c.in-Ok.ensures.cause t).ok seen c.history_by.result (c.history_by.ensures.cause t here)
