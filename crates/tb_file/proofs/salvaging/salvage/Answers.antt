use Rattle.std.proofs.Common.{[], ℕ, List, sym, subst}
use Rattle.tb_file_journal.specs.Scans.{HasRead}
use Rattle.tb_file.specs.RecordSteps.{HoldsRead}
use Rattle.tb_file.proofs.Causes.{has_start_then}
use Rattle.tb_file.proofs.Salvages.{ok_of, moments_of, start_unsalvaged, none_made}
use Rattle.tb_file.proofs.salvaging.salvage.Goals as goal

pub returns-in-Ok-clause-salvaged : goal.returns-in-Ok-clause-salvaged
returns-in-Ok-clause-salvaged g c =
    ok_of (HoldsRead (g.D.Device.holds c.start.new.device) [] c.in-Ok.scan) (g.D.Device.holds c.args.from.now)
    (λ file of. (c.in-Ok.ensures.same file of, c.in-Ok.ensures.begun file of)) g.N.Device.tells g.N.Device.disk c.salvage_by.result c.salvage_by.ensures.salvaged

pub returns-in-Ok-clause-unsalvaged : goal.returns-in-Ok-clause-unsalvaged
returns-in-Ok-clause-unsalvaged g c file of = c.salvage_by.ensures.unsalvaged file (c.in-Ok.ensures.same file of, c.in-Ok.ensures.begun file of)

pub returns-in-Ok-clause-any_moment : goal.returns-in-Ok-clause-any_moment
returns-in-Ok-clause-any_moment g c t =
    moments_of (HoldsRead (g.D.Device.holds c.start.new.device) [] c.in-Ok.scan) (g.D.Device.holds c.args.from.now)
    (λ file of. (c.in-Ok.ensures.same file of, c.in-Ok.ensures.begun file of)) (g.N.Device.disk c.args.into) _ (c.salvage_by.ensures.any_moment t)

pub returns-in-Ok-clause-cause_old : goal.returns-in-Ok-clause-cause_old
returns-in-Ok-clause-cause_old g c t =
    let old = g.D.Device.disk c.args.from.now in
    let mid = g.D.Device.disk c.start.new.device in
    let seen = c.start.ensures.seen t in
    let here = subst (λ (f : List ℕ). HasRead [] f c.in-Ok.scan) (sym seen) (c.in-Ok.ensures.begun old.seen (g.met.D.Device.holds_seen c.args.from.now t)) in
    has_start_then old mid (g.D.Device.disk c.salvage_by.new.from) (c.in-Ok.ensures.cause t).ok seen _ (c.salvage_by.ensures.cause_old t here)

pub returns-in-Err-clause-unsalvaged : goal.returns-in-Err-clause-unsalvaged
returns-in-Err-clause-unsalvaged g c file holds = start_unsalvaged c.in-Err.fault file (c.in-Err.ensures.begun file holds) c.in-Err.ensures.refused

pub returns-in-Err-clause-any_moment : goal.returns-in-Err-clause-any_moment
returns-in-Err-clause-any_moment g c t = none_made (g.D.Device.holds c.args.from.now) (g.N.Device.disk c.args.into) (g.met.N.Device.only_now c.args.into)
