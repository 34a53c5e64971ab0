use Rattle.std.proofs.Common.{◌∷◌, [], Ok, Err, sym, subst, ◌∙◌}
use Rattle.tb_file_journal.specs.Device.{LeavesOnly}
use Rattle.tb_file.specs.Keeping.{head_record}
use Rattle.tb_file.specs.Salvaging.{HasNewCause, MayBeSalvaged, new_part}
use Rattle.tb_file.specs.RecordSteps.{HoldsRead}
use Rattle.tb_file.proofs.Entered.{stays_none}
use Rattle.tb_file.proofs.Salvages.{salvaged_all, unsalvaged_all, moments_behind, moments_not_made, cause_behind, created_alone, created_cause}
use Rattle.tb_file.proofs.salvaging.salvage_behind.Goals as goal

pub returns-in-Ok-take_behind-clause-salvaged : goal.returns-in-Ok-take_behind-clause-salvaged
returns-in-Ok-take_behind-clause-salvaged g c =
    salvaged_all c.args.rules c.expose_bound.ensures g.N.Device.disk g.N.Device.tells (g.D.Device.holds c.args.from.now) c.args.scan.now c.in-Ok.keeper
    c.take_behind.new.keeper (λ t. c.in-Ok.ensures.kept t (c.requires.sound t)) c.in-Ok.ensures.empty
    (c.take_behind.ensures.stays_used.0 ∙ c.in-Ok.ensures.usable.kept) (c.take_behind.ensures.stays_used.1 ∙ c.in-Ok.ensures.uncut)
    c.in-Ok-take_behind.extent c.in-Ok-take_behind.stop c.in-Ok-take_behind.ensures.takes

pub returns-in-Err-take_behind-clause-unsalvaged : goal.returns-in-Err-take_behind-clause-unsalvaged
returns-in-Err-take_behind-clause-unsalvaged g c file of =
    unsalvaged_all c.args.rules c.expose_bound.ensures g.N.Device.disk g.N.Device.tells (g.D.Device.holds c.args.from.now) c.args.scan.now c.in-Ok.keeper
    c.take_behind.new.keeper (λ t. c.in-Ok.ensures.kept t (c.requires.sound t)) c.in-Ok.ensures.empty c.in-Err-take_behind.fault c.in-Err-take_behind.ensures.takes file of

pub returns-in-Ok-take_behind-clause-any_moment : goal.returns-in-Ok-take_behind-clause-any_moment
returns-in-Ok-take_behind-clause-any_moment g c t =
    moments_behind c.args.rules c.expose_bound.ensures g.N.Device.disk g.N.Device.tells (g.D.Device.holds c.args.from.now) c.args.scan.now c.in-Ok.keeper
    c.take_behind.new.keeper (λ u. c.in-Ok.ensures.kept u (c.requires.sound u)) c.in-Ok.ensures.empty t (Ok (c.in-Ok-take_behind.extent, c.in-Ok-take_behind.stop)) (g.N.Device.disk c.args.into)
    (c.in-Ok.ensures.blank t) (c.in-Ok.ensures.any_moment t (c.requires.sound t)) c.in-Ok-take_behind.ensures.takes

pub returns-in-Err-take_behind-clause-any_moment : goal.returns-in-Err-take_behind-clause-any_moment
returns-in-Err-take_behind-clause-any_moment g c t =
    let reads = HoldsRead (g.D.Device.holds c.args.from.now) (head_record c.args.rules.profile c.args.rules.clients_max ∷ []) c.args.scan.now in
    subst (λ d. LeavesOnly (g.N.Device.disk c.args.into) (g.N.Device.disk d) (MayBeSalvaged reads (g.N.Device.disk c.args.into))) (sym c.into_device.ensures)
    (moments_behind c.args.rules c.expose_bound.ensures g.N.Device.disk g.N.Device.tells (g.D.Device.holds c.args.from.now) c.args.scan.now c.in-Ok.keeper
    c.take_behind.new.keeper (λ u. c.in-Ok.ensures.kept u (c.requires.sound u)) c.in-Ok.ensures.empty t (Err c.in-Err-take_behind.fault) (g.N.Device.disk c.args.into)
    (c.in-Ok.ensures.blank t) (c.in-Ok.ensures.any_moment t (c.requires.sound t)) c.in-Err-take_behind.ensures.takes)

pub returns-in-Err-clause-any_moment : goal.returns-in-Err-clause-any_moment
returns-in-Err-clause-any_moment g c t =
    moments_not_made c.args.rules c.expose_bound.ensures (g.D.Device.holds c.args.from.now) c.args.scan.now (g.N.Device.disk c.args.into)
    (g.N.Device.disk c.in-Err.failed.device) (c.in-Err.ensures.any_moment t (c.requires.sound t))

pub returns-in-Err-clause-cause_new : goal.returns-in-Err-clause-cause_new
returns-in-Err-clause-cause_new g c t = record {
  ok = tt;
  cause = created_cause (g.N.Device.disk c.args.into) (g.N.Device.disk c.in-Err.failed.device) c.in-Err.failed.fault c.in-Err.ensures.outside (c.in-Err.ensures.cause t).cause;
  alone = created_alone (g.N.Device.disk c.args.into) (g.N.Device.disk c.in-Err.failed.device) c.in-Err.failed.fault (c.in-Err.ensures.refused t);
}

pub returns-in-Ok-take_behind-clause-cause_new : goal.returns-in-Ok-take_behind-clause-cause_new
returns-in-Ok-take_behind-clause-cause_new g c t =
    cause_behind c.args.rules c.expose_bound.ensures g.N.Device.disk g.N.Device.tells (g.D.Device.holds c.args.from.now) c.args.scan.now c.in-Ok.keeper
    c.take_behind.new.keeper (λ u. c.in-Ok.ensures.kept u (c.requires.sound u)) c.in-Ok.ensures.empty t (Ok (c.in-Ok-take_behind.extent, c.in-Ok-take_behind.stop)) (g.N.Device.disk c.args.into)
    (c.in-Ok.ensures.cause t).ok c.in-Ok-take_behind.ensures.takes

pub returns-in-Err-take_behind-clause-cause_new : goal.returns-in-Err-take_behind-clause-cause_new
returns-in-Err-take_behind-clause-cause_new g c t =
    subst (λ d. HasNewCause (new_part c.in-Err-take_behind.fault) (g.N.Device.disk c.args.into) (g.N.Device.disk d)) (sym c.into_device.ensures)
    (cause_behind c.args.rules c.expose_bound.ensures g.N.Device.disk g.N.Device.tells (g.D.Device.holds c.args.from.now) c.args.scan.now c.in-Ok.keeper
    c.take_behind.new.keeper (λ u. c.in-Ok.ensures.kept u (c.requires.sound u)) c.in-Ok.ensures.empty t (Err c.in-Err-take_behind.fault) (g.N.Device.disk c.args.into)
    (c.in-Ok.ensures.cause t).ok c.in-Err-take_behind.ensures.takes)

pub returns-in-Err-clause-stays : goal.returns-in-Err-clause-stays
returns-in-Err-clause-stays g c t = stays_none (g.D.Device.disk c.args.from.now) (g.met.D.Device.only_now c.args.from.now)

pub returns-in-Ok-take_behind-clause-cause_old : goal.returns-in-Ok-take_behind-clause-cause_old
returns-in-Ok-take_behind-clause-cause_old g c t has = c.in-Ok-take_behind.ensures.cause t (head_record c.args.rules.profile c.args.rules.clients_max ∷ []) has

pub returns-in-Err-take_behind-clause-cause_old : goal.returns-in-Err-take_behind-clause-cause_old
returns-in-Err-take_behind-clause-cause_old g c t has = c.in-Err-take_behind.ensures.cause t (head_record c.args.rules.profile c.args.rules.clients_max ∷ []) has
