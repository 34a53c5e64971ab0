use Rattle.std.proofs.Common.{sym, subst}
use Rattle.tb_file_journal.specs.Device.{LeavesOnly, FailsNone}
use Rattle.tb_file.specs.Salvaging.{MayBeSalvaged}
use Rattle.tb_file.proofs.Salvages.{backed_up, not_backed_up, backup_cause, unsalvaged_not_whole}
use Rattle.tb_file.proofs.salvaging.backup.Goals as goal

pub returns-in-None-clause-backed_up : goal.returns-in-None-clause-backed_up
returns-in-None-clause-backed_up g c = backed_up g.N.Device.tells g.N.Device.disk (g.D.Device.holds c.args.from.now) c.in-Ok.salvaged c.in-Ok.ensures.salvaged c.in-None.is

pub returns-in-Some-clause-not_backed_up : goal.returns-in-Some-clause-not_backed_up
returns-in-Some-clause-not_backed_up g c file of =
    not_backed_up g.N.Device.tells g.N.Device.disk (g.D.Device.holds c.args.from.now) c.in-Ok.salvaged c.in-Ok.ensures.salvaged c.in-Some.fault c.in-Some.is file of

pub returns-in-Err-clause-not_backed_up : goal.returns-in-Err-clause-not_backed_up
returns-in-Err-clause-not_backed_up g c file of = unsalvaged_not_whole c.in-Err.failed.fault file (c.in-Err.ensures.unsalvaged file of)

pub returns-in-Some-clause-any_moment : goal.returns-in-Some-clause-any_moment
returns-in-Some-clause-any_moment g c t =
    subst (λ d. LeavesOnly (g.N.Device.disk c.args.into) (g.N.Device.disk d) (MayBeSalvaged (g.D.Device.holds c.args.from.now) (g.N.Device.disk c.args.into))) (sym c.into_device.ensures)
    (c.in-Ok.ensures.any_moment t)

pub returns-in-Some-clause-cause_new : goal.returns-in-Some-clause-cause_new
returns-in-Some-clause-cause_new g c t = record {
  ok = subst (λ d. FailsNone (g.N.Device.disk c.args.into) (g.N.Device.disk d)) (sym c.into_device.ensures) (c.in-Ok.ensures.cause_new t).ok;
  cause = tt;
  alone = tt;
}

pub returns-in-Some-clause-cause_old : goal.returns-in-Some-clause-cause_old
returns-in-Some-clause-cause_old g c t = record {
  ok = tt;
  cause = backup_cause g.N.Device.tells g.N.Device.disk (g.D.Device.holds c.args.from.now) c.in-Ok.salvaged c.in-Ok.ensures.salvaged c.in-Some.fault c.in-Some.is (g.D.Device.disk c.args.from.now)
      (g.D.Device.disk c.salvage.new.from) (g.met.D.Device.holds_seen c.args.from.now t) (c.in-Ok.ensures.cause_old t).ok;
}
