use Rattle.std.proofs.Common.{◌≡◌, inl, inr, refl, Err, arith, subst, sym}
use Rattle.tb_file_journal.specs.declared.opening.NotOpened.{NotOpened}
use Rattle.tb_file_journal.specs.Device.{LeavesOnly}
use Rattle.tb_file_journal.specs.Contents.{Records, contents, recorded}
use Rattle.tb_file_journal.specs.Opening.{HasOpenCause}
use Rattle.tb_file_journal.proofs.Causes.{none_at_once}
use Rattle.tb_file_journal.proofs.Opened.{is_over, is_told, left_as_read, opens, too_long}
use Rattle.tb_file_journal.proofs.journals.Journal.open.Goals as goal

pub returns-in-Ok-repair-clause-opened : goal.returns-in-Ok-repair-clause-opened
returns-in-Ok-repair-clause-opened g c t sound =
    opens g.D.Device.disk (g.D.Device.disk c.args.device) c.repair.new.device c.args.extent c.in-Ok-repair.field-0 c.in-Ok.batch
    (c.requires.read t) (c.in-Ok-repair.ensures.repairs t) (record { kept = c.requires.kept t sound; sound = sound }) c.in-Ok.ensures

pub returns-then-end-clause-cause : goal.returns-then-end-clause-cause
returns-then-end-clause-cause g c t =
    subst (λ (r : NotOpened g.row.D.Denot). HasOpenCause {T = Unit {0}} (Err r.fault) (g.D.Device.disk c.args.device) (g.D.Device.disk r.device)) (sym c.of_device.ensures)
    (too_long (g.D.Device.disk c.args.device) c.args.extent (c.requires.read t) (omega (arith, c.if-end.true)))

pub returns-then-end-clause-any_moment : goal.returns-then-end-clause-any_moment
returns-then-end-clause-any_moment g c t sound =
    let before = g.D.Device.disk c.args.device in
    subst (λ (r : NotOpened g.row.D.Denot). LeavesOnly before (g.D.Device.disk r.device) (λ file. contents file ≡ Records (recorded before.seen))) (sym c.of_device.ensures)
    (left_as_read before c.args.extent (c.requires.read t) (g.met.D.Device.only_now c.args.device) (c.requires.kept t sound))

pub returns-in_default-clause-any_moment : goal.returns-in_default-clause-any_moment
returns-in_default-clause-any_moment g c t sound =
    let before = g.D.Device.disk c.args.device in
    subst (λ (r : NotOpened g.row.D.Denot). LeavesOnly before (g.D.Device.disk r.device) (λ file. contents file ≡ Records (recorded before.seen))) (sym c.of_device-in_default.ensures)
    (left_as_read before c.args.extent (c.requires.read t) (g.met.D.Device.only_now c.args.device) (c.requires.kept t sound))

pub returns-in-Err-clause-any_moment : goal.returns-in-Err-clause-any_moment
returns-in-Err-clause-any_moment g c t sound =
    let before = g.D.Device.disk c.args.device in
    subst (λ (r : NotOpened g.row.D.Denot). LeavesOnly before (g.D.Device.disk r.device) (λ file. contents file ≡ Records (recorded before.seen))) (sym c.of_device-in-Err.ensures)
    ((c.in-Err.ensures.repairs t).any_moment (record { kept = c.requires.kept t sound; sound = sound }))

pub returns-in_default-clause-cause : goal.returns-in_default-clause-cause
returns-in_default-clause-cause g c t =
    subst (λ (r : NotOpened g.row.D.Denot). HasOpenCause {T = Unit {0}} (Err r.fault) (g.D.Device.disk c.args.device) (g.D.Device.disk r.device)) (sym c.of_device-in_default.ensures)
    (record { ok = tt; cause = inl (inr (refl, none_at_once (g.D.Device.disk c.args.device))) })

pub returns-in-Err-clause-cause : goal.returns-in-Err-clause-cause
returns-in-Err-clause-cause g c t =
    subst (λ (r : NotOpened g.row.D.Denot). HasOpenCause {T = Unit {0}} (Err r.fault) (g.D.Device.disk c.args.device) (g.D.Device.disk r.device)) (sym c.of_device-in-Err.ensures)
    (record { ok = tt; cause = inl (inl (c.in-Err.ensures.repairs t).cause.cause) })

pub returns-in-Ok-repair-clause-any_moment : goal.returns-in-Ok-repair-clause-any_moment
returns-in-Ok-repair-clause-any_moment g c t sound = (c.in-Ok-repair.ensures.repairs t).any_moment (record { kept = c.requires.kept t sound; sound = sound })

pub returns-in-Ok-repair-clause-aside : goal.returns-in-Ok-repair-clause-aside
returns-in-Ok-repair-clause-aside g c file held = c.in-Ok-repair.ensures.aside file held

pub returns-in-Ok-repair-clause-cause : goal.returns-in-Ok-repair-clause-cause
returns-in-Ok-repair-clause-cause g c t = record { ok = (c.in-Ok-repair.ensures.repairs t).cause.ok; cause = tt }

pub repair-requires : goal.repair-requires
repair-requires g c = record {
  short = omega (arith, c.if-end.false);
  reads = λ t. (is_told (contents (g.D.Device.disk c.args.device).seen) c.args.extent (c.requires.read t)).reads;
  ends = λ t. (is_told (contents (g.D.Device.disk c.args.device).seen) c.args.extent (c.requires.read t)).end;
}

pub returns-in-Ok-repair-clause-same : goal.returns-in-Ok-repair-clause-same
returns-in-Ok-repair-clause-same g c t =
    is_over g.D.Device.disk (g.D.Device.disk c.args.device) c.repair.new.device c.args.extent c.in-Ok-repair.field-0 c.in-Ok.batch (c.requires.read t) (c.in-Ok-repair.ensures.repairs t)
