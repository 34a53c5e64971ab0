use Rattle.std.proofs.Common.{◌≡◌, ◌∙◌, List, ℕ, subst, sym, Ok, IfOk}
use Rattle.tb_file_journal.specs.Contents.{contents, recorded}
use Rattle.tb_file_journal.specs.Opening.{IsOpened, fault_left, device_left}
use Rattle.tb_file_journal.specs.Reading.{extent_of}
use Rattle.tb_file_journal.specs.Ready.{IsOver}
use Rattle.tb_file_journal.proofs.Causes.{has_open_cause_since}
use Rattle.tb_file_journal.proofs.Opened.{left_standing, not_refused, read_then_opened, recovers, refuses, untouched_read}
use Rattle.tb_file_journal.proofs.opening.recover.Goals as goal

pub returns-in-Ok-clause-any_moment : goal.returns-in-Ok-clause-any_moment
returns-in-Ok-clause-any_moment g c t sound =
    let before = g.D.Device.disk c.args.device in
    read_then_opened before (g.D.Device.disk c.read_journal.new.device) _ c.in-Ok.extent
    (c.in-Ok.ensures.found before.seen (g.met.D.Device.holds_seen c.args.device t)) (c.in-Ok.ensures.seen t) (c.in-Ok.ensures.untouched t)
    (c.open.ensures.any_moment t (c.in-Ok.ensures.sound t ∙ sound))

pub returns-in-Ok-clause-handed : goal.returns-in-Ok-clause-handed
returns-in-Ok-clause-handed g c file held =
    recovers file c.in-Ok.extent c.open.result (c.in-Ok.ensures.found file held) c.open.ensures.numbers c.open.ensures.of_device

pub open-requires : goal.open-requires
open-requires g c = record {
  few = c.in-Ok.ensures.few;
  kept = λ t sound. c.in-Ok.ensures.kept t (sym (c.in-Ok.ensures.sound t) ∙ sound);
  read = λ t. subst (λ (file : List ℕ). extent_of (contents file) ≡ Ok c.in-Ok.extent) (sym (c.in-Ok.ensures.seen t))
      (c.in-Ok.ensures.found (g.D.Device.disk c.args.device).seen (g.met.D.Device.holds_seen c.args.device t));
}

pub returns-in-Ok-clause-opened : goal.returns-in-Ok-clause-opened
returns-in-Ok-clause-opened g c t sound =
    subst (λ (file : List ℕ). IfOk c.open.result (IsOpened g.D.Device.disk file)) (c.in-Ok.ensures.seen t) (c.open.ensures.opened t (c.in-Ok.ensures.sound t ∙ sound))

pub returns-in-Ok-clause-same : goal.returns-in-Ok-clause-same
returns-in-Ok-clause-same g c t =
    subst (λ (file : List ℕ). IfOk c.open.result (IsOver g.D.Device.disk (recorded file))) (c.in-Ok.ensures.seen t) (c.open.ensures.same t)

pub returns-in-Ok-clause-cause : goal.returns-in-Ok-clause-cause
returns-in-Ok-clause-cause g c t =
    has_open_cause_since {T = Unit {0}} (g.D.Device.disk c.args.device) (g.D.Device.disk c.read_journal.new.device) (g.D.Device.disk (device_left c.open.result)) (fault_left c.open.result)
    (c.in-Ok.ensures.cause t).ok (c.in-Ok.ensures.seen t) (c.open.ensures.cause t)

pub returns-in-Ok-clause-aside : goal.returns-in-Ok-clause-aside
returns-in-Ok-clause-aside g c file held = c.open.ensures.aside file (c.in-Ok.ensures.same file held)

pub returns-in-Ok-clause-untouched : goal.returns-in-Ok-clause-untouched
returns-in-Ok-clause-untouched g c t = not_refused g.D.Device.disk c.args.device c.open.result c.open.ensures.of_device

pub returns-in-Err-clause-any_moment : goal.returns-in-Err-clause-any_moment
returns-in-Err-clause-any_moment g c t sound = left_standing (g.D.Device.disk c.args.device) (g.D.Device.disk c.read_journal.new.device) (c.in-Err.ensures.untouched t)

pub returns-in-Err-clause-handed : goal.returns-in-Err-clause-handed
returns-in-Err-clause-handed g c file held = refuses file c.in-Err.fault (c.in-Err.ensures.found file held)

pub returns-in-Err-clause-untouched : goal.returns-in-Err-clause-untouched
returns-in-Err-clause-untouched g c t =
    untouched_read (g.D.Device.disk c.args.device) (g.D.Device.disk c.read_journal.new.device) c.in-Err.fault (c.in-Err.ensures.seen t) (c.in-Err.ensures.untouched t)

pub returns-in-Err-clause-cause : goal.returns-in-Err-clause-cause
returns-in-Err-clause-cause g c t = record { ok = tt; cause = (c.in-Err.ensures.cause t).cause }
