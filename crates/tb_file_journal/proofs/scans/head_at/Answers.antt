use Rattle.std.proofs.Common.{◌≡◌, ◌∙◌, ap, sym, subst, Result, Ok, Err}
use Rattle.std.proofs.lemmas.Bool.{false≢true}
use Rattle.std.specs.Result.{IsErr, IsErrAnd}
use Rattle.tb_file_journal.specs.declared.faults.JournalFault.{JournalFault}
use Rattle.tb_file_journal.specs.declared.reading.Head.{Head}
use Rattle.tb_file_journal.specs.Device.{Disk, IsCause, HasOwnCause}
use Rattle.tb_file_journal.specs.Reading.{asked_bytes}
use Rattle.tb_file_journal.proofs.Causes.{cause_since, none_since}
use Rattle.tb_file_journal.proofs.Fronts.{finds_head}
use Rattle.tb_file_journal.proofs.SystemCalls.{looked_then}
use Rattle.tb_file_journal.proofs.scans.head_at.Goals as goal

passed_on : (before after : Disk) (fault : JournalFault) (result : Result Head JournalFault) → IsErr result × IsErrAnd result (λ e. e ≡ fault) → IsCause before after fault → HasOwnCause result before after
passed_on before after fault (Ok head) is cause = absurd (false≢true is.0)
passed_on before after fault (Err other) is cause = record { ok = tt; cause = subst (IsCause before after) (sym is.1) cause }

pub returns-then-needed-eq-FIXED_BYTES-clause-finds : goal.returns-then-needed-eq-FIXED_BYTES-clause-finds
returns-then-needed-eq-FIXED_BYTES-clause-finds g c file held same =
    let has = c.in_default.ensures.ahead file held same in
    let asks = c.asked-needed.ensures ∙ ap asked_bytes c.ahead.ensures in
    finds_head c.args.at 11 file c.fill.new.self.ahead c.fill.new.self.ahead (sym c.if-needed-eq-FIXED_BYTES.true ∙ asks) has (λ is. has)

pub returns-clause-finds : goal.returns-clause-finds
returns-clause-finds g c file held same =
    finds_head c.args.at c.asked-needed.result file c.fill.new.self.ahead c.fill-2.new.self.ahead
    (c.asked-needed.ensures ∙ ap asked_bytes c.ahead.ensures) (c.in_default.ensures.ahead file held same) (c.in_ok-fill.ensures.ahead file (c.in_default.ensures.same file held))

pub returns-clause-looks : goal.returns-clause-looks
returns-clause-looks g c t =
    looked_then (g.D.Device.disk c.args.device.now) (g.D.Device.disk c.fill.new.device) (g.D.Device.disk c.fill-2.new.device) (g.met.D.Device.counts_now c.args.device.now)
    (c.in_default.ensures.looks t) (c.in_ok-fill.ensures.looks t)

pub returns-clause-cause : goal.returns-clause-cause
returns-clause-cause g c t = record {
  ok = none_since (g.D.Device.disk c.args.device.now) (g.D.Device.disk c.fill.new.device) (g.D.Device.disk c.fill-2.new.device) (c.in_default.ensures.cause t).ok (c.in_ok-fill.ensures.cause t).ok;
  cause = tt;
}

pub returns-in_err-fill-clause-looks : goal.returns-in_err-fill-clause-looks
returns-in_err-fill-clause-looks g c t =
    looked_then (g.D.Device.disk c.args.device.now) (g.D.Device.disk c.fill.new.device) (g.D.Device.disk c.fill-2.new.device) (g.met.D.Device.counts_now c.args.device.now)
    (c.in_default.ensures.looks t) (c.in_err-fill.ensures.looks t)

pub returns-in_err-fill-clause-cause : goal.returns-in_err-fill-clause-cause
returns-in_err-fill-clause-cause g c t =
    passed_on (g.D.Device.disk c.args.device.now) (g.D.Device.disk c.fill-2.new.device) c.in_err-fill.field-0.0 c.from_residual.result c.from_residual.ensures
    (cause_since (g.D.Device.disk c.args.device.now) (g.D.Device.disk c.fill.new.device) (g.D.Device.disk c.fill-2.new.device) c.in_err-fill.field-0.0
    (c.in_default.ensures.cause t).ok (c.in_err-fill.ensures.cause t).cause)
