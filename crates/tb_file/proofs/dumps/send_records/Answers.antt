use Rattle.std.proofs.Common.{◌++◌, List, ℕ, sym, subst}
use Rattle.tb_file_journal.specs.Scans.{HasRead}
use Rattle.tb_file_journal.proofs.Causes.{none_at_once, none_since}
use Rattle.tb_file.proofs.Causes.{has_dump_then}
use Rattle.tb_file.proofs.Entered.{stays_none, stays_then}
use Rattle.tb_file.proofs.Dumping.{sending_none, sending_more, sending_done, sending_not}
use Rattle.tb_file.proofs.dumps.send_records.Goals as goal

pub loop-fault-init : goal.loop-fault-init
loop-fault-init g c = record {
  same = λ file holds. holds;
  stays = λ t. stays_none (g.D.Device.disk c.args.device.now) (g.met.D.Device.only_now c.args.device.now);
  none = λ t read has. none_at_once (g.D.Device.disk c.args.device.now);
  sending = λ file read holds has. sending_none c.args.after read file c.args.scan.now (g.W.Sink.output c.args.writer.now) has;
}

pub loop-fault-preserved : goal.loop-fault-preserved
loop-fault-preserved g c = record {
  same = λ file holds. c.in-Ok-true.ensures.same file (c.loop-fault.invariant.same file holds);
  stays = λ t. stays_then (g.D.Device.disk c.args.device.now) (g.D.Device.disk c.loop-fault.device) (g.D.Device.disk c.send_next.new.device) (g.met.D.Device.counts_now c.loop-fault.device)
      (c.loop-fault.invariant.stays t) (c.send_next.ensures.stays t);
  none = λ t read has.
      let old = g.D.Device.disk c.args.device.now in
      let now = g.D.Device.disk c.loop-fault.device in
      let (records, at, sent) = c.loop-fault.invariant.sending old.seen read (g.met.D.Device.holds_seen c.args.device.now t) has in
      let here = subst (λ (f : List ℕ). HasRead (read ++ records) f c.loop-fault.scan) (sym (c.loop-fault.invariant.stays t).untouched.seen) at in
      none_since old now (g.D.Device.disk c.send_next.new.device) (c.loop-fault.invariant.none t read has) (c.in-Ok-true.ensures.cause t (read ++ records) here).ok;
  sending = λ file read holds has.
      let (records, at, sent) = c.loop-fault.invariant.sending file read holds has in
      sending_more c.args.after read records file c.send_next.new.scan (g.W.Sink.output c.args.writer.now) (g.W.Sink.output c.loop-fault.writer) (g.W.Sink.output c.send_next.new.writer) sent
      ((rw c.in-Ok-true.field-0-test at c.in-Ok-true.ensures.sends) file (read ++ records) (c.loop-fault.invariant.same file holds) at);
}

pub returns-in-Ok-false-clause-sends : goal.returns-in-Ok-false-clause-sends
returns-in-Ok-false-clause-sends g c file read holds has =
    let (records, at, sent) = c.loop-fault.invariant.sending file read holds has in
    sending_done c.args.after read records file c.send_next.new.scan (g.W.Sink.output c.args.writer.now) (g.W.Sink.output c.loop-fault.writer) (g.W.Sink.output c.send_next.new.writer) sent
    ((rw c.in-Ok-false.field-0-test at c.in-Ok-false.ensures.sends) file (read ++ records) (c.loop-fault.invariant.same file holds) at)

pub returns-in-Ok-false-clause-cause : goal.returns-in-Ok-false-clause-cause
returns-in-Ok-false-clause-cause g c t read has =
    let old = g.D.Device.disk c.args.device.now in
    let now = g.D.Device.disk c.loop-fault.device in
    let (records, at, sent) = c.loop-fault.invariant.sending old.seen read (g.met.D.Device.holds_seen c.args.device.now t) has in
    let here = subst (λ (f : List ℕ). HasRead (read ++ records) f c.loop-fault.scan) (sym (c.loop-fault.invariant.stays t).untouched.seen) at in
    record { ok = none_since old now (g.D.Device.disk c.send_next.new.device) (c.loop-fault.invariant.none t read has) (c.in-Ok-false.ensures.cause t (read ++ records) here).ok; cause = tt }

pub returns-in-Err-clause-sends : goal.returns-in-Err-clause-sends
returns-in-Err-clause-sends g c file read holds has =
    let (records, at, sent) = c.loop-fault.invariant.sending file read holds has in
    sending_not c.args.after read records file c.send_next.new.scan (g.W.Sink.output c.args.writer.now) (g.W.Sink.output c.loop-fault.writer) (g.W.Sink.output c.send_next.new.writer) sent c.in-Err.fault
    (c.in-Err.ensures.sends file (read ++ records) (c.loop-fault.invariant.same file holds) at)

pub returns-in-Err-clause-stays : goal.returns-in-Err-clause-stays
returns-in-Err-clause-stays g c t =
    stays_then (g.D.Device.disk c.args.device.now) (g.D.Device.disk c.loop-fault.device) (g.D.Device.disk c.send_next.new.device) (g.met.D.Device.counts_now c.loop-fault.device)
    (c.loop-fault.invariant.stays t) (c.send_next.ensures.stays t)

pub returns-in-Err-clause-cause : goal.returns-in-Err-clause-cause
returns-in-Err-clause-cause g c t read has =
    let old = g.D.Device.disk c.args.device.now in
    let now = g.D.Device.disk c.loop-fault.device in
    let (records, at, sent) = c.loop-fault.invariant.sending old.seen read (g.met.D.Device.holds_seen c.args.device.now t) has in
    let here = subst (λ (f : List ℕ). HasRead (read ++ records) f c.loop-fault.scan) (sym (c.loop-fault.invariant.stays t).untouched.seen) at in
    record {
      ok = tt;
      cause = (has_dump_then old now (g.D.Device.disk c.send_next.new.device) (c.loop-fault.invariant.none t read has) (c.loop-fault.invariant.stays t).untouched.seen _ (c.in-Err.ensures.cause t (read ++ records) here)).cause;
    }
