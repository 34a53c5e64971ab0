use Rattle.std.proofs.Common.{arith, ◌++◌, List, [], ℕ, refl, sym, subst, append-nil}
use Rattle.tb_file_journal.specs.Scans.{ScanState, HasRead}
use Rattle.tb_file_journal.proofs.Causes.{none_since}
use Rattle.tb_machine.specs.Histories.{State}
use Rattle.tb_file.proofs.Causes.{has_start_then}
use Rattle.tb_file.proofs.Entered.{Entered, stays_none, stays_then, entered_more, entered_all, entered_not}
use Rattle.tb_file.proofs.recovering.enter_all.Goals as goal

entered_none : (read : List (List ℕ)) (file : List ℕ) (scan : ScanState) (S : State) → HasRead read file scan → Entered read file scan S S
entered_none read file scan S has = (
  [],
  subst (λ (r : List (List ℕ)). HasRead r file scan) (sym (append-nil read)) has,
  record { entries = []; legal = tt; state = refl; recorded_are = tt; spelled = refl },
)

pub loop-fault-preserved : goal.loop-fault-preserved
loop-fault-preserved g c = record {
  same = λ file holds. c.in-Ok-true.ensures.same file (c.loop-fault.invariant.same file holds);
  stays = λ t.
      stays_then (g.D.Device.disk c.args.device.now) (g.D.Device.disk c.loop-fault.device) (g.D.Device.disk c.enter_next.new.device) (g.met.D.Device.counts_now c.loop-fault.device)
      (c.loop-fault.invariant.stays t) (c.enter_next.ensures.stays t);
  none = λ t read has.
      let old = g.D.Device.disk c.args.device.now in
      let now = g.D.Device.disk c.loop-fault.device in
      let (records, at, leads) = c.loop-fault.invariant.entered old.seen read (g.met.D.Device.holds_seen c.args.device.now t) has in
      let here = subst (λ (f : List ℕ). HasRead (read ++ records) f c.loop-fault.scan) (sym (c.loop-fault.invariant.stays t).untouched.seen) at in
      none_since old now (g.D.Device.disk c.enter_next.new.device) (c.loop-fault.invariant.none t read has) (c.in-Ok-true.ensures.cause t (read ++ records) here).ok;
  entered = λ file read holds has.
      let (records, at, leads) = c.loop-fault.invariant.entered file read holds has in
      entered_more read records file c.enter_next.new.scan c.args.machine.now c.loop-fault.machine c.enter_next.new.machine leads
      ((rw c.in-Ok-true.field-0-test at c.in-Ok-true.ensures.enters) file (read ++ records) (c.loop-fault.invariant.same file holds) at);
}

pub returns-in-Ok-false-clause-enters : goal.returns-in-Ok-false-clause-enters
returns-in-Ok-false-clause-enters g c file read holds has =
    let (records, at, leads) = c.loop-fault.invariant.entered file read holds has in
    entered_all read records file c.enter_next.new.scan c.args.machine.now c.loop-fault.machine c.enter_next.new.machine leads
    ((rw c.in-Ok-false.field-0-test at c.in-Ok-false.ensures.enters) file (read ++ records) (c.loop-fault.invariant.same file holds) at)

pub returns-in-Ok-false-clause-cause : goal.returns-in-Ok-false-clause-cause
returns-in-Ok-false-clause-cause g c t read has =
    let old = g.D.Device.disk c.args.device.now in
    let now = g.D.Device.disk c.loop-fault.device in
    let (records, at, leads) = c.loop-fault.invariant.entered old.seen read (g.met.D.Device.holds_seen c.args.device.now t) has in
    let here = subst (λ (f : List ℕ). HasRead (read ++ records) f c.loop-fault.scan) (sym (c.loop-fault.invariant.stays t).untouched.seen) at in
    record { ok = none_since old now (g.D.Device.disk c.enter_next.new.device) (c.loop-fault.invariant.none t read has) (c.in-Ok-false.ensures.cause t (read ++ records) here).ok; cause = tt }

pub returns-in-Err-clause-enters : goal.returns-in-Err-clause-enters
returns-in-Err-clause-enters g c file read holds has =
    let (records, at, leads) = c.loop-fault.invariant.entered file read holds has in
    entered_not read records file c.enter_next.new.scan c.args.machine.now c.loop-fault.machine c.enter_next.new.machine leads c.in-Err.fault
    (c.in-Err.ensures.enters file (read ++ records) (c.loop-fault.invariant.same file holds) at)

pub returns-in-Err-clause-cause : goal.returns-in-Err-clause-cause
returns-in-Err-clause-cause g c t read has =
    let old = g.D.Device.disk c.args.device.now in
    let now = g.D.Device.disk c.loop-fault.device in
    let (records, at, leads) = c.loop-fault.invariant.entered old.seen read (g.met.D.Device.holds_seen c.args.device.now t) has in
    let here = subst (λ (f : List ℕ). HasRead (read ++ records) f c.loop-fault.scan) (sym (c.loop-fault.invariant.stays t).untouched.seen) at in
    record {
      ok = tt;
      cause = (has_start_then old now (g.D.Device.disk c.enter_next.new.device) (c.loop-fault.invariant.none t read has) (c.loop-fault.invariant.stays t).untouched.seen _ (c.in-Err.ensures.cause t (read ++ records) here)).cause;
    }

pub loop-fault-init : goal.loop-fault-init
loop-fault-init g c = record {
  same = λ file holds. holds;
  stays = λ t. stays_none (g.D.Device.disk c.args.device.now) (g.met.D.Device.only_now c.args.device.now);
  none = λ t read has fault. refl;
  entered = λ file read holds has. entered_none read file c.args.scan.now c.args.machine.now has;
}

pub loop-fault-smaller : goal.loop-fault-smaller
loop-fault-smaller g c = omega (arith, c.in-Ok-true.ensures.further c.in-Ok-true.field-0-test)

pub returns-in-Ok-false-clause-same : goal.returns-in-Ok-false-clause-same
returns-in-Ok-false-clause-same g c file holds = c.in-Ok-false.ensures.same file (c.loop-fault.invariant.same file holds)

pub returns-in-Ok-false-clause-stays : goal.returns-in-Ok-false-clause-stays
returns-in-Ok-false-clause-stays g c t =
    stays_then (g.D.Device.disk c.args.device.now) (g.D.Device.disk c.loop-fault.device) (g.D.Device.disk c.enter_next.new.device) (g.met.D.Device.counts_now c.loop-fault.device)
    (c.loop-fault.invariant.stays t) (c.enter_next.ensures.stays t)

pub returns-in-Err-clause-same : goal.returns-in-Err-clause-same
returns-in-Err-clause-same g c file holds = c.in-Err.ensures.same file (c.loop-fault.invariant.same file holds)

pub returns-in-Err-clause-stays : goal.returns-in-Err-clause-stays
returns-in-Err-clause-stays g c t =
    stays_then (g.D.Device.disk c.args.device.now) (g.D.Device.disk c.loop-fault.device) (g.D.Device.disk c.enter_next.new.device) (g.met.D.Device.counts_now c.loop-fault.device)
    (c.loop-fault.invariant.stays t) (c.enter_next.ensures.stays t)
