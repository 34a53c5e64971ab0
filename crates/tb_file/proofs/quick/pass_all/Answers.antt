use Rattle.std.proofs.Common.{arith, ◌++◌, List, [], ℕ, refl, sym, subst, append-nil}
use Rattle.tb_file_journal.specs.Scans.{ScanState, HasRead}
use Rattle.tb_file_journal.proofs.Causes.{none_since}
use Rattle.tb_file.proofs.Causes.{has_start_then}
use Rattle.tb_file.proofs.Entered.{stays_none, stays_then}
use Rattle.tb_file.proofs.Orders.{Passing, passing_done, passing_more, passing_not}
use Rattle.tb_file.proofs.quick.pass_all.Goals as goal

passing_none : (read : List (List ℕ)) (file : List ℕ) (scan : ScanState) → HasRead read file scan → Passing read file scan 0
passing_none read file scan has = (
  [],
  subst (λ (r : List (List ℕ)). HasRead r file scan) (sym (append-nil read)) has,
  record { entries = []; in_order = tt; recorded_are = tt; spelled = refl; last_is = refl },
)

pub loop-next-preserved : goal.loop-next-preserved
loop-next-preserved g c = record {
  same = λ file holds. c.in-Ok-Some.ensures.same file (c.loop-next.invariant.same file holds);
  stays = λ t.
      stays_then (g.D.Device.disk c.args.device.now) (g.D.Device.disk c.loop-next.device) (g.D.Device.disk c.pass_next.new.device) (g.met.D.Device.counts_now c.loop-next.device)
      (c.loop-next.invariant.stays t) (c.pass_next.ensures.stays t);
  none = λ t read has.
      let old = g.D.Device.disk c.args.device.now in
      let now = g.D.Device.disk c.loop-next.device in
      let (records, at, are) = c.loop-next.invariant.passed old.seen read (g.met.D.Device.holds_seen c.args.device.now t) has in
      let here = subst (λ (f : List ℕ). HasRead (read ++ records) f c.loop-next.scan) (sym (c.loop-next.invariant.stays t).untouched.seen) at in
      none_since old now (g.D.Device.disk c.pass_next.new.device) (c.loop-next.invariant.none t read has) (c.in-Ok-Some.ensures.cause t (read ++ records) here).ok;
  passed = λ file read holds has.
      let (records, at, are) = c.loop-next.invariant.passed file read holds has in
      passing_more read records file c.pass_next.new.scan c.loop-next.time are c.in-Ok-Some.next
      ((rw c.in-Ok-Some.field-0-is at c.in-Ok-Some.ensures.passes) file (read ++ records) (c.loop-next.invariant.same file holds) at);
}

pub returns-in-Ok-None-clause-passes : goal.returns-in-Ok-None-clause-passes
returns-in-Ok-None-clause-passes g c file read holds has =
    let (records, at, are) = c.loop-next.invariant.passed file read holds has in
    passing_done read records file c.pass_next.new.scan c.loop-next.time are
    ((rw c.in-Ok-None.field-0-is at c.in-Ok-None.ensures.passes) file (read ++ records) (c.loop-next.invariant.same file holds) at)

pub returns-in-Ok-None-clause-cause : goal.returns-in-Ok-None-clause-cause
returns-in-Ok-None-clause-cause g c t read has =
    let old = g.D.Device.disk c.args.device.now in
    let now = g.D.Device.disk c.loop-next.device in
    let (records, at, are) = c.loop-next.invariant.passed old.seen read (g.met.D.Device.holds_seen c.args.device.now t) has in
    let here = subst (λ (f : List ℕ). HasRead (read ++ records) f c.loop-next.scan) (sym (c.loop-next.invariant.stays t).untouched.seen) at in
    record { ok = none_since old now (g.D.Device.disk c.pass_next.new.device) (c.loop-next.invariant.none t read has) (c.in-Ok-None.ensures.cause t (read ++ records) here).ok; cause = tt }

pub returns-in-Err-clause-passes : goal.returns-in-Err-clause-passes
returns-in-Err-clause-passes g c file read holds has =
    let (records, at, are) = c.loop-next.invariant.passed file read holds has in
    passing_not read records file c.pass_next.new.scan c.loop-next.time are c.in-Err.fault
    (c.in-Err.ensures.passes file (read ++ records) (c.loop-next.invariant.same file holds) at)

pub returns-in-Err-clause-cause : goal.returns-in-Err-clause-cause
returns-in-Err-clause-cause g c t read has =
    let old = g.D.Device.disk c.args.device.now in
    let now = g.D.Device.disk c.loop-next.device in
    let (records, at, are) = c.loop-next.invariant.passed old.seen read (g.met.D.Device.holds_seen c.args.device.now t) has in
    let here = subst (λ (f : List ℕ). HasRead (read ++ records) f c.loop-next.scan) (sym (c.loop-next.invariant.stays t).untouched.seen) at in
    record {
      ok = tt;
      cause = (has_start_then old now (g.D.Device.disk c.pass_next.new.device) (c.loop-next.invariant.none t read has) (c.loop-next.invariant.stays t).untouched.seen _ (c.in-Err.ensures.cause t (read ++ records) here)).cause;
    }

pub loop-next-init : goal.loop-next-init
loop-next-init g c = record {
  same = λ file holds. holds;
  stays = λ t. stays_none (g.D.Device.disk c.args.device.now) (g.met.D.Device.only_now c.args.device.now);
  none = λ t read has fault. refl;
  passed = λ file read holds has. passing_none read file c.args.scan.now has;
}

pub loop-next-smaller : goal.loop-next-smaller
loop-next-smaller g c = omega (arith, rw c.in-Ok-Some.field-0-is at c.in-Ok-Some.ensures.further)

pub returns-in-Ok-None-clause-same : goal.returns-in-Ok-None-clause-same
returns-in-Ok-None-clause-same g c file holds = c.in-Ok-None.ensures.same file (c.loop-next.invariant.same file holds)

pub returns-in-Ok-None-clause-stays : goal.returns-in-Ok-None-clause-stays
returns-in-Ok-None-clause-stays g c t =
    stays_then (g.D.Device.disk c.args.device.now) (g.D.Device.disk c.loop-next.device) (g.D.Device.disk c.pass_next.new.device) (g.met.D.Device.counts_now c.loop-next.device)
    (c.loop-next.invariant.stays t) (c.pass_next.ensures.stays t)

pub returns-in-Err-clause-same : goal.returns-in-Err-clause-same
returns-in-Err-clause-same g c file holds = c.in-Err.ensures.same file (c.loop-next.invariant.same file holds)

pub returns-in-Err-clause-stays : goal.returns-in-Err-clause-stays
returns-in-Err-clause-stays g c t =
    stays_then (g.D.Device.disk c.args.device.now) (g.D.Device.disk c.loop-next.device) (g.D.Device.disk c.pass_next.new.device) (g.met.D.Device.counts_now c.loop-next.device)
    (c.loop-next.invariant.stays t) (c.pass_next.ensures.stays t)
