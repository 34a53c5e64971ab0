use Rattle.std.proofs.Common.{◌++◌, ◌∷◌, ◌∙◌, [], List, ℕ, Bool, arith, subst, sym, Ok, Err}
use Rattle.tb_file_journal.specs.Scans.{HasRead, ReadsNextRecord}
use Rattle.tb_file_journal.proofs.Causes.{has_open_cause_since, none_since}
use Rattle.tb_file_journal.proofs.Scanning.{kept_on, left_on, scans_on}
use Rattle.tb_file_journal.proofs.scans.read_journal.Goals as goal

pub returns-in-Err-next-clause-cause : goal.returns-in-Err-next-clause-cause
returns-in-Err-next-clause-cause g c t =
    let first = g.D.Device.disk c.args.device.now in
    let last = g.D.Device.disk c.loop-scan.device in
    let scanning = c.loop-scan.invariant.scanning t in
    let (held, (records, read)) = c.loop-scan.invariant.reading first.seen (g.met.D.Device.holds_seen c.args.device.now t) in
    let here = subst (λ (file : List ℕ). HasRead records file c.loop-scan.scan) (sym scanning.seen) read in
    let cause = has_open_cause_since {T = Bool} first last (g.D.Device.disk c.next.new.device) (Err c.in-Err-next.fault) scanning.none scanning.seen (c.in-Err-next.ensures.cause t records here) in
    record { ok = tt; cause = cause.cause }

pub loop-scan-init : goal.loop-scan-init
loop-scan-init g c = record {
  scanning = λ t. record { seen = c.in-Ok.ensures.seen t; kept = c.in-Ok.ensures.kept t; sound = c.in-Ok.ensures.sound t; left = c.in-Ok.ensures.untouched t; none = (c.in-Ok.ensures.cause t).ok };
  reading = λ file held. (c.in-Ok.ensures.same file held, ([], c.in-Ok.ensures.begun file held));
}

pub loop-scan-preserved : goal.loop-scan-preserved
loop-scan-preserved g c = record {
  scanning = λ t.
      let first = g.D.Device.disk c.args.device.now in
      let last = g.D.Device.disk c.loop-scan.device in
      let scanning = c.loop-scan.invariant.scanning t in
      let (held, (records, read)) = c.loop-scan.invariant.reading first.seen (g.met.D.Device.holds_seen c.args.device.now t) in
      let here = subst (λ (file : List ℕ). HasRead records file c.loop-scan.scan) (sym scanning.seen) read in
      scans_on first last (g.D.Device.disk c.next.new.device) (g.met.D.Device.counts_now c.loop-scan.device) scanning (c.in-Ok-true.ensures.looks t) (c.in-Ok-true.ensures.cause t records here).ok;
  reading = λ file was.
      let (held, (records, read)) = c.loop-scan.invariant.reading file was in (
        c.in-Ok-true.ensures.same file held,
        (
          records ++ c.next.new.self.last ∷ [],
          subst (λ (b : Bool). ReadsNextRecord (Ok b) records file c.next.new.self) c.in-Ok-true.field-0-test (c.in-Ok-true.ensures.reads file held records read),
        ),
      );
}

pub loop-scan-smaller : goal.loop-scan-smaller
loop-scan-smaller g c = let further = c.in-Ok-true.ensures.further c.in-Ok-true.field-0-test in omega (arith, further.0, further.1)

pub returns-in-Ok-false-clause-cause : goal.returns-in-Ok-false-clause-cause
returns-in-Ok-false-clause-cause g c t =
    let first = g.D.Device.disk c.args.device.now in
    let last = g.D.Device.disk c.loop-scan.device in
    let scanning = c.loop-scan.invariant.scanning t in
    let (held, (records, read)) = c.loop-scan.invariant.reading first.seen (g.met.D.Device.holds_seen c.args.device.now t) in
    let here = subst (λ (file : List ℕ). HasRead records file c.loop-scan.scan) (sym scanning.seen) read in
    record { ok = none_since first last (g.D.Device.disk c.next.new.device) scanning.none (c.in-Ok-false.ensures.cause t records here).ok; cause = tt }

pub returns-in-Ok-false-clause-kept : goal.returns-in-Ok-false-clause-kept
returns-in-Ok-false-clause-kept g c t =
    kept_on (g.D.Device.disk c.args.device.now) (g.D.Device.disk c.loop-scan.device) (g.D.Device.disk c.next.new.device) (c.loop-scan.invariant.scanning t) (c.in-Ok-false.ensures.looks t)

pub returns-in-Ok-false-clause-untouched : goal.returns-in-Ok-false-clause-untouched
returns-in-Ok-false-clause-untouched g c t =
    left_on (g.D.Device.disk c.args.device.now) (g.D.Device.disk c.loop-scan.device) (g.D.Device.disk c.next.new.device) (g.met.D.Device.counts_now c.loop-scan.device) (c.loop-scan.invariant.scanning t) (c.in-Ok-false.ensures.looks t)

pub returns-in-Ok-false-clause-seen : goal.returns-in-Ok-false-clause-seen
returns-in-Ok-false-clause-seen g c t = (c.in-Ok-false.ensures.looks t).seen ∙ (c.loop-scan.invariant.scanning t).seen

pub returns-in-Err-next-clause-untouched : goal.returns-in-Err-next-clause-untouched
returns-in-Err-next-clause-untouched g c t =
    left_on (g.D.Device.disk c.args.device.now) (g.D.Device.disk c.loop-scan.device) (g.D.Device.disk c.next.new.device) (g.met.D.Device.counts_now c.loop-scan.device) (c.loop-scan.invariant.scanning t) (c.in-Err-next.ensures.looks t)

pub returns-in-Err-next-clause-seen : goal.returns-in-Err-next-clause-seen
returns-in-Err-next-clause-seen g c t = (c.in-Err-next.ensures.looks t).seen ∙ (c.loop-scan.invariant.scanning t).seen
