use Rattle.std.proofs.lemmas.Grind.{common_steps}
use Rattle.std.proofs.Common.{◌+◌, ◌∙◌, ap, inl, arith, drop, length, length-drop, refl, rules, subst, sym, take}
use Rattle.tb_file_journal.specs.Scans.{HasRead, ScanState}
use Rattle.tb_file_journal.proofs.ScanSteps.{step_ends, step_stays, step_spoiled, step_whole, too_far, whole_fits}
use Rattle.tb_file_journal.proofs.scans.Scan.next.Goals as goal

pub returns-then-self-ge-FILE_BYTES_MAX-clause-cause : goal.returns-then-self-ge-FILE_BYTES_MAX-clause-cause
returns-then-self-ge-FILE_BYTES_MAX-clause-cause g c t records read = grind (arith, common_steps, too_far)

pub returns-in-Ok-End-clause-reads : goal.returns-in-Ok-End-clause-reads
returns-in-Ok-End-clause-reads g c file held records read =
    let old = subst (HasRead records file) (sym c.self.view_is) read in
    let ahead = c.head_at.new.window.ahead in
    let found = c.in-Ok-End.ensures.finds file held old.ahead in
    let head = c.in-Ok-End.field-0 in
    let told = c.in-Ok-End.ensures.head in
    (step_ends records file _ old ahead found head told c.in-Ok-End.field-0-is, step_stays records file _ old ahead found head told c.head_at.new.window.taken)

pub returns-in-Ok-Spoiled-clause-reads : goal.returns-in-Ok-Spoiled-clause-reads
returns-in-Ok-Spoiled-clause-reads g c file held records read =
    let old = subst (HasRead records file) (sym c.self.view_is) read in
    let damaged = step_spoiled records file _ old c.head_at.new.window.ahead (c.in-Ok-Spoiled.ensures.finds file held old.ahead) c.in-Ok-Spoiled.field-0 c.in-Ok-Spoiled.ensures.head c.in-Ok-Spoiled.field-0-is in
    search rules

pub returns-in-Ok-Spoiled-clause-cause : goal.returns-in-Ok-Spoiled-clause-cause
returns-in-Ok-Spoiled-clause-cause g c t records read =
    let file = (g.D.Device.disk c.args.device.now).seen in
    let old = subst (HasRead records file) (sym c.self.view_is) read in
    let damaged = step_spoiled records file _ old c.head_at.new.window.ahead (c.in-Ok-Spoiled.ensures.finds file (g.met.D.Device.holds_seen c.args.device.now t) old.ahead) c.in-Ok-Spoiled.field-0 c.in-Ok-Spoiled.ensures.head c.in-Ok-Spoiled.field-0-is in
    record { ok = tt; cause = (search rules, (c.in-Ok-Spoiled.ensures.cause t).ok) }

pub returns-in-Ok-Whole-clause-reads : goal.returns-in-Ok-Whole-clause-reads
returns-in-Ok-Whole-clause-reads g c file held records read =
    let old = subst (HasRead records file) (sym c.self.view_is) read in
    let window = c.take-in-Ok-Whole.new.self in
    let len = c.in-Ok-Whole.len in
    step_whole records file _ old c.head_at.new.window.ahead (c.in-Ok-Whole.ensures.finds file held old.ahead) c.in-Ok-Whole.field-0 c.in-Ok-Whole.ensures.head
    len (c.self.inside.end + (11 + len)) (c.self.inside.count + 1) window.taken window.ahead c.in-Ok-Whole.field-0-is refl refl
    (c.take-in-Ok-Whole.ensures.taken ∙ ap (take len) c.take.ensures.ahead) (c.take-in-Ok-Whole.ensures.ahead ∙ ap (drop len) c.take.ensures.ahead)

pub returns-in-Ok-Whole-clause-cause : goal.returns-in-Ok-Whole-clause-cause
returns-in-Ok-Whole-clause-cause g c t records read = record { ok = (c.in-Ok-Whole.ensures.cause t).ok; cause = tt }

pub returns-in-Ok-End-clause-cause : goal.returns-in-Ok-End-clause-cause
returns-in-Ok-End-clause-cause g c t records read = record { ok = (c.in-Ok-End.ensures.cause t).ok; cause = tt }

pub returns-in-Err-clause-cause : goal.returns-in-Err-clause-cause
returns-in-Err-clause-cause g c t records read = record { ok = tt; cause = inl (c.in-Err.ensures.cause t).cause }

pub returns-then-self-ge-FILE_BYTES_MAX-clause-looks : goal.returns-then-self-ge-FILE_BYTES_MAX-clause-looks
returns-then-self-ge-FILE_BYTES_MAX-clause-looks g c t = record {
  seen = refl;
  crash = λ file left. left;
  time = record { later = omega arith; nothing_else = λ m file le left. inl left; keeps = λ m file le left. left };
  sound = refl;
}

pub take-requires : goal.take-requires
take-requires g c =
    let fits = whole_fits c.head_at.new.window.ahead c.in-Ok-Whole.field-0 c.in-Ok-Whole.len c.in-Ok-Whole.ensures.head c.in-Ok-Whole.field-0-is in
    omega (arith, fits)

pub take-requires-in-Ok-Whole : goal.take-requires-in-Ok-Whole
take-requires-in-Ok-Whole g c =
    let fits = whole_fits c.head_at.new.window.ahead c.in-Ok-Whole.field-0 c.in-Ok-Whole.len c.in-Ok-Whole.ensures.head c.in-Ok-Whole.field-0-is in
    omega (arith, fits, ap length c.take.ensures.ahead, length-drop 11 c.head_at.new.window.ahead)

pub overflow_add-self-in-Ok-Whole : goal.overflow_add-self-in-Ok-Whole
overflow_add-self-in-Ok-Whole g c =
    let fits = whole_fits c.head_at.new.window.ahead c.in-Ok-Whole.field-0 c.in-Ok-Whole.len c.in-Ok-Whole.ensures.head c.in-Ok-Whole.field-0-is in
    omega (arith, fits, c.in-Ok-Whole.ensures.short, c.if-self-ge-FILE_BYTES_MAX.false)

pub invariant_of-self-in-Ok-Whole : goal.invariant_of-self-in-Ok-Whole
invariant_of-self-in-Ok-Whole g c =
    let fits = whole_fits c.head_at.new.window.ahead c.in-Ok-Whole.field-0 c.in-Ok-Whole.len c.in-Ok-Whole.ensures.head c.in-Ok-Whole.field-0-is in
    (omega (arith, fits, c.in-Ok-Whole.ensures.short, c.if-self-ge-FILE_BYTES_MAX.false), omega (arith, c.self.invariant.1))

pub returns-in-Ok-Whole-clause-further : goal.returns-in-Ok-Whole-clause-further
returns-in-Ok-Whole-clause-further g c same =
    let end = ap (λ (scan : ScanState). scan.end) c.self.view_is in
    (omega (arith, c.if-self-ge-FILE_BYTES_MAX.false, end), omega (arith, end))
