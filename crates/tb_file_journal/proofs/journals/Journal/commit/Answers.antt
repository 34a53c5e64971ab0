use Rattle.std.proofs.lemmas.Grind.{common_steps}
use Rattle.std.proofs.Common.{◌≡◌, ◌++◌, length, ap, subst, sym, arith, Ok, Err}
use Rattle.tb_file_journal.specs.Device.{HasCause, LeavesOnly}
use Rattle.tb_file_journal.specs.Contents.{recorded}
use Rattle.tb_file_journal.specs.Steps.{IsBeforeOrAfter}
use Rattle.tb_file_journal.specs.Ready.{Kept, IsWritable, IsReady}
use Rattle.tb_file_journal.proofs.Committing.{fewer, left_at_rest, next_writable, settled_of, ready_of}
use Rattle.tb_file_journal.proofs.journals.Journal.commit.Goals as goal

pub overflow_add-self-in-Ok : goal.overflow_add-self-in-Ok
overflow_add-self-in-Ok g c = omega (arith, c.self.invariant.0, c.self.invariant.1, fewer c.self.inside.batch, c.count-in-Ok.ensures)

pub invariant_of-self : goal.invariant_of-self
invariant_of-self g c = grind (arith, common_steps, fewer)

pub returns-in-Ok-clause-writable : goal.returns-in-Ok-clause-writable
returns-in-Ok-clause-writable g c t =
    let writable = subst (λ (j : Kept g.row.D.Denot). IsWritable g.D.Device.disk j) (sym c.self.view_is) (c.requires.writable t) in
    let done = (c.in-Ok.ensures.publishes t c.self.inside.batch c.bytes.ensures.fits c.bytes.ensures.spells (omega (arith, c.count.ensures, c.if-count-eq0.false))).ok in
    next_writable g.D.Device.disk _ c.publish.new.device _ _ c.clear.new.self _ writable done.0 done.1 (omega (arith, ap length c.bytes-in-Ok.ensures.spells)) (omega (arith, c.count-in-Ok.ensures))

pub returns-in-Ok-clause-ready : goal.returns-in-Ok-clause-ready
returns-in-Ok-clause-ready g c t old =
    let ready = subst (λ (j : Kept g.row.D.Denot). IsReady g.D.Device.disk j) (sym c.self.view_is) old in
    let publishes = c.in-Ok.ensures.publishes t c.self.inside.batch c.bytes.ensures.fits c.bytes.ensures.spells (omega (arith, c.count.ensures, c.if-count-eq0.false)) in
    ready_of g.D.Device.disk _ (returns-in-Ok-clause-writable g c t) (publishes.settled (settled_of g.D.Device.disk _ ready))

pub returns-in-Ok-clause-any_moment : goal.returns-in-Ok-clause-any_moment
returns-in-Ok-clause-any_moment g c t old =
    let ready = subst (λ (j : Kept g.row.D.Denot). IsReady g.D.Device.disk j) (sym c.self.view_is) old in
    let publishes = c.in-Ok.ensures.publishes t c.self.inside.batch c.bytes.ensures.fits c.bytes.ensures.spells (omega (arith, c.count.ensures, c.if-count-eq0.false)) in
    subst (λ (j : Kept g.row.D.Denot). LeavesOnly (g.D.Device.disk j.device) (g.D.Device.disk c.publish.new.device) (IsBeforeOrAfter (recorded (g.D.Device.disk j.device).seen) j.waiting))
    c.self.view_is (publishes.any_moment (settled_of g.D.Device.disk _ ready))

pub returns-in-Err-clause-any_moment : goal.returns-in-Err-clause-any_moment
returns-in-Err-clause-any_moment g c t old =
    let ready = subst (λ (j : Kept g.row.D.Denot). IsReady g.D.Device.disk j) (sym c.self.view_is) old in
    let publishes = c.in-Err.ensures.publishes t c.self.inside.batch c.bytes.ensures.fits c.bytes.ensures.spells (omega (arith, c.count.ensures, c.if-count-eq0.false)) in
    subst (λ (j : Kept g.row.D.Denot). LeavesOnly (g.D.Device.disk j.device) (g.D.Device.disk c.publish.new.device) (IsBeforeOrAfter (recorded (g.D.Device.disk j.device).seen) j.waiting))
    c.self.view_is (publishes.any_moment (settled_of g.D.Device.disk _ ready))

pub publish-requires : goal.publish-requires
publish-requires g c =
    let writable = λ (t : g.D.Device.tells). subst (λ (j : Kept g.row.D.Denot). IsWritable g.D.Device.disk j) (sym c.self.view_is) (c.requires.writable t) in
    record {
      some = omega (arith, ap length c.bytes.ensures.spells, fewer c.self.inside.batch);
      short = omega (arith, c.self.invariant.0);
      whole = λ t. (writable t).whole;
      ends = λ t. (writable t).ends;
    }

pub returns-then-count-eq0-clause-any_moment : goal.returns-then-count-eq0-clause-any_moment
returns-then-count-eq0-clause-any_moment g c t old =
    left_at_rest (g.D.Device.disk c.args.self.now.device) c.args.self.now.waiting (g.met.D.Device.only_now c.args.self.now.device) old.at_rest

pub returns-in-Ok-clause-acknowledged : goal.returns-in-Ok-clause-acknowledged
returns-in-Ok-clause-acknowledged g c t =
    let publishes = c.in-Ok.ensures.publishes t c.self.inside.batch c.bytes.ensures.fits c.bytes.ensures.spells (omega (arith, c.count.ensures, c.if-count-eq0.false)) in
    subst (λ (j : Kept g.row.D.Denot). recorded (g.D.Device.disk c.publish.new.device).seen ≡ recorded (g.D.Device.disk j.device).seen ++ j.waiting) c.self.view_is publishes.ok.1

pub returns-in-Ok-clause-idle : goal.returns-in-Ok-clause-idle
returns-in-Ok-clause-idle g c none = absurd (omega (arith, c.if-count-eq0.false, c.count.ensures, ap (λ (j : Kept g.row.D.Denot). length j.waiting) c.self.view_is, ap length none))

pub returns-in-Err-clause-idle : goal.returns-in-Err-clause-idle
returns-in-Err-clause-idle g c none = absurd (omega (arith, c.if-count-eq0.false, c.count.ensures, ap (λ (j : Kept g.row.D.Denot). length j.waiting) c.self.view_is, ap length none))

pub returns-in-Ok-clause-cause : goal.returns-in-Ok-clause-cause
returns-in-Ok-clause-cause g c t =
    let publishes = c.in-Ok.ensures.publishes t c.self.inside.batch c.bytes.ensures.fits c.bytes.ensures.spells (omega (arith, c.count.ensures, c.if-count-eq0.false)) in
    subst (λ (j : Kept g.row.D.Denot). HasCause {T = Unit {0}} (Ok tt) (g.D.Device.disk j.device) (g.D.Device.disk c.publish.new.device)) c.self.view_is publishes.cause

pub returns-in-Err-clause-cause : goal.returns-in-Err-clause-cause
returns-in-Err-clause-cause g c t =
    let publishes = c.in-Err.ensures.publishes t c.self.inside.batch c.bytes.ensures.fits c.bytes.ensures.spells (omega (arith, c.count.ensures, c.if-count-eq0.false)) in
    subst (λ (j : Kept g.row.D.Denot). HasCause {T = Unit {0}} (Err c.in-Err.fault) (g.D.Device.disk j.device) (g.D.Device.disk c.publish.new.device)) c.self.view_is publishes.cause
