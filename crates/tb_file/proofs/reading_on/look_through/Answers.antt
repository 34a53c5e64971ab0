use Rattle.std.proofs.Common.{arith, ◌++◌, [], ◌≤◌, Bool, true, false, Ok, Err, refl, ◌∙◌}
use Rattle.tb_file.proofs.Entered.{stays_then, stays_none}
use Rattle.tb_file.proofs.Beyond.{on_none, on_then, on_then_on, takes_same}
use Rattle.tb_file.proofs.reading_on.look_through.Goals as goal

pub loop-on-init : goal.loop-on-init
loop-on-init g c = record {
  same = λ file holds. holds;
  stays = λ t. stays_none (g.D.Device.disk c.args.from.now) (g.met.D.Device.only_now c.args.from.now);
  usable = c.requires.usable;
  used = (refl, refl);
  ready = c.requires.ready;
  taken = (
    [],
    on_none g.N.Device.disk g.N.Device.tells (g.D.Device.holds c.args.from.now) c.args.seek.now c.args.seek.now c.args.keeper.now c.args.keeper.now
        (λ t. g.met.N.Device.only_now c.args.keeper.now.journal.device) c.requires.usable c.requires.ready refl refl (let le : c.args.seek.now.at ≤ c.args.seek.now.at = omega arith in le) (λ file of seeking. seeking),
  );
}

pub loop-on-preserved : goal.loop-on-preserved
loop-on-preserved g c =
    let (records, so_far) = c.loop-on.invariant.taken in
    let (more, two) = takes_same g.N.Device.disk g.N.Device.tells (g.D.Device.holds c.args.from.now) (g.D.Device.holds c.loop-on.from) c.loop-on.invariant.same {T = Bool} (Ok true) c.loop-on.seek c.look_on.new.seek
    c.loop-on.keeper c.look_on.new.keeper c.in-Ok-true.ensures.takes in
    record {
      usable = two.usable;
      used = (c.look_on.ensures.stays_used.0 ∙ c.loop-on.invariant.used.0, c.look_on.ensures.stays_used.1 ∙ c.loop-on.invariant.used.1);
      ready = λ t. (two.queues t).ready;
      same = λ file holds. c.look_on.ensures.same file (c.loop-on.invariant.same file holds);
      stays = λ t. stays_then (g.D.Device.disk c.args.from.now) (g.D.Device.disk c.loop-on.from) (g.D.Device.disk c.look_on.new.from) (g.met.D.Device.counts_now c.loop-on.from)
          (c.loop-on.invariant.stays t) (c.look_on.ensures.stays t);
      taken = (
        records ++ more,
        on_then g.N.Device.disk g.N.Device.tells (g.D.Device.holds c.args.from.now) records more c.args.seek.now c.loop-on.seek c.look_on.new.seek c.args.keeper.now c.loop-on.keeper c.look_on.new.keeper so_far two,
      );
    }

pub returns-in-Ok-false-clause-takes : goal.returns-in-Ok-false-clause-takes
returns-in-Ok-false-clause-takes g c =
    let (records, so_far) = c.loop-on.invariant.taken in
    on_then_on g.N.Device.disk g.N.Device.tells (g.D.Device.holds c.args.from.now) {T = Bool} (Ok false) records c.args.seek.now c.loop-on.seek c.look_on.new.seek c.args.keeper.now c.loop-on.keeper c.look_on.new.keeper so_far
    (takes_same g.N.Device.disk g.N.Device.tells (g.D.Device.holds c.args.from.now) (g.D.Device.holds c.loop-on.from) c.loop-on.invariant.same {T = Bool} (Ok false) c.loop-on.seek c.look_on.new.seek
    c.loop-on.keeper c.look_on.new.keeper c.in-Ok-false.ensures.takes)

pub returns-in-Err-clause-takes : goal.returns-in-Err-clause-takes
returns-in-Err-clause-takes g c =
    let (records, so_far) = c.loop-on.invariant.taken in
    on_then_on g.N.Device.disk g.N.Device.tells (g.D.Device.holds c.args.from.now) {T = Bool} (Err c.in-Err.fault) records c.args.seek.now c.loop-on.seek c.look_on.new.seek c.args.keeper.now c.loop-on.keeper c.look_on.new.keeper so_far
    (takes_same g.N.Device.disk g.N.Device.tells (g.D.Device.holds c.args.from.now) (g.D.Device.holds c.loop-on.from) c.loop-on.invariant.same {T = Bool} (Err c.in-Err.fault) c.loop-on.seek c.look_on.new.seek
    c.loop-on.keeper c.look_on.new.keeper c.in-Err.ensures.takes)

pub returns-in-Ok-false-clause-stays : goal.returns-in-Ok-false-clause-stays
returns-in-Ok-false-clause-stays g c t = stays_then (g.D.Device.disk c.args.from.now) (g.D.Device.disk c.loop-on.from) (g.D.Device.disk c.look_on.new.from) (g.met.D.Device.counts_now c.loop-on.from)
    (c.loop-on.invariant.stays t) (c.look_on.ensures.stays t)

pub returns-in-Err-clause-stays : goal.returns-in-Err-clause-stays
returns-in-Err-clause-stays g c t = stays_then (g.D.Device.disk c.args.from.now) (g.D.Device.disk c.loop-on.from) (g.D.Device.disk c.look_on.new.from) (g.met.D.Device.counts_now c.loop-on.from)
    (c.loop-on.invariant.stays t) (c.look_on.ensures.stays t)
