use Rattle.std.proofs.Common.{arith, [], ℕ, ◌≤◌, Bool, true, Ok, Err, refl, subst, sym}
use Rattle.tb_file_journal.specs.Scans.{IsAhead}
use Rattle.tb_file.specs.declared.faults.SalvageFault.{SalvageFault}
use Rattle.tb_file.specs.private.Taking.{IsUntaken}
use Rattle.tb_file.proofs.Beyond.{on_none, on_untaken, on_then_on, takes_same}
use Rattle.tb_file.proofs.reading_on.look_on.Goals as goal

pub returns-then-at-ge-FILE_BYTES_MAX-clause-takes : goal.returns-then-at-ge-FILE_BYTES_MAX-clause-takes
returns-then-at-ge-FILE_BYTES_MAX-clause-takes g c =
    on_untaken g.N.Device.disk g.N.Device.tells (g.D.Device.holds c.args.from.now) Bool c.old_fault.result c.args.seek.now c.args.seek.now c.args.keeper.now c.args.keeper.now
    (λ t. g.met.N.Device.only_now c.args.keeper.now.journal.device) c.requires.usable c.requires.ready
    (subst (λ (f : SalvageFault). IsUntaken g.N.Device.disk g.N.Device.tells f c.args.keeper.now c.args.keeper.now) (sym c.old_fault.ensures) refl)

pub returns-then-is_empty-clause-takes : goal.returns-then-is_empty-clause-takes
returns-then-is_empty-clause-takes g c =
    let further : c.args.seek.now.at ≤ c.fill.new.self.at = omega (arith, c.fill.ensures.at) in
    let filled = on_none g.N.Device.disk g.N.Device.tells (g.D.Device.holds c.args.from.now) c.args.seek.now c.fill.new.self c.args.keeper.now c.args.keeper.now
    (λ t. g.met.N.Device.only_now c.args.keeper.now.journal.device) c.requires.usable c.requires.ready refl refl further
    (λ file of seeking. subst (λ (a : ℕ). IsAhead a file c.fill.new.self.ahead) (sym c.fill.ensures.at) (c.in-Ok.ensures.ahead file of seeking).same) in
    ([], filled)

pub returns-in-Ok-look_here-clause-takes : goal.returns-in-Ok-look_here-clause-takes
returns-in-Ok-look_here-clause-takes g c =
    let further : c.args.seek.now.at ≤ c.fill.new.self.at = omega (arith, c.fill.ensures.at) in
    let filled = on_none g.N.Device.disk g.N.Device.tells (g.D.Device.holds c.args.from.now) c.args.seek.now c.fill.new.self c.args.keeper.now c.args.keeper.now
    (λ t. g.met.N.Device.only_now c.args.keeper.now.journal.device) c.requires.usable c.requires.ready refl refl further
    (λ file of seeking. subst (λ (a : ℕ). IsAhead a file c.fill.new.self.ahead) (sym c.fill.ensures.at) (c.in-Ok.ensures.ahead file of seeking).same) in
    on_then_on g.N.Device.disk g.N.Device.tells (g.D.Device.holds c.args.from.now) {T = Bool} (Ok true) [] c.args.seek.now c.fill.new.self c.look_here.new.seek c.args.keeper.now c.args.keeper.now c.look_here.new.keeper filled
    (takes_same g.N.Device.disk g.N.Device.tells (g.D.Device.holds c.args.from.now) (g.D.Device.holds c.fill.new.device) c.fill.ensures.same {T = Unit {0}} (Ok tt) c.fill.new.self c.look_here.new.seek
    c.args.keeper.now c.look_here.new.keeper c.in-Ok-look_here.ensures.takes)

pub returns-in-Err-look_here-clause-takes : goal.returns-in-Err-look_here-clause-takes
returns-in-Err-look_here-clause-takes g c =
    let further : c.args.seek.now.at ≤ c.fill.new.self.at = omega (arith, c.fill.ensures.at) in
    let filled = on_none g.N.Device.disk g.N.Device.tells (g.D.Device.holds c.args.from.now) c.args.seek.now c.fill.new.self c.args.keeper.now c.args.keeper.now
    (λ t. g.met.N.Device.only_now c.args.keeper.now.journal.device) c.requires.usable c.requires.ready refl refl further
    (λ file of seeking. subst (λ (a : ℕ). IsAhead a file c.fill.new.self.ahead) (sym c.fill.ensures.at) (c.in-Ok.ensures.ahead file of seeking).same) in
    on_then_on g.N.Device.disk g.N.Device.tells (g.D.Device.holds c.args.from.now) {T = Bool} (Err c.in-Err-look_here.fault) [] c.args.seek.now c.fill.new.self c.look_here.new.seek c.args.keeper.now c.args.keeper.now c.look_here.new.keeper filled
    (takes_same g.N.Device.disk g.N.Device.tells (g.D.Device.holds c.args.from.now) (g.D.Device.holds c.fill.new.device) c.fill.ensures.same {T = Unit {0}} (Err c.in-Err-look_here.fault) c.fill.new.self c.look_here.new.seek
    c.args.keeper.now c.look_here.new.keeper c.in-Err-look_here.ensures.takes)

pub returns-in-Err-clause-takes : goal.returns-in-Err-clause-takes
returns-in-Err-clause-takes g c =
    on_untaken g.N.Device.disk g.N.Device.tells (g.D.Device.holds c.args.from.now) Bool c.old_fault-in-Err.result c.args.seek.now c.fill.new.self c.args.keeper.now c.args.keeper.now
    (λ t. g.met.N.Device.only_now c.args.keeper.now.journal.device) c.requires.usable c.requires.ready
    (subst (λ (f : SalvageFault). IsUntaken g.N.Device.disk g.N.Device.tells f c.args.keeper.now c.args.keeper.now) (sym c.old_fault-in-Err.ensures) refl)
