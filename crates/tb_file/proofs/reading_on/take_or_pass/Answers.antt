use Rattle.std.proofs.Common.{arith, [], ◌∷◌, ◌≡◌, ◌≤◌, ◌+◌, length}
use Rattle.tb_file.proofs.Beyond.{on_none, on_one, on_untaken}
use Rattle.tb_file.proofs.reading_on.take_or_pass.Goals as goal

pub returns-in-Ok-true-clause-takes : goal.returns-in-Ok-true-clause-takes
returns-in-Ok-true-clause-takes g c =
    let (bytes, long, takes, at, stands) = rw c.in-Ok-true.field-0-test at c.in-Ok-true.ensures.takes in
    let far : c.pass_record.new.seek.at ≡ c.args.seek.now.at + (4 + length bytes) = omega (arith, c.pass_record.ensures.at, at, long) in (
      bytes ∷ [],
      on_one g.N.Device.disk g.N.Device.tells (g.D.Device.holds c.args.from.now) c.args.seek.now c.pass_record.new.seek bytes c.args.keeper.now c.take_here.new.keeper takes far
          (λ file of seeking. let (there, here) = stands file of seeking in (there, c.pass_record.ensures.seeks file here)),
    )

pub returns-in-Ok-false-clause-takes : goal.returns-in-Ok-false-clause-takes
returns-in-Ok-false-clause-takes g c =
    let (state, journal, at, seeks) = rw c.in-Ok-false.field-0-test at c.in-Ok-false.ensures.takes in
    let further : c.args.seek.now.at ≤ c.skip.new.self.at = omega (arith, c.skip.ensures.at, at) in (
      [],
      on_none g.N.Device.disk g.N.Device.tells (g.D.Device.holds c.args.from.now) c.args.seek.now c.skip.new.self c.args.keeper.now c.take_here.new.keeper
          (λ t. g.met.N.Device.only_now c.args.keeper.now.journal.device) c.requires.usable c.requires.ready state journal further (λ file of seeking. c.skip.ensures.seeks file (seeks file of seeking)),
    )

pub returns-in-Err-clause-takes : goal.returns-in-Err-clause-takes
returns-in-Err-clause-takes g c =
    on_untaken g.N.Device.disk g.N.Device.tells (g.D.Device.holds c.args.from.now) (Unit {0}) c.in-Err.fault c.args.seek.now c.take_here.new.seek c.args.keeper.now c.take_here.new.keeper
    (λ t. g.met.N.Device.only_now c.args.keeper.now.journal.device) c.requires.usable c.requires.ready c.in-Err.ensures.takes
