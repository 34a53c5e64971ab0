use Rattle.std.proofs.Common.{arith, [], ◌≤◌, refl}
use Rattle.tb_file.proofs.Beyond.{on_none}
use Rattle.tb_file.proofs.reading_on.look_here.Goals as goal

pub returns-in-None-clause-takes : goal.returns-in-None-clause-takes
returns-in-None-clause-takes g c =
    let further : c.args.seek.now.at ≤ c.skip.new.self.at = omega (arith, c.skip.ensures.at) in (
      [],
      on_none g.N.Device.disk g.N.Device.tells (g.D.Device.holds c.args.from.now) c.args.seek.now c.skip.new.self c.args.keeper.now c.args.keeper.now
          (λ t. g.met.N.Device.only_now c.args.keeper.now.journal.device) c.requires.usable c.requires.ready refl refl further (λ file of seeking. c.skip.ensures.seeks file seeking),
    )
