use Rattle.std.proofs.Common.{Ok, Err, refl}
use Rattle.tb_edge_file.proofs.copying.copy_made.Goals as goal

pub returns-in-Ok : goal.returns-in-Ok
returns-in-Ok g c = (c.make_new-made.new.self, record { answer = Ok c.in-Ok.into; answered = c.in-Ok.ensures.made; done = c.copy_into.ensures })

pub returns-in-Err : goal.returns-in-Err
returns-in-Err g c = (c.make_new-made.new.self, record { answer = Err c.in-Err.fault; answered = c.in-Err.ensures.made; done = (refl, (refl, refl)) })
