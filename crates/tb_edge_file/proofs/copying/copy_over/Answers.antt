use Rattle.std.proofs.Common.{Ok, Err, refl}
use Rattle.tb_edge_file.proofs.copying.copy_over.Goals as goal

pub returns-in-Ok : goal.returns-in-Ok
returns-in-Ok g c = record {
  middle = c.open-opened.new.self;
  copies = record { answer = Ok c.in-Ok.device; answered = c.in-Ok.ensures; done = c.copy_headed.ensures };
}

pub returns-in-Err : goal.returns-in-Err
returns-in-Err g c = record {
  middle = c.open-opened.new.self;
  copies = record { answer = Err c.in-Err.fault; answered = c.in-Err.ensures; done = (refl, (refl, refl)) };
}
