use Rattle.std.proofs.Common.{Ok, Err, refl}
use Rattle.tb_edge_file.proofs.copying.copy_into.Goals as goal

pub returns-in-Ok : goal.returns-in-Ok
returns-in-Ok g c = record { finished = Ok c.in-Ok.finished; copies = c.in-Ok.ensures; finishes = c.name_copied.ensures }

pub returns-in-Err : goal.returns-in-Err
returns-in-Err g c = record { finished = Err c.in-Err.fault; copies = c.in-Err.ensures; finishes = (refl, refl, refl) }
