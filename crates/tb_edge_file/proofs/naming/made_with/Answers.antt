use Rattle.std.proofs.Common.{Ok, Err, refl}
use Rattle.tb_edge_file.proofs.naming.made_with.Goals as goal

pub returns-in-Ok : goal.returns-in-Ok
returns-in-Ok g c = record {
  made = Ok c.in-Ok.made;
  numbers_are = rw (c.numbers_of.ensures, c.numbers_of-in-Ok.ensures) refl;
  of_file = c.in-Ok.ensures.rules;
  cause = c.in-Ok.ensures.cause;
}

pub returns-in-Err : goal.returns-in-Err
returns-in-Err g c = record { made = Err c.in-Err.field-0; numbers_are = refl; of_file = c.in-Err.ensures.rules; cause = c.in-Err.ensures.cause }
