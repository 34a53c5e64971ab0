use Rattle.std.proofs.Common.{Ok, Err, refl}
use Rattle.tb_edge_file.proofs.keeping.start.Goals as goal

pub returns-in-Ok : goal.returns-in-Ok
returns-in-Ok g c = record {
  noted = _;
  reading = c.print_reading.ensures;
  started = Ok c.in-Ok.keeper;
  starts = c.in-Ok.ensures.starts;
  handed = c.in-Ok.ensures.handed;
  aside = c.in-Ok.ensures.aside;
  serves = c.serve.ensures;
}

pub returns-in-Err : goal.returns-in-Err
returns-in-Err g c = record {
  noted = _;
  reading = c.print_reading.ensures;
  started = Err c.in-Err.failed;
  starts = c.in-Err.ensures.starts;
  handed = c.in-Err.ensures.handed;
  aside = c.in-Err.ensures.aside;
  serves = record {
    named = c.refused.result;
    outcome_is = refl;
    left = c.refused.ensures.0;
    names = c.refused.ensures.1;
    nothing = refl;
  };
}
