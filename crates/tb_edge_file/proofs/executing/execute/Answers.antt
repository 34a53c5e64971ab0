use Rattle.std.proofs.Common.{Ok, Err, refl}
use Rattle.tb_edge_file.proofs.executing.execute.Goals as goal

pub returns-in-Ok : goal.returns-in-Ok
returns-in-Ok g c = record {
  performed = c.perform-done.result;
  middle = _;
  noted = _;
  performs = c.perform-done.ensures;
  outcome = Ok tt;
  finishes = c.in-Ok.ensures;
  exit_status_is = refl;
  line = refl;
}

pub returns-in-Err : goal.returns-in-Err
returns-in-Err g c = record {
  performed = c.perform-done.result;
  middle = _;
  noted = _;
  performs = c.perform-done.ensures;
  outcome = Err c.in-Err.fault;
  finishes = c.in-Err.ensures;
  exit_status_is = c.exit_status.ensures.value;
  line = rw c.path.ensures at c.print_fault.ensures;
}
