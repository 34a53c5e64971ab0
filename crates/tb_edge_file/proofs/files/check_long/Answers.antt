use Rattle.std.proofs.Common.{Ok, Err, refl}
use Rattle.tb_edge_file.proofs.files.check_long.Goals as goal

pub returns-in-Ok : goal.returns-in-Ok
returns-in-Ok g c = record {
  found = Ok c.in-Ok.found;
  between = c.read_by.new.device;
  read = c.in-Ok.ensures;
  checks = rw c.summary.ensures at c.report.ensures;
}

pub returns-in-Err : goal.returns-in-Err
returns-in-Err g c = record {
  found = Err c.in-Err.fault;
  between = c.read_by.new.device;
  read = c.in-Err.ensures;
  checks = (record { named = c.named.result; outcome_is = refl; names = c.named.ensures }, refl);
}
