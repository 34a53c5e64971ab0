use Rattle.std.proofs.Common.{Ok, Err, refl}
use Rattle.tb_edge_file.proofs.keeping.run.Goals as goal

pub returns-in-Ok : goal.returns-in-Ok
returns-in-Ok g c = record {
  len = Ok c.in-Ok.len;
  between = c.len.new.self;
  asked = record { long = c.in-Ok.ensures.bytes; same = c.in-Ok.ensures.same; looks = c.in-Ok.ensures.looks };
  serves = c.start_over.ensures;
}

pub returns-in-Err : goal.returns-in-Err
returns-in-Err g c = record {
  len = Err c.in-Err.fault;
  between = c.len.new.self;
  asked = record { long = c.in-Err.ensures.bytes; same = c.in-Err.ensures.same; looks = c.in-Err.ensures.looks };
  serves = (rw c.disk_fault.ensures refl, refl);
}
