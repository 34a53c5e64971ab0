use Rattle.std.proofs.Common.{Ok, Err, refl}
use Rattle.tb_edge_file.proofs.copying.copy.Goals as goal

pub returns-in-Ok : goal.returns-in-Ok
returns-in-Ok g c = record {
  len = Ok c.in-Ok.len;
  between = c.file_len.new.self;
  asked = record {
    long = c.in-Ok.ensures.long;
    extends = c.in-Ok.ensures.extends;
    told = c.in-Ok.ensures.told;
    same = c.in-Ok.ensures.same;
    looks = c.in-Ok.ensures.looks;
  };
  copies = c.copy_long.ensures;
}

pub returns-in-Err : goal.returns-in-Err
returns-in-Err g c = record {
  len = Err c.in-Err.fault;
  between = c.file_len.new.self;
  asked = record {
    long = c.in-Err.ensures.long;
    extends = c.in-Err.ensures.extends;
    told = c.in-Err.ensures.told;
    same = c.in-Err.ensures.same;
    looks = c.in-Err.ensures.looks;
  };
  copies = (rw c.disk_fault.ensures refl, refl);
}
