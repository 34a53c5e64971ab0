use Rattle.std.proofs.Common.{Ok, Err, refl}
use Rattle.tb_edge_file.proofs.CopiedFiles.{rescued}
use Rattle.tb_edge_file.proofs.copying.rescue.Goals as goal

pub returns-in-Ok : goal.returns-in-Ok
returns-in-Ok g c = record {
  looked = c.look_behind.new.self;
  looks = c.look_behind.ensures.whole;
  all = c.look_behind.ensures.all;
  between = c.read_on.new.from;
  result = Ok c.in-Ok.on;
  keeper = c.read_on.new.keeper;
  on = c.in-Ok.ensures.on;
  any_moment = c.in-Ok.ensures.any_moment;
  ends = (rescued _ _ _ c.read_on.new.keeper.state c.in-Ok.on _ _ c.rescued_of-rescued.ensures c.copied_of-copied.ensures c.into_device-device.ensures, refl);
}

pub returns-in-Err : goal.returns-in-Err
returns-in-Err g c = record {
  looked = c.look_behind.new.self;
  looks = c.look_behind.ensures.whole;
  all = c.look_behind.ensures.all;
  between = c.read_on.new.from;
  result = Err c.in-Err.fault;
  keeper = c.read_on.new.keeper;
  on = tt;
  any_moment = c.in-Err.ensures.any_moment;
  ends = (c.named_copy.result, refl, c.named_copy.ensures);
}
