use Rattle.std.proofs.Common.{Ok, Err, refl, ap, ◌∙◌, arith}
use Rattle.tb_edge_file.specs.Kinds.{file_kind}
use Rattle.tb_edge_file.proofs.FirstBytes.{first_bytes}
use Rattle.tb_edge_file.proofs.naming.kind_in.Goals as goal

pub returns-in-Ok : goal.returns-in-Ok
returns-in-Ok g c = record {
  read = Ok c.in-Ok.count;
  kind_is = λ file holds. c.kind_of.ensures ∙ ap file_kind (first_bytes c.in-Ok.count 56 _ file (c.in-Ok.ensures.bytes file holds) (omega arith));
  looks = c.in-Ok.ensures.looks;
}

pub returns-in-Err : goal.returns-in-Err
returns-in-Err g c = record { read = Err c.in-Err.field-0; kind_is = λ file holds. refl; looks = c.in-Err.ensures.looks }
