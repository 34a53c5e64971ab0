use Rattle.tb_edge_names.proofs.NewFiles.{gives, gives_none, gives_not}
use Rattle.tb_edge_names.proofs.parts.give_name.Goals as goal

pub returns-in-Ok-link_part : goal.returns-in-Ok-link_part
returns-in-Ok-link_part g c tells =
    gives _ _ _ c.settle_name.result _ _ _ _ (c.find_part.ensures.same tells) (c.in-Ok.ensures.led tells) (c.in-Ok-link_part.ensures.linked tells)
    (c.link_part.ensures.rest tells) (c.settle_name.ensures tells)

pub returns-in-Err-link_part : goal.returns-in-Err-link_part
returns-in-Err-link_part g c tells = gives_none _ _ _ c.in-Err-link_part.fault _ _ _ (c.find_part.ensures.same tells) (c.link_part.ensures.rest tells)

pub returns-in-Err : goal.returns-in-Err
returns-in-Err g c tells = gives_not _ _ _ c.in-Err.fault _ _ (c.find_part.ensures.same tells)
