use Rattle.tb_edge_names.proofs.NewFiles.{creates_part}
use Rattle.tb_edge_names.proofs.named_files.NamedFiles.create.Goals as goal

pub returns-in-Ok-clause-part : goal.returns-in-Ok-clause-part
returns-in-Ok-clause-part g c tells served_tells =
    creates_part _ _ _ _ _ _ c.served.result c.in-Ok.opened.identity _ _ _ (c.create_part.ensures.makes tells) (c.in-Ok.ensures.none tells)
    (c.in-Ok.ensures.served tells served_tells) (c.served.ensures.there served_tells) c.served.ensures.identity
