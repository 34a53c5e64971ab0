use Rattle.tb_edge_file.proofs.lines.put_uncopied.Goals as goal

pub returns : goal.returns
returns g c = rw c.uncopied_text.ensures at c.put_named.ensures
