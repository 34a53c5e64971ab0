use Rattle.tb_edge_file.proofs.lines.put_mismatch.Goals as goal

pub returns-in-Some : goal.returns-in-Some
returns-in-Some g c = rw c.in-Some.is c.put_rules.ensures

pub returns-in-None : goal.returns-in-None
returns-in-None g c = rw c.in-None.is c.put_named.ensures
