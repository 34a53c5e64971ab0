use Rattle.tb_edge_file.proofs.lines.put_harm.Goals as goal

pub returns-in-Block : goal.returns-in-Block
returns-in-Block g c = rw c.in-Block.is c.put_block.ensures

pub returns-in-Torn : goal.returns-in-Torn
returns-in-Torn g c = rw c.in-Torn.is c.put_torn.ensures
