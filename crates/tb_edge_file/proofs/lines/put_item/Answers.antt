use Rattle.tb_edge_file.proofs.lines.put_item.Goals as goal

pub returns-in-UnknownKind : goal.returns-in-UnknownKind
returns-in-UnknownKind g c = rw c.in-UnknownKind.is c.put_place.ensures

pub returns-in-Short : goal.returns-in-Short
returns-in-Short g c = rw c.in-Short.is c.put_both.ensures

pub returns-in-TimeExhausted : goal.returns-in-TimeExhausted
returns-in-TimeExhausted g c = rw c.in-TimeExhausted.is c.put_number-in-TimeExhausted.ensures
