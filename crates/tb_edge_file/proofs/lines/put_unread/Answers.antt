use Rattle.std.proofs.lemmas.Bool.{ne_eqb}
use Rattle.tb_edge_file.proofs.lines.put_unread.Goals as goal

pub returns-in-None : goal.returns-in-None
returns-in-None g c = rw c.in-None.is c.put_all.ensures

pub returns-then-number-eq0 : goal.returns-then-number-eq0
returns-then-number-eq0 g c = rw (c.in-Some.is, c.if-number-eq0.true) c.put_all-then-number-eq0.ensures

pub returns-else-number-eq0 : goal.returns-else-number-eq0
returns-else-number-eq0 g c = rw (c.in-Some.is, ne_eqb c.in-Some.number 0 c.if-number-eq0.false) c.put_between.ensures
