use Rattle.tb_edge_file.proofs.DumpPrefixes.{parts_go_on, dumps_are_parts}
use Rattle.tb_edge_file.proofs.laws.parts_go_on.Goals as goal

pub returns-clause-parts : goal.returns-clause-parts
returns-clause-parts c = parts_go_on

pub returns-clause-dumps : goal.returns-clause-dumps
returns-clause-dumps c = dumps_are_parts
