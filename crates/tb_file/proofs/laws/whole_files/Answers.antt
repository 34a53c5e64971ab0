use Rattle.tb_file.proofs.WholeFiles.{whole_stops, whole_rules, whole_no_head, whole_dumps}
use Rattle.tb_file.proofs.laws.whole_files.Goals as goal

pub returns-clause-stops : goal.returns-clause-stops
returns-clause-stops c = whole_stops

pub returns-clause-rules : goal.returns-clause-rules
returns-clause-rules c = whole_rules

pub returns-clause-no_head : goal.returns-clause-no_head
returns-clause-no_head c = whole_no_head

pub returns-clause-dumps : goal.returns-clause-dumps
returns-clause-dumps c = whole_dumps
