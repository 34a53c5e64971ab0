use Rattle.tb_machine.proofs.MarkLegal.{next_is_legal, moved_is_legal, accepted_is_legal_with, dumped_is_legal}
use Rattle.tb_machine.proofs.laws.legal_with_a_mark.Goals as goal

pub returns-clause-next : goal.returns-clause-next
returns-clause-next c = next_is_legal

pub returns-clause-moved : goal.returns-clause-moved
returns-clause-moved c = moved_is_legal

pub returns-clause-accepted : goal.returns-clause-accepted
returns-clause-accepted c = accepted_is_legal_with

pub returns-clause-dumped : goal.returns-clause-dumped
returns-clause-dumped c = dumped_is_legal
