use Rattle.tb_caller_laws.proofs.Worlds.{each_call_once, ended_is_final, never_newer}
use Rattle.tb_caller_laws.proofs.laws.exactly_once.Goals as goal

pub returns-clause-calls : goal.returns-clause-calls
returns-clause-calls c = each_call_once

pub returns-clause-ended : goal.returns-clause-ended
returns-clause-ended c = ended_is_final

pub returns-clause-newer : goal.returns-clause-newer
returns-clause-newer c = never_newer
