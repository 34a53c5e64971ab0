use Rattle.tb_machine.proofs.RepliesFit.{answers_fit, given_fit, accepted_are_requests}
use Rattle.tb_machine.proofs.laws.answers_fit.Goals as goal

pub returns-clause-answers : goal.returns-clause-answers
returns-clause-answers c = answers_fit

pub returns-clause-given : goal.returns-clause-given
returns-clause-given c = given_fit

pub returns-clause-held : goal.returns-clause-held
returns-clause-held c = accepted_are_requests
