use Rattle.tb_log.proofs.Answering.{answers_the_script, hashes_the_replies}
use Rattle.tb_log.proofs.laws.answers_the_script.Goals as goal

pub returns-clause-answers : goal.returns-clause-answers
returns-clause-answers c = answers_the_script

pub returns-clause-hashes : goal.returns-clause-hashes
returns-clause-hashes c = hashes_the_replies
