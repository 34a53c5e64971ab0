use Rattle.tb_machine.proofs.PlainRuns.{ran_plain}
use Rattle.tb_machine.proofs.serving.run.Goals as goal

pub returns-clause-plain : goal.returns-clause-plain
returns-clause-plain g c = ran_plain c.args.profile c.args.clients_max c.run_over-served.result _ _ _ _ c.run_over-served.ensures.ran
