use Rattle.crossbeam_channel.specs.Claims.{view}
use Rattle.tb_service.proofs.Steps.{opens}
use Rattle.tb_service.proofs.inbox.Inbox.port.Goals as goal

pub another-pass-requires-clause-rule : goal.another-pass-requires-clause-rule
another-pass-requires-clause-rule c = let pass = c.args.self.now.pass in opens pass.id (view pass) c.args.self.now.serves
