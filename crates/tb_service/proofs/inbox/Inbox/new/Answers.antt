use Rattle.tb_service.proofs.Steps.{begins}
use Rattle.tb_service.proofs.inbox.Inbox.new.Goals as goal

pub bounded_with-requires-clause-rule : goal.bounded_with-requires-clause-rule
bounded_with-requires-clause-rule c = begins
