use Rattle.tb_service.proofs.Turns.{has_turn}
use Rattle.tb_service.proofs.clerk.enter.Goals as goal

pub returns : goal.returns
returns g c = has_turn g.J.Naming.opening c.args.publisher.now.history c.enter.new.self.history c.args.request c.args.now c.enter.result c.err.result c.err.ensures.value c.enter.ensures.history
