use Rattle.std.proofs.Common.{List, IfOk, subst}
use Rattle.tb_records.specs.Messages.{Message}
use Rattle.tb_service.specs.OfferedLaws.{GrowsByOffers}
use Rattle.tb_test_uses.proofs.serving.run_one.Goals as goal

pub returns-in-Ok : goal.returns-in-Ok
returns-in-Ok g c =
    subst (λ (l : List Message). IfOk c.run_closed.result (λ finished. GrowsByOffers 1 (λ port. l) c.args.server.state.history finished.publisher.history)) c.in-Ok.ensures.offered c.run_closed.ensures
