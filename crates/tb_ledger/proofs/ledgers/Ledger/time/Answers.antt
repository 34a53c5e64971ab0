use Rattle.tb_ledger.proofs.Common.{subst, IdsRise}
use Rattle.tb_ledger.proofs.ledgers.Ledger.time.Goals as goal

pub returns-clause-ids_rise : goal.returns-clause-ids_rise
returns-clause-ids_rise g c = subst IdsRise c.self.view_is c.self.invariant.rising
