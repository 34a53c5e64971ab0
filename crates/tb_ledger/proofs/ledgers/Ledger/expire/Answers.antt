use Rattle.tb_ledger.proofs.ledgers.Ledger.expire.Goals as goal

pub invariant_of-self : goal.invariant_of-self
invariant_of-self g c = c.expire.ensures.kept
