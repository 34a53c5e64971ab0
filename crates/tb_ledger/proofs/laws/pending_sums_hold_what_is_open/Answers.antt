use Rattle.tb_ledger.proofs.MeaningLaws.{held_while_open}
use Rattle.tb_ledger.proofs.laws.pending_sums_hold_what_is_open.Goals as goal

pub returns : goal.returns
returns c = held_while_open
