use Rattle.tb_ledger.proofs.Common.{sym, ◌∙◌}
use Rattle.tb_ledger.proofs.AbsentKeys.{unlike-among}
use Rattle.tb_ledger.proofs.tables.absent_ids.AbsentIds.excludes.Goals as goal

pub returns : goal.returns
returns c = λ is k may. unlike-among k c.args.id c.args.self.now.absent (may.unlike c.if-not-self.false) (sym c.is_among.ensures ∙ is)
