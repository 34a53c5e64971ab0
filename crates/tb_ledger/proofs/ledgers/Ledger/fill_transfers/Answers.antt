use Rattle.tb_ledger.proofs.Common.{◌++◌, refl, ap, ◌∙◌, transfer_at, found_in}
use Rattle.tb_ledger.proofs.FoundIds.{shown-same}
use Rattle.tb_ledger.proofs.ReadLaws.{transfer_read}
use Rattle.tb_ledger.proofs.ledgers.Ledger.fill_transfers.Goals as goal

pub returns-clause-items : goal.returns-clause-items
returns-clause-items g c =
    c.fill.ensures.items ∙ ap (λ xs. c.args.out.now.items ++ xs) (shown-same (found_in (λ t. t.recorded.id) (λ t. t.recorded) c.self.inside.work.rows.transfers.items) (transfer_at c.args.self.now) (λ id. transfer_read _ _ _ _ _ c.args.self.now id _ c.self.view_is refl) c.args.ids.now)
