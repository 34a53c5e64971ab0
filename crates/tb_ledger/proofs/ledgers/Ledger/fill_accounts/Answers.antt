use Rattle.tb_ledger.proofs.Common.{◌++◌, refl, ap, ◌∙◌, account_now, row_now, found_in}
use Rattle.tb_ledger.proofs.FoundIds.{shown-same}
use Rattle.tb_ledger.proofs.ReadLaws.{account_of}
use Rattle.tb_ledger.proofs.ledgers.Ledger.fill_accounts.Goals as goal

pub returns-clause-items : goal.returns-clause-items
returns-clause-items g c =
    c.fill.ensures.items ∙ ap (λ xs. c.args.out.now.items ++ xs) (shown-same (found_in (λ a. a.created.id) row_now c.self.inside.work.rows.accounts.items) (account_now c.args.self.now) (λ id. account_of _ _ _ _ _ _ c.self.invariant c.args.self.now id _ c.self.view_is refl) c.args.ids.now)
