use Rattle.tb_ledger.proofs.Common.{length, length-map, option_copied, sym, ap, ◌∙◌, Books}
use Rattle.tb_ledger.proofs.ReadLaws.{account_read, account_unread}
use Rattle.tb_ledger.proofs.ledgers.Ledger.probe_account.Goals as goal

pub returns-in-Some-clause-account : goal.returns-in-Some-clause-account
returns-in-Some-clause-account g c =
    account_read _ _ _ _ _ _ c.self.invariant c.args.self.now c.args.id c.in-Some.row.now c.as_it_stands.result c.self.view_is (ap option_copied (sym c.in-Some.is) ∙ c.probe-visits.ensures.row) c.as_it_stands.ensures

pub returns-in-None-clause-account : goal.returns-in-None-clause-account
returns-in-None-clause-account g c = account_unread _ _ _ _ _ _ c.self.invariant c.args.self.now c.args.id c.self.view_is (ap option_copied (sym c.in-None.is) ∙ c.probe-visits.ensures.row)

pub returns-in-Some-clause-visits : goal.returns-in-Some-clause-visits
returns-in-Some-clause-visits g c =
    let count = ap (λ (B : Books). length B.accounts) (sym c.self.view_is) ∙ length-map _ _ in
    rw count c.probe-visits.ensures.visits

pub returns-in-None-clause-visits : goal.returns-in-None-clause-visits
returns-in-None-clause-visits g c =
    let count = ap (λ (B : Books). length B.accounts) (sym c.self.view_is) ∙ length-map _ _ in
    rw count c.probe-visits.ensures.visits
