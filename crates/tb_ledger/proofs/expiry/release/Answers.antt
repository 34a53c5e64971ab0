use Rattle.tb_ledger.proofs.Common.{◌≡◌, refl, rules, closing_debit, closing_credit, on_debits, on_credits, released, accounts_released}
use Rattle.tb_ledger.proofs.Settled.{both_written, stored}
use Rattle.tb_ledger.proofs.expiry.release.Goals as goal

pub returns : goal.returns
returns g c =
    let p = c.args.p.now in
    let ch = c.in-Some.ensures.changed in
    let called = ch.called in
    let debit_is : ch.left ≡ on_debits (released closing_debit p) ch.row = search rules in
    let credit_is : ch.other_left ≡ on_credits (released closing_credit p) ch.other = search rules in
    let wrote = both_written p.debit_account_id p.credit_account_id (on_debits (released closing_debit p)) (on_credits (released closing_credit p)) ch.row ch.left ch.other ch.other_left c.args.accounts.now.items c.update_two-released.new.self.items (λ y. refl) (λ y. refl) c.requires.apart ch.found ch.other_found debit_is credit_is ch.written in
    stored c.update_two-released.new.self (accounts_released p c.args.accounts.now.items) c.args.accounts.now.spare wrote c.update_two-released.ensures.capacity
