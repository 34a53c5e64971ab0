use Rattle.tb_ledger.proofs.Common.{◌≡◌, ◌==◌, true, find, None, sym, subst, ap, ◌∙◌, rules, arith, common_steps, AreLedgerRows}
use Rattle.tb_ledger.proofs.FailedLaws.{absent}
use Rattle.tb_ledger.proofs.RowLaws.{ledger_with_failed}
use Rattle.tb_ledger.proofs.kinds.transfer.note_failed.Goals as goal

pub insert_reserved-requires-clause-absent : goal.insert_reserved-requires-clause-absent
insert_reserved-requires-clause-absent g c =
    let rows = c.args.rows.now in
    let kept : rows.keeps_failed ≡ true = first_of (search rules, grind (arith, common_steps)) in
    let passed : c.is_for_good.result ≡ true = first_of (search rules, grind (arith, common_steps)) in
    absent rows.failed.items rows.keeps_failed c.args.t.now.id kept (c.requires.fresh (sym c.is_for_good.ensures ∙ passed))

pub returns-clause-kept : goal.returns-clause-kept
returns-clause-kept g c =
    let rows = c.args.rows.now in
    let kept : rows.keeps_failed ≡ true = first_of (search rules, grind (arith, common_steps)) in
    let passed : c.is_for_good.result ≡ true = first_of (search rules, grind (arith, common_steps)) in
    let fresh : find (λ k. k == c.args.t.now.id) rows.failed.items ≡ None = absent rows.failed.items rows.keeps_failed c.args.t.now.id kept (c.requires.fresh (sym c.is_for_good.ensures ∙ passed)) in
    subst (λ ids. AreLedgerRows rows.accounts.items rows.transfers.items ids rows.keeps_failed rows.timeouts.items rows.time) (sym (ap (λ t. t.items) c.insert_reserved.ensures.table))
    (ledger_with_failed rows.accounts.items rows.transfers.items rows.failed.items rows.keeps_failed rows.timeouts.items rows.time c.args.t.now.id c.requires.kept kept fresh)
