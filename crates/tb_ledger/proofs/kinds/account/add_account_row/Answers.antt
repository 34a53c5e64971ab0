use Rattle.tb_ledger.proofs.Common.{◌≡◌, taken_out, taken_out-put, account_row_key, new_row}
use Rattle.tb_ledger.specs.declared.tables.work.Undo.TheVariants.{AddedAccount}
use Rattle.tb_ledger.proofs.UndoLogs.{grown_by, leads_by}
use Rattle.tb_ledger.proofs.kinds.account.add_account_row.Goals as goal

pub returns-clause-noted : goal.returns-clause-noted
returns-clause-noted g c =
    let a = c.args.a.now in
    let old = c.args.accounts.now.items in
    let later = c.insert_reserved.new.self.items in
    let back : taken_out account_row_key a.id later ≡ old = rw (c.insert_reserved.ensures.table, c.new.ensures) (taken_out-put account_row_key (new_row a) old c.requires.fresh) in
    let undo_log = c.args.undo_log.now in
    let grown = c.note.new.self in
    grown_by (AddedAccount a.id) undo_log grown c.note.ensures (λ pushed x.
    leads_by undo_log.changes grown.changes (AddedAccount a.id) (record x { accounts = old }) (record x { accounts = later }) pushed (λ i. record x { accounts = back i }) tt)
