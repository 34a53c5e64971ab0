use Rattle.tb_ledger.proofs.Common.{◌≡◌, taken_out-put, taken_out, transfer_row_key, unlisted}
use Rattle.tb_ledger.specs.declared.tables.work.Undo.TheVariants.{AddedTransfer}
use Rattle.tb_ledger.proofs.UndoLogs.{grown_by, leads_by}
use Rattle.tb_ledger.proofs.Index.{undone_listed}
use Rattle.tb_ledger.proofs.tables.index.add_row.Goals as goal

pub returns-clause-marked : goal.returns-clause-marked
returns-clause-marked g c =
    let row = c.args.row.now in
    let old = c.args.transfers.now.items in
    let ts = c.args.timeouts.now in
    let later = c.insert_reserved.new.self.items in
    let moved = c.list.new.timeouts in
    let untimed : unlisted row moved ≡ ts = rw c.list.ensures (undone_listed row ts c.requires.can_list) in
    let back : taken_out transfer_row_key row.recorded.id later ≡ old = rw c.insert_reserved.ensures.table (taken_out-put transfer_row_key row old c.requires.fresh) in
    let undo_log = c.args.undo_log.now in
    let grown = c.note.new.self in
    grown_by (AddedTransfer row) undo_log grown c.note.ensures (λ pushed accounts.
    leads_by undo_log.changes grown.changes (AddedTransfer row) (record { accounts = accounts; transfers = old; timeouts = ts }) (record { accounts = accounts; transfers = later; timeouts = moved }) pushed
    (λ i. record { accounts = accounts; transfers = back i; timeouts = untimed i }) (λ is. (c.requires.can_list is).in_range))
