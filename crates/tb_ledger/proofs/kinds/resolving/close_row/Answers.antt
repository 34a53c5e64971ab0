use Rattle.tb_ledger.proofs.Common.{◌≡◌, ◌==◌, find, Some, sym, subst, ap, ◌∙◌, rules, replaced, replaced-replaced, listed, settled, transfer_row_key}
use Rattle.tb_ledger.specs.declared.tables.work.Undo.TheVariants.{Transfer}
use Rattle.tb_ledger.proofs.UndoLogs.{grown_by, leads_by}
use Rattle.tb_ledger.proofs.Settled.{stored}
use Rattle.tb_ledger.proofs.Index.{undone_unlisted, can_relist}
use Rattle.tb_ledger.proofs.kinds.resolving.close_row.Goals as goal

pub unlist-requires : goal.unlist-requires
unlist-requires g c is = (c.requires.is_listed is).in_range

pub returns : goal.returns
returns g c =
    let p = c.args.p.now in
    let old = c.args.transfers.now.items in
    let later = c.update-closed.new.self.items in
    let ch = c.in-Some.ensures.changed in
    let called = ch.called in
    let found : find (λ row. row.recorded.id == p.recorded.id) old ≡ Some ch.row = subst (λ id. find (λ row. row.recorded.id == id) old ≡ Some ch.row) c.key.ensures ch.found in
    let left_is : ch.left ≡ settled c.args.state ch.row = search rules in
    let the_row : ch.row ≡ p = let e : Some ch.row ≡ Some p = sym found ∙ c.requires.found in cc in
    let closed : later ≡ replaced transfer_row_key (settled c.args.state p) old = ch.written ∙ ap (λ row. replaced transfer_row_key row old) (left_is ∙ ap (settled c.args.state) the_row) in
    let ts = c.args.timeouts.now in
    let moved = c.unlist.new.timeouts in
    let taken = c.unlist.ensures.timeouts in
    let back : replaced transfer_row_key p later ≡ old = rw closed (replaced-replaced transfer_row_key (settled c.args.state p) p old c.requires.found) in
    let timed : listed p moved ≡ ts = rw taken (undone_unlisted p ts c.unlist.ensures.ordered c.requires.is_listed) in
    let undo_log = c.args.undo_log.now in
    let grown = c.note.new.self in
    record {
      transfers = stored c.update-closed.new.self (replaced transfer_row_key (settled c.args.state p) old) c.args.transfers.now.spare closed c.update-closed.ensures.capacity;
      timeouts = taken;
      marked = grown_by (Transfer p) undo_log grown c.note.ensures (λ pushed accounts.
          leads_by undo_log.changes grown.changes (Transfer p) (record { accounts = accounts; transfers = old; timeouts = ts }) (record { accounts = accounts; transfers = later; timeouts = moved }) pushed
          (λ i. record { accounts = accounts; transfers = back i; timeouts = timed i }) (rw taken (can_relist p ts c.unlist.ensures.ordered c.requires.is_listed)));
    }
