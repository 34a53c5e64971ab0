use Rattle.tb_ledger.proofs.Common.{◌≡◌, ◌≤◌, length, chained, unwound, CanUnwind}
use Rattle.tb_ledger.proofs.tables.work.unwind.Given as goal

abbrev pub invariant-loop-undo : goal.invariant-loop-undo
invariant-loop-undo g l = record {
  undone : unwound l.undo_log.changes (chained l.rows) ≡ unwound l.initial.undo_log.changes (chained l.initial.rows);
  can : CanUnwind l.undo_log.changes (chained l.rows);
  accounts_capacity : l.initial.rows.accounts.spare ≤ l.rows.accounts.spare;
  transfers_capacity : l.initial.rows.transfers.spare ≤ l.rows.transfers.spare;
  failed : l.rows.failed ≡ l.initial.rows.failed;
  keeps_failed : l.rows.keeps_failed ≡ l.initial.rows.keeps_failed;
  time : l.rows.time ≡ l.initial.rows.time;
  capacity : l.undo_log.capacity ≡ l.initial.undo_log.capacity;
}

abbrev pub decreases-loop-undo : goal.decreases-loop-undo
decreases-loop-undo g l = length l.undo_log.changes
