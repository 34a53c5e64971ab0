use Rattle.tb_ledger.proofs.Common.{◌≡◌, ◌≤◌, map, length, Each, Rising, account_row_key, HasSums, IsIndex}
use Rattle.tb_ledger.proofs.Expiries.{WillBe}
use Rattle.tb_ledger.proofs.expiry.expire_due.Given as goal

abbrev pub invariant-loop-due : goal.invariant-loop-due
invariant-loop-due g l = record {
  rising : Rising account_row_key l.rows.accounts.items;
  sums : Each (HasSums l.rows.transfers.items) l.rows.accounts.items;
  ahead : Each (WillBe l.time (map (λ t. t.recorded) l.initial.rows.transfers.items)) l.rows.transfers.items;
  index : IsIndex l.rows.transfers.items l.rows.timeouts.items;
  accounts : map (λ a. a.created) l.rows.accounts.items ≡ map (λ a. a.created) l.initial.rows.accounts.items;
  transfers : map (λ t. t.recorded) l.rows.transfers.items ≡ map (λ t. t.recorded) l.initial.rows.transfers.items;
  accounts_capacity : l.rows.accounts.spare ≡ l.initial.rows.accounts.spare;
  transfers_capacity : l.rows.transfers.spare ≡ l.initial.rows.transfers.spare;
  timeouts_capacity : l.initial.rows.timeouts.spare ≤ l.rows.timeouts.spare;
  failed : l.rows.failed ≡ l.initial.rows.failed;
  keeps_failed : l.rows.keeps_failed ≡ l.initial.rows.keeps_failed;
}

abbrev pub decreases-loop-due : goal.decreases-loop-due
decreases-loop-due g l = length l.rows.timeouts.items
