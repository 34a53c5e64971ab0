-- A log of changes, the oldest first, and what undoing them gives.
use Rattle.std.specs.Prelude.{ℕ, true, ◌≡◌, ◌+◌, ◌≤◌, List, [], ◌∷◌, length}
use Rattle.tb_ledger.specs.declared.tables.accounts.AccountRow.{AccountRow}
use Rattle.tb_ledger.specs.declared.tables.transfers.TransferRow.{TransferRow}
use Rattle.tb_ledger.specs.declared.tables.rows.Rows.{Rows}
use Rattle.tb_ledger.specs.declared.tables.timeouts.Timeout.{Timeout}
use Rattle.tb_ledger.specs.declared.tables.work.Undo.{Undo}
use Rattle.tb_ledger.specs.declared.tables.work.Undo.TheVariants.{Account, Transfer, AddedAccount, AddedTransfer}
use Rattle.tb_records.specs.Ordered.{replaced, taken_out}
use Rattle.tb_records.specs.declared.limits.TheConstants.{LAST_MOMENT}
use Rattle.tb_ledger.specs.Kept.{account_row_key, transfer_row_key, times_out, listed, unlisted, CanList}
use Rattle.tb_ledger.specs.Books.{expires_at}
use Rattle.tb_ledger.specs.Tables.{Stored}
use Rattle.tb_ledger.specs.private.Noted.{Noted}

-- what the events of a chain change: the rows of accounts and of transfers, the timeouts and their spare rows
pub record Chained : Type 0 where
  pub accounts : List AccountRow
  pub transfers : List TransferRow
  pub timeouts : Stored Timeout

abbrev pub chained : {A : Type 0} → Rows A → Chained
chained rows = record { accounts = rows.accounts.items; transfers = rows.transfers.items; timeouts = rows.timeouts }

-- the state before a change
abbrev pub undone_by : Undo → Chained → Chained
undone_by (Account row) x = record x { accounts = replaced account_row_key row x.accounts }
undone_by (Transfer row) x = record x { transfers = replaced transfer_row_key row x.transfers; timeouts = listed row x.timeouts }
undone_by (AddedAccount id) x = record x { accounts = taken_out account_row_key id x.accounts }
undone_by (AddedTransfer row) x = record x { transfers = taken_out transfer_row_key row.recorded.id x.transfers; timeouts = unlisted row x.timeouts }

-- the state before the changes of a log
abbrev pub unwound : List Undo → Chained → Chained
unwound [] x = x
unwound (u ∷ us) x = undone_by u (unwound us x)

-- there is capacity for a timeout that is restored
abbrev pub CanUndo : Undo → Chained → Type 0
CanUndo (Account row) x = Unit {0}
CanUndo (Transfer row) x = times_out row ≡ true → CanList row x.timeouts
CanUndo (AddedAccount id) x = Unit {0}
CanUndo (AddedTransfer row) x = times_out row ≡ true → expires_at row.recorded ≤ LAST_MOMENT

abbrev pub CanUnwind : List Undo → Chained → Type 0
CanUnwind [] x = Unit {0}
CanUnwind (u ∷ us) x = CanUndo u (unwound us x) × CanUnwind us x

-- the longer list leads back from `later` to the state to which the shorter one leads from x
pub record LeadsBack (x later : Chained) (changes more : List Undo) : Type 0 where
  pub undone : unwound more later ≡ unwound changes x
  pub can_unwind : CanUnwind changes x → CanUnwind more later

-- changes are undone: what a chain changes is as in x, no capacity is lost, and everything else stays
pub record IsUndoneTo {A : Type 0} (x : Chained) (rows later : Rows A) : Type 0 where
  pub undone : chained later ≡ x
  pub accounts_capacity : rows.accounts.spare ≤ later.accounts.spare
  pub transfers_capacity : rows.transfers.spare ≤ later.transfers.spare
  pub failed : later.failed ≡ rows.failed
  pub keeps_failed : later.keeps_failed ≡ rows.keeps_failed
  pub time : later.time ≡ rows.time

-- at most n changes were added, and if changes are noted at all they lead back
pub record GrowsUndoLog (n : ℕ) (back : List Undo → List Undo → Type 0) (undo_log grown : Noted) : Type 0 where
  pub leads : undo_log.noting ≡ true → back undo_log.changes grown.changes
  pub noting : grown.noting ≡ undo_log.noting
  pub length : length grown.changes ≤ length undo_log.changes + n
  pub capacity : grown.capacity ≡ undo_log.capacity

-- accounts changed, with at most n more records that lead back
abbrev pub IsNoted : ℕ → List AccountRow → List AccountRow → Noted → Noted → Type 0
IsNoted n accounts later = GrowsUndoLog n (λ us vs. (x : Chained) → LeadsBack (record x { accounts = accounts }) (record x { accounts = later }) us vs)

-- a transfer's row was changed or added, and its timeout with it, with at most n more records that lead back
abbrev pub IsMarked : ℕ → List TransferRow → List TransferRow → Stored Timeout → Stored Timeout → Noted → Noted → Type 0
IsMarked n transfers later ts ts_later = GrowsUndoLog n (λ us vs. (accounts : List AccountRow) → LeadsBack (record { accounts = accounts; transfers = transfers; timeouts = ts }) (record { accounts = accounts; transfers = later; timeouts = ts_later }) us vs)
