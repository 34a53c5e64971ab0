-- What the tables can still take without an allocation.
use Rattle.std.specs.Prelude.{ℕ, ◌≡◌, ◌+◌, ◌≤◌, Bool, true}
use Rattle.tb_ledger.specs.declared.tables.rows.Rows.{Rows}

-- the spare rows of each table, and whether failed ids are kept
pub record Capacity : Type 0 where
  pub accounts : ℕ
  pub transfers : ℕ
  pub timeouts : ℕ
  pub failed : ℕ
  pub keeps_failed : Bool

abbrev pub capacity_of : {A : Type 0} → Rows A → Capacity
capacity_of rows = record {
  accounts = rows.accounts.spare;
  transfers = rows.transfers.spare;
  timeouts = rows.timeouts.spare;
  failed = rows.failed.spare;
  keeps_failed = rows.keeps_failed;
}

-- for n more accounts
abbrev pub HasAccounts : ℕ → Capacity → Type 0
HasAccounts n c = n ≤ c.accounts

-- for n more transfers: each may have a timeout, or fail permanently
pub record HasTransfers (n : ℕ) (c : Capacity) : Type 0 where
  pub transfers : n ≤ c.transfers
  pub timeouts : n ≤ c.timeouts
  pub failed : c.keeps_failed ≡ true → n ≤ c.failed

-- n events have used at most n rows of each table
pub record Uses (n : ℕ) (before after : Capacity) : Type 0 where
  pub accounts : before.accounts ≤ n + after.accounts
  pub transfers : before.transfers ≤ n + after.transfers
  pub timeouts : before.timeouts ≤ n + after.timeouts
  pub failed : before.failed ≤ n + after.failed
  pub keeps_failed : after.keeps_failed ≡ before.keeps_failed
