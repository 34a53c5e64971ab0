-- The two sides of the accounts, and the sums of one side.
use Rattle.std.specs.Prelude.{ℕ, Bool, ◌&&◌, ◌==◌, if◌then◌else◌}
use Rattle.tb_records.specs.declared.records.Transfer.{Transfer}
use Rattle.tb_ledger.specs.Books.{Books, holds, moves, sum_on}

-- the account that a transfer debits, and the one that it credits
abbrev pub debit : Transfer → ℕ
debit t = t.debit_account_id

abbrev pub credit : Transfer → ℕ
credit t = t.credit_account_id

-- what a transfer adds to a sum of the account id on a side
abbrev pub share : (Transfer → ℕ) → ℕ → Transfer → Bool → ℕ
share side id t counts = if (side t == id) && counts then t.amount else 0

-- the two sums of the account id on a side
abbrev pub pending_on : (Transfer → ℕ) → Books → ℕ → ℕ
pending_on side B = sum_on side (holds B) B

abbrev pub posted_on : (Transfer → ℕ) → Books → ℕ → ℕ
posted_on side B = sum_on side moves B
