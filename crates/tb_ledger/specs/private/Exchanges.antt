-- A transfer between two accounts, by their rows.
use Rattle.std.specs.Prelude.{ℕ, ◌≡◌, ◌==◌, List, find, Option, Some, Result, MatchResult, if◌then◌else◌}
use Rattle.std.specs.Option.{option_map, is_some}
use Rattle.tb_records.specs.declared.records.Transfer.{Transfer}
use Rattle.tb_records.specs.declared.transfer_results.CreateTransferResult.{CreateTransferResult}
use Rattle.tb_records.specs.TransferResults.{transfer_result_code}
use Rattle.tb_ledger.specs.declared.tables.accounts.AccountRow.{AccountRow}
use Rattle.tb_ledger.specs.private.Noted.{Noted, NotesPair}
use Rattle.tb_ledger.specs.Books.{closing_debit, closing_credit}
use Rattle.tb_ledger.specs.private.Found.{Judges}
use Rattle.tb_ledger.specs.Kept.{row_now, gained, on_debits, on_credits, accounts_gained}
use Rattle.tb_ledger.specs.Verdicts.{pair_code, balanced_amount}
use Rattle.tb_records.specs.declared.transfer_results.CreateTransferResult.TheVariants.{DebitAccountNotFound, CreditAccountNotFound}

-- as it is recorded: balanced and stamped
abbrev pub as_recorded : Transfer → ℕ → ℕ → Transfer
as_recorded t amount time = record t { amount = amount; timestamp = time }

-- t is accepted between the rows d and c of its accounts: both take its amount, and the rows from before are noted
abbrev pub Passes : Transfer → ℕ → Noted → AccountRow → AccountRow → ℕ → AccountRow → AccountRow → Noted → Type 0
Passes t time undo_log d c amount d' c' grown =
    (amount ≡ balanced_amount (row_now d) (row_now c) t)
    × (d' ≡ on_debits (gained closing_debit (as_recorded t amount time)) d)
    × (c' ≡ on_credits (gained closing_credit (as_recorded t amount time)) c)
    × NotesPair d c undo_log grown

-- t is judged by both rows: it is accepted, or it is refused and nothing changes
abbrev pub ExchangesRows : Transfer → ℕ → Noted → AccountRow → AccountRow → Result ℕ CreateTransferResult → AccountRow → AccountRow → Noted → Type 0
ExchangesRows t time undo_log d c result d' c' grown =
    Judges transfer_result_code result (pair_code (Some (row_now d)) (Some (row_now c)) t time)
    × MatchResult result (λ amount. Passes t time undo_log d c amount d' c' grown) (λ _. (d' ≡ d) × (c' ≡ c) × (grown ≡ undo_log))

-- the row of an id
abbrev pub account_row_at : List AccountRow → ℕ → Option AccountRow
account_row_at accounts id = find (λ a. a.created.id == id) accounts

-- t is accepted between two accounts of a table
pub record PassesIn (t : Transfer) (time : ℕ) (undo_log : Noted) (accounts : List AccountRow) (amount : ℕ) (later : List AccountRow) (grown : Noted) : Type 0 where
  pub debit : AccountRow
  pub credit : AccountRow
  pub debit_there : account_row_at accounts t.debit_account_id ≡ Some debit
  pub credit_there : account_row_at accounts t.credit_account_id ≡ Some credit
  pub balanced : amount ≡ balanced_amount (row_now debit) (row_now credit) t
  pub written : later ≡ accounts_gained (as_recorded t amount time) accounts
  pub notes : NotesPair debit credit undo_log grown

-- t is judged by the table, in which an account may be missing
abbrev pub ExchangesIn : Transfer → ℕ → Noted → List AccountRow → Result ℕ CreateTransferResult → List AccountRow → Noted → Type 0
ExchangesIn t time undo_log accounts result later grown =
    Judges transfer_result_code result (pair_code (option_map row_now (account_row_at accounts t.debit_account_id)) (option_map row_now (account_row_at accounts t.credit_account_id)) t time)
    × MatchResult result (λ amount. PassesIn t time undo_log accounts amount later grown) (λ _. (later ≡ accounts) × (grown ≡ undo_log))

-- which account is missing: the debit account first
abbrev pub missing_account : List AccountRow → Transfer → CreateTransferResult
missing_account accounts t = if is_some (account_row_at accounts t.debit_account_id) then CreditAccountNotFound else DebitAccountNotFound
