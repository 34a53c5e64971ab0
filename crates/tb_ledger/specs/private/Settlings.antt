-- A post or void, by the rows of the accounts of its pending transfer.
use Rattle.std.specs.Prelude.{ℕ, ◌≡◌, ◌+◌, ◌≤◌, List, Some, Result, MatchResult}
use Rattle.tb_records.specs.declared.records.Transfer.{Transfer}
use Rattle.tb_records.specs.declared.transfer_results.CreateTransferResult.{CreateTransferResult}
use Rattle.tb_records.specs.TransferResults.{transfer_result_code}
use Rattle.tb_records.specs.declared.limits.TheConstants.{AMOUNT_MAX}
use Rattle.tb_ledger.specs.declared.tables.accounts.Side.{Side}
use Rattle.tb_ledger.specs.declared.tables.accounts.AccountRow.{AccountRow}
use Rattle.tb_ledger.specs.Books.{Books, closing_debit, closing_credit}
use Rattle.tb_ledger.specs.private.Exchanges.{account_row_at}
use Rattle.tb_ledger.specs.private.Found.{Judges}
use Rattle.tb_ledger.specs.Kept.{row_closed, on_debits, on_credits, released_and_gained, accounts_released_and_gained}
use Rattle.tb_ledger.specs.private.Noted.{Noted, NotesPair}
use Rattle.tb_ledger.specs.Verdicts.{closed_at, closed_tests, first_of}

-- the code of t by the accounts of p, as they are now
abbrev pub closed_code : Books → Transfer → Transfer → ℕ
closed_code B t p = first_of (closed_tests t (closed_at B p.debit_account_id) (closed_at B p.credit_account_id))

-- the side holds p's amount, r moves no more than that, and the side's sums fit
pub record CanSettle (p r : Transfer) (s : Side) : Type 0 where
  pub enough : p.amount ≤ s.pending
  pub fit : s.pending + s.posted ≤ AMOUNT_MAX
  pub at_most : r.amount ≤ p.amount

-- the rows d and c of both accounts are settled, if they can be, and the rows from before are noted
abbrev pub BothSettled : Transfer → Transfer → Noted → AccountRow → AccountRow → AccountRow → AccountRow → Noted → Type 0
BothSettled p r undo_log d c d' c' grown =
    (CanSettle p r d.debits → d' ≡ on_debits (released_and_gained closing_debit p r) d)
    × (CanSettle p r c.credits → c' ≡ on_credits (released_and_gained closing_credit p r) c)
    × NotesPair d c undo_log grown

-- r is judged by both rows: it settles them, or it is refused and nothing changes
abbrev pub Settles : Transfer → Transfer → Noted → AccountRow → AccountRow → Result (Unit {0}) CreateTransferResult → AccountRow → AccountRow → Noted → Type 0
Settles p r undo_log d c result d' c' grown =
    Judges transfer_result_code result (first_of (closed_tests r (row_closed d) (row_closed c)))
    × MatchResult result (λ _. BothSettled p r undo_log d c d' c' grown) (λ _. (d' ≡ d) × (c' ≡ c) × (grown ≡ undo_log))

-- the same for a table that has both accounts
pub record SettlesIn (p r : Transfer) (undo_log : Noted) (accounts : List AccountRow) (result : Result (Unit {0}) CreateTransferResult) (later : List AccountRow) (grown : Noted) : Type 0 where
  pub debit : AccountRow
  pub credit : AccountRow
  pub debit_there : account_row_at accounts r.debit_account_id ≡ Some debit
  pub credit_there : account_row_at accounts r.credit_account_id ≡ Some credit
  pub judged : Judges transfer_result_code result (first_of (closed_tests r (row_closed debit) (row_closed credit)))
  pub leaves : MatchResult result (λ _. (later ≡ accounts_released_and_gained p r accounts) × NotesPair debit credit undo_log grown) (λ _. (later ≡ accounts) × (grown ≡ undo_log))
