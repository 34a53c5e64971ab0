-- What is read from the rows is read from the books.
use Rattle.tb_ledger.proofs.Common.{◌≡◌, ℕ, ◌==◌, Bool, List, find, Option, Some, None, option_map, refl, sym, ap, ◌∙◌, Account, find-map, each-find, AccountRow, TransferRow, Timeout, Books, account_now, as_it_stands, transfer_at, books_of, row_now, HasSums, AreLedgerRows}
use Rattle.tb_ledger.proofs.CurrentRows.{row_stands}

module _ (accounts : List AccountRow) (transfers : List TransferRow) (failed : List ℕ) (keeps_failed : Bool) (timeouts : List Timeout) (time : ℕ) (kept : AreLedgerRows accounts transfers failed keeps_failed timeouts time) where
  -- the account of a row, as it is now
  pub account_read : (books : Books) (id : ℕ) (row : AccountRow) (result : Account) → books_of accounts transfers failed keeps_failed time ≡ books → Some row ≡ find (λ a. a.created.id == id) accounts → result ≡ row_now row → Some result ≡ account_now books id
  account_read books id row result books_is found is =
      let has = each-find (HasSums transfers) (λ a. a.created.id == id) row accounts kept.kept.sums (sym found) in
      ap (λ a. Some a) is ∙ sym (row_stands accounts transfers failed keeps_failed time kept.kept.states id row has (sym found)) ∙ ap (λ B. account_now B id) books_is

  -- no row, no account
  pub account_unread : (books : Books) (id : ℕ) → books_of accounts transfers failed keeps_failed time ≡ books → None ≡ find (λ a. a.created.id == id) accounts → None ≡ account_now books id
  account_unread books id books_is none =
      sym (ap (λ B. account_now B id) (sym books_is)
      ∙ ap (option_map (as_it_stands (books_of accounts transfers failed keeps_failed time))) (find-map (λ a. a.id == id) (λ a. a.created) accounts ∙ ap (option_map (λ a. a.created)) (sym none)))

  -- what is found of an id, as it is now
  pub account_of : (books : Books) (id : ℕ) (o : Option AccountRow) → books_of accounts transfers failed keeps_failed time ≡ books → o ≡ find (λ a. a.created.id == id) accounts → option_map row_now o ≡ account_now books id
  account_of books id (Some row) books_is found = account_read books id row (row_now row) books_is found refl
  account_of books id None books_is none = account_unread books id books_is none

-- the transfer of a row, as it was recorded
pub transfer_read : (accounts : List AccountRow) (transfers : List TransferRow) (failed : List ℕ) (keeps_failed : Bool) (time : ℕ) (books : Books) (id : ℕ) (o : Option TransferRow) → books_of accounts transfers failed keeps_failed time ≡ books → o ≡ find (λ t. t.recorded.id == id) transfers → option_map (λ t. t.recorded) o ≡ transfer_at books id
transfer_read accounts transfers failed keeps_failed time books id o books_is found =
    ap (option_map (λ t. t.recorded)) found ∙ sym (find-map (λ t. t.id == id) (λ t. t.recorded) transfers) ∙ ap (λ B. transfer_at B id) books_is
