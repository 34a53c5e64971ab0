-- What an accepted transfer that is no post or void found in the books.
use Rattle.tb_ledger.proofs.Common.{◌≡◌, ◌≢◌, ◌+◌, ◌≤◌, true, false, Some, Account, Transfer, Books, debits_limited, credits_limited, stands_closed, account_at, debits_pending, debits_posted, credits_pending, credits_posted, expires_at, AMOUNT_MAX, LAST_MOMENT}

-- t is as it is recorded, balanced and stamped
pub record FoundPair (B : Books) (t : Transfer) : Type 0 where
  pub d : Account
  pub c : Account
  pub apart : t.debit_account_id ≢ t.credit_account_id
  pub debit_is : account_at B t.debit_account_id ≡ Some d
  pub credit_is : account_at B t.credit_account_id ≡ Some c
  pub debit_ledger : d.ledger ≡ t.ledger
  pub credit_ledger : c.ledger ≡ t.ledger
  pub debit_open : stands_closed B d ≡ false
  pub credit_open : stands_closed B c ≡ false
  pub debits_fit : debits_pending B t.debit_account_id + debits_posted B t.debit_account_id + t.amount ≤ AMOUNT_MAX
  pub credits_fit : credits_pending B t.credit_account_id + credits_posted B t.credit_account_id + t.amount ≤ AMOUNT_MAX
  pub in_time : expires_at t ≤ LAST_MOMENT
  pub debits_within : debits_limited d ≡ true → debits_pending B t.debit_account_id + debits_posted B t.debit_account_id + t.amount ≤ credits_posted B t.debit_account_id
  pub credits_within : credits_limited c ≡ true → credits_pending B t.credit_account_id + credits_posted B t.credit_account_id + t.amount ≤ debits_posted B t.credit_account_id
