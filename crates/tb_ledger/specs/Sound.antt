-- What holds of all books of a ledger: each transfer's two accounts exist, each account's sums fit and respect its limits.
use Rattle.std.specs.Prelude.{◌≡◌, ◌≢◌, ℕ, Bool, true, ◌==◌, ◌+◌, ◌≤◌, List, Option, Some, find}
use Rattle.std.specs.Option.{option_map}
use Rattle.tb_records.specs.declared.records.Account.{Account}
use Rattle.tb_records.specs.declared.records.Transfer.{Transfer}
use Rattle.tb_records.specs.Ordered.{Each, Rising}
use Rattle.tb_records.specs.declared.limits.TheConstants.{AMOUNT_MAX}
use Rattle.tb_ledger.specs.Books.{Books, debits_limited, credits_limited, account_at}
use Rattle.tb_ledger.specs.Sides.{debit, credit, pending_on, posted_on}

-- the keys by which accounts and transfers are ordered
abbrev pub account_key : Account → ℕ
account_key a = a.id

abbrev pub transfer_key : Transfer → ℕ
transfer_key t = t.id

-- ids rise in the books: each is unique among accounts, among transfers, and among failed ids if these are kept
pub record IdsRise (B : Books) : Type 0 where
  pub accounts : Rising account_key B.accounts
  pub transfers : Rising transfer_key B.transfers
  pub failed : (ids : List ℕ) → B.failed ≡ Some ids → Rising (λ id. id) ids

-- the ledger of the account with this id, if it exists
abbrev pub ledger_at : List Account → ℕ → Option ℕ
ledger_at accounts id = option_map (λ a. a.ledger) (find (λ a. a.id == id) accounts)

-- on one side: each transfer's account exists and is in its ledger, sums fit in 128 bits, and a limited account respects its limit
pub record SideKept (side other : Transfer → ℕ) (limited : Account → Bool) (B : Books) : Type 0 where
  pub named : Each (λ t. ledger_at B.accounts (side t) ≡ Some t.ledger) B.transfers
  pub fit : (id : ℕ) → pending_on side B id + posted_on side B id ≤ AMOUNT_MAX
  pub within : (id : ℕ) (a : Account) → account_at B id ≡ Some a → limited a ≡ true → pending_on side B id + posted_on side B id ≤ posted_on other B id

-- account ids rise, no transfer debits the account that it credits, and both sides are sound
pub record Sound (B : Books) : Type 0 where
  pub rising : Rising account_key B.accounts
  pub apart : Each (λ t. debit t ≢ credit t) B.transfers
  pub debits : SideKept debit credit debits_limited B
  pub credits : SideKept credit debit credits_limited B
