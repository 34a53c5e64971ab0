-- The books of a ledger, and what is read from them. Records never change, and no sum is stored: each is computed from the records.
use Rattle.std.specs.Prelude.{ℕ, Bool, true, false, not, ◌&&◌, ◌||◌, ◌==◌, ◌+◌, ◌*◌, nat_le, List, [], Option, Some, None, if◌then◌else◌, find, sum_by, bit_or}
use Rattle.std.specs.List.{list_any, filter_map}
use Rattle.std.specs.Option.{option_map}
use Rattle.tb_records.specs.declared.records.Account.{Account}
use Rattle.tb_records.specs.declared.records.Transfer.{Transfer}
use Rattle.tb_records.specs.declared.limits.Profile.{Profile}
use Rattle.tb_records.specs.declared.limits.Profile.TheVariants.{One, Two}
use Rattle.tb_records.specs.declared.limits.TheConstants.{NANOSECONDS_PER_SECOND}
use Rattle.tb_records.specs.declared.account_flags.AccountFlag.TheVariants as account
use Rattle.tb_records.specs.declared.transfer_flags.TransferFlag.TheVariants as transfer
use Rattle.tb_records.specs.AccountFlags.{account_has}
use Rattle.tb_records.specs.TransferFlags.{transfer_has}
use Rattle.tb_ledger.specs.declared.tables.transfers.State.{State}
use Rattle.tb_ledger.specs.declared.tables.transfers.State.TheVariants.{Open, Posted, Voided, Expired}

pub record Books : Type 0 where
  pub accounts : List Account  -- as created, by rising id
  pub transfers : List Transfer  -- as recorded, by rising id
  pub failed : Option (List ℕ)  -- ids of transfers that failed permanently, by rising id; profile 1 keeps none
  pub time : ℕ  -- of the last entry, in nanoseconds

-- the books of a new ledger
abbrev pub empty_books : Profile → Books
empty_books One = record { accounts = []; transfers = []; failed = None; time = 0 }
empty_books Two = record { accounts = []; transfers = []; failed = Some []; time = 0 }

-- the profile of books
abbrev pub profile_by : Option (List ℕ) → Profile
profile_by None = One
profile_by (Some ids) = Two

abbrev pub profile_of : Books → Profile
profile_of B = profile_by B.failed

-- from profile 1 to 2: the books stay, and no id has failed
abbrev pub moved_to_two : Books → Books
moved_to_two B = record B { failed = Some [] }

-- flags

abbrev pub debits_limited : Account → Bool
debits_limited a = account_has account.DebitsMustNotExceedCredits a

abbrev pub credits_limited : Account → Bool
credits_limited a = account_has account.CreditsMustNotExceedDebits a

-- an account as it is now is closed
abbrev pub closed : Account → Bool
closed a = account_has account.Closed a

abbrev pub pending : Transfer → Bool
pending t = transfer_has transfer.Pending t

abbrev pub posts : Transfer → Bool
posts t = transfer_has transfer.PostPendingTransfer t

abbrev pub voids : Transfer → Bool
voids t = transfer_has transfer.VoidPendingTransfer t

abbrev pub resolves : Transfer → Bool
resolves t = posts t || voids t

abbrev pub balancing_debit : Transfer → Bool
balancing_debit t = transfer_has transfer.BalancingDebit t

abbrev pub balancing_credit : Transfer → Bool
balancing_credit t = transfer_has transfer.BalancingCredit t

abbrev pub balancing : Transfer → Bool
balancing t = balancing_debit t || balancing_credit t

abbrev pub closing_debit : Transfer → Bool
closing_debit t = transfer_has transfer.ClosingDebit t

abbrev pub closing_credit : Transfer → Bool
closing_credit t = transfer_has transfer.ClosingCredit t

abbrev pub closing : Transfer → Bool
closing t = closing_debit t || closing_credit t

-- existing records

abbrev pub account_at : Books → ℕ → Option Account
account_at B id = find (λ a. a.id == id) B.accounts

abbrev pub transfer_at : Books → ℕ → Option Transfer
transfer_at B id = find (λ t. t.id == id) B.transfers

-- pending transfers

-- the post or void of a pending transfer
abbrev pub resolver : Books → Transfer → Option Transfer
resolver B p = find (λ r. resolves r && (r.pending_id == p.id)) B.transfers

abbrev pub expires_at : Transfer → ℕ
expires_at p = p.timestamp + p.timeout * NANOSECONDS_PER_SECOND

abbrev pub is_due : ℕ → Transfer → Bool
is_due time p = not (p.timeout == 0) && nat_le (expires_at p) time

abbrev pub state_by : Option Transfer → Bool → State
state_by (Some r) due = if posts r then Posted else Voided
state_by None due = if due then Expired else Open

abbrev pub state_of : Books → Transfer → State
state_of B p = state_by (resolver B p) (is_due B.time p)

abbrev pub is_open : State → Bool
is_open Open = true
is_open _ = false

abbrev pub is_posted : State → Bool
is_posted Posted = true
is_posted _ = false

abbrev pub is_voided : State → Bool
is_voided Voided = true
is_voided _ = false

abbrev pub is_expired : State → Bool
is_expired Expired = true
is_expired _ = false

-- a pending transfer that is neither resolved nor expired
abbrev pub holds : Books → Transfer → Bool
holds B t = pending t && is_open (state_of B t)

-- a transfer that posts its amount
abbrev pub moves : Transfer → Bool
moves t = not (pending t) && not (voids t)

-- the sum of the amounts of the transfers that count and have the account id on a side
abbrev pub sum_on : (Transfer → ℕ) → (Transfer → Bool) → Books → ℕ → ℕ
sum_on side counts B id = sum_by (λ t. if (side t == id) && counts t then t.amount else 0) B.transfers

-- the four sums of an account

abbrev pub debits_pending : Books → ℕ → ℕ
debits_pending B = sum_on (λ t. t.debit_account_id) (holds B) B

abbrev pub debits_posted : Books → ℕ → ℕ
debits_posted B = sum_on (λ t. t.debit_account_id) moves B

abbrev pub credits_pending : Books → ℕ → ℕ
credits_pending B = sum_on (λ t. t.credit_account_id) (holds B) B

abbrev pub credits_posted : Books → ℕ → ℕ
credits_posted B = sum_on (λ t. t.credit_account_id) moves B

-- created closed, or held closed by a closing transfer
abbrev pub stands_closed : Books → Account → Bool
stands_closed B a = closed a
    || list_any (λ t. holds B t && closing_debit t && (t.debit_account_id == a.id)) B.transfers
    || list_any (λ t. holds B t && closing_credit t && (t.credit_account_id == a.id)) B.transfers

-- the account as it is now
abbrev pub as_it_stands : Books → Account → Account
as_it_stands B a = record a {
  debits_pending = debits_pending B a.id;
  debits_posted = debits_posted B a.id;
  credits_pending = credits_pending B a.id;
  credits_posted = credits_posted B a.id;
  flags = (if stands_closed B a then bit_or a.flags 32 else a.flags);
}

abbrev pub account_now : Books → ℕ → Option Account
account_now B id = option_map (as_it_stands B) (account_at B id)

-- lookups: what is found, in the order of the ids
abbrev pub found_accounts : Books → List ℕ → List Account
found_accounts B ids = filter_map (account_now B) ids

abbrev pub found_transfers : Books → List ℕ → List Transfer
found_transfers B ids = filter_map (transfer_at B) ids
