-- The verdict on an account and on a transfer: the code of the first test of a table that holds, and 0 if none holds. The groups of tests are in the
-- order in which they are applied to an event.
use Rattle.std.specs.Prelude.{ℕ, Bool, true, false, not, ◌&&◌, ◌==◌, ◌+◌, ◌-◌, ◌*◌, min, nat_lt, List, [], ◌∷◌, Option, Some, None, if◌then◌else◌}
use Rattle.std.specs.List.{list_any}
use Rattle.std.specs.Option.{option_map_or}
use Rattle.tb_records.specs.declared.records.Account.{Account}
use Rattle.tb_records.specs.declared.records.Transfer.{Transfer}
use Rattle.tb_records.specs.declared.account_results.CreateAccountResult.{CreateAccountResult}
use Rattle.tb_records.specs.declared.account_results.CreateAccountResult.TheVariants as account
use Rattle.tb_records.specs.declared.transfer_results.CreateTransferResult.{CreateTransferResult}
use Rattle.tb_records.specs.declared.transfer_results.CreateTransferResult.TheVariants as transfer
use Rattle.tb_records.specs.declared.limits.TheConstants.{AMOUNT_MAX, LAST_MOMENT, NANOSECONDS_PER_SECOND}
use Rattle.tb_records.specs.AccountFlags.{account_flags_reserved}
use Rattle.tb_records.specs.AccountResults.{account_result_code}
use Rattle.tb_records.specs.TransferFlags.{transfer_flags_reserved}
use Rattle.tb_records.specs.TransferResults.{transfer_result_code}
use Rattle.tb_records.specs.Flags.{has_flag}
use Rattle.tb_ledger.specs.declared.tables.transfers.State.{State}
use Rattle.tb_ledger.specs.Books.{Books, closed, debits_limited, credits_limited, pending, posts, voids, resolves, balancing_debit, balancing_credit, balancing, closing, transfer_at, state_of, is_posted, is_voided, is_expired, account_now}

-- a test of a table: its code, and whether it holds
abbrev pub Test : Type 0
Test = ℕ × Bool

-- a test of an account, and one of a transfer, by the result
abbrev pub account_test : CreateAccountResult → Bool → Test
account_test result holds = (account_result_code result, holds)

abbrev pub transfer_test : CreateTransferResult → Bool → Test
transfer_test result holds = (transfer_result_code result, holds)

abbrev pub first_of : List Test → ℕ
first_of [] = 0
first_of (test ∷ tests) = if test.1 then test.0 else first_of tests

-- groups of tests one after another: the first code that is not 0
abbrev pub first_code : List ℕ → ℕ
first_code [] = 0
first_code (code ∷ codes) = if code == 0 then first_code codes else code

abbrev pub is_not : ℕ → ℕ → Bool
is_not x y = not (x == y)

-- an account

abbrev pub account_own_tests : Account → List Test
account_own_tests a =
    account_test account.TimestampMustBeZero (is_not a.timestamp 0)
    ∷ account_test account.ReservedField (is_not a.reserved 0)
    ∷ account_test account.ReservedFlag (has_flag account_flags_reserved a.flags)
    ∷ account_test account.IdMustNotBeZero (a.id == 0)
    ∷ account_test account.IdMustNotBeIntMax (a.id == AMOUNT_MAX)
    ∷ []

-- if the id exists, e is the account as it is now
abbrev pub account_exists_tests : Option Account → Account → List Test
account_exists_tests None a = []
account_exists_tests (Some e) a =
    account_test account.ExistsWithDifferentFlags (is_not a.flags e.flags)
    ∷ account_test account.ExistsWithDifferentUserData128 (is_not a.user_data_128 e.user_data_128)
    ∷ account_test account.ExistsWithDifferentUserData64 (is_not a.user_data_64 e.user_data_64)
    ∷ account_test account.ExistsWithDifferentUserData32 (is_not a.user_data_32 e.user_data_32)
    ∷ account_test account.ExistsWithDifferentLedger (is_not a.ledger e.ledger)
    ∷ account_test account.ExistsWithDifferentCode (is_not a.code e.code)
    ∷ account_test account.Exists true
    ∷ []

abbrev pub account_new_tests : Account → List Test
account_new_tests a =
    account_test account.FlagsAreMutuallyExclusive (debits_limited a && credits_limited a)
    ∷ account_test account.DebitsPendingMustBeZero (is_not a.debits_pending 0)
    ∷ account_test account.DebitsPostedMustBeZero (is_not a.debits_posted 0)
    ∷ account_test account.CreditsPendingMustBeZero (is_not a.credits_pending 0)
    ∷ account_test account.CreditsPostedMustBeZero (is_not a.credits_posted 0)
    ∷ account_test account.LedgerMustNotBeZero (a.ledger == 0)
    ∷ account_test account.CodeMustNotBeZero (a.code == 0)
    ∷ []

abbrev pub account_verdict : Books → Account → ℕ
account_verdict B a = first_code (first_of (account_own_tests a) ∷ first_of (account_exists_tests (account_now B a.id) a) ∷ first_of (account_new_tests a) ∷ [])

-- what is recorded of an account with verdict 0
abbrev pub recorded_account : Account → ℕ → Account
recorded_account a time = record a { timestamp = time }

-- a transfer: the first tests of either kind

abbrev pub transfer_own_tests : Transfer → List Test
transfer_own_tests t =
    transfer_test transfer.TimestampMustBeZero (is_not t.timestamp 0)
    ∷ transfer_test transfer.ReservedFlag (has_flag transfer_flags_reserved t.flags)
    ∷ transfer_test transfer.IdMustNotBeZero (t.id == 0)
    ∷ transfer_test transfer.IdMustNotBeIntMax (t.id == AMOUNT_MAX)
    ∷ []

-- a post or void has the value of its pending transfer p if its own is 0
abbrev pub given_or : ℕ → ℕ → ℕ
given_or x y = if x == 0 then y else x

abbrev pub filled_amount : Transfer → Transfer → ℕ
filled_amount p t = if t.amount == (if posts t then AMOUNT_MAX else 0) then p.amount else t.amount

abbrev pub filled_from : Transfer → Transfer → Transfer
filled_from p t = record t {
  debit_account_id = given_or t.debit_account_id p.debit_account_id;
  credit_account_id = given_or t.credit_account_id p.credit_account_id;
  amount = filled_amount p t;
  user_data_128 = given_or t.user_data_128 p.user_data_128;
  user_data_64 = given_or t.user_data_64 p.user_data_64;
  user_data_32 = given_or t.user_data_32 p.user_data_32;
  ledger = given_or t.ledger p.ledger;
  code = given_or t.code p.code;
}

abbrev pub filled : Books → Transfer → Transfer
filled B t = if resolves t then option_map_or (λ p. filled_from p t) (transfer_at B t.pending_id) t else t

-- if the id exists, e is the recorded transfer; f is the event, filled
abbrev pub transfer_exists_tests : Option Transfer → Transfer → List Test
transfer_exists_tests None f = []
transfer_exists_tests (Some e) f =
    transfer_test transfer.ExistsWithDifferentFlags (is_not f.flags e.flags)
    ∷ transfer_test transfer.ExistsWithDifferentPendingId (is_not f.pending_id e.pending_id)
    ∷ transfer_test transfer.ExistsWithDifferentTimeout (is_not f.timeout e.timeout)
    ∷ transfer_test transfer.ExistsWithDifferentDebitAccountId (is_not f.debit_account_id e.debit_account_id)
    ∷ transfer_test transfer.ExistsWithDifferentCreditAccountId (is_not f.credit_account_id e.credit_account_id)
    ∷ transfer_test transfer.ExistsWithDifferentAmount (if balancing f then nat_lt f.amount e.amount else is_not f.amount e.amount)
    ∷ transfer_test transfer.ExistsWithDifferentUserData128 (is_not f.user_data_128 e.user_data_128)
    ∷ transfer_test transfer.ExistsWithDifferentUserData64 (is_not f.user_data_64 e.user_data_64)
    ∷ transfer_test transfer.ExistsWithDifferentUserData32 (is_not f.user_data_32 e.user_data_32)
    ∷ transfer_test transfer.ExistsWithDifferentLedger (is_not f.ledger e.ledger)
    ∷ transfer_test transfer.ExistsWithDifferentCode (is_not f.code e.code)
    ∷ transfer_test transfer.Exists true
    ∷ []

-- by profile 2, an id that failed permanently
abbrev pub failed_tests : Option (List ℕ) → Transfer → List Test
failed_tests failed t = transfer_test transfer.IdAlreadyFailed (option_map_or (list_any (λ id. id == t.id)) failed false) ∷ []

abbrev pub id_code : Books → Transfer → ℕ
id_code B t = first_code (first_of (transfer_own_tests t) ∷ first_of (transfer_exists_tests (transfer_at B t.id) (filled B t)) ∷ first_of (failed_tests B.failed t) ∷ [])

-- a post or void

abbrev pub resolve_own_tests : Transfer → List Test
resolve_own_tests t =
    transfer_test transfer.FlagsAreMutuallyExclusive (posts t && voids t)
    ∷ transfer_test transfer.FlagsAreMutuallyExclusive (pending t)
    ∷ transfer_test transfer.FlagsAreMutuallyExclusive (balancing t)
    ∷ transfer_test transfer.FlagsAreMutuallyExclusive (closing t)
    ∷ transfer_test transfer.PendingIdMustNotBeZero (t.pending_id == 0)
    ∷ transfer_test transfer.PendingIdMustNotBeIntMax (t.pending_id == AMOUNT_MAX)
    ∷ transfer_test transfer.PendingIdMustBeDifferent (t.pending_id == t.id)
    ∷ transfer_test transfer.TimeoutReservedForPendingTransfer (is_not t.timeout 0)
    ∷ []

-- x is given, and differs from y
abbrev pub differs : ℕ → ℕ → Bool
differs x y = is_not x 0 && is_not x y

-- p is the pending transfer that t names, and s is its state; the amount is the filled one
abbrev pub named_tests : Transfer → Transfer → State → List Test
named_tests t p s =
    transfer_test transfer.PendingTransferNotPending (not (pending p))
    ∷ transfer_test transfer.PendingTransferHasDifferentDebitAccountId (differs t.debit_account_id p.debit_account_id)
    ∷ transfer_test transfer.PendingTransferHasDifferentCreditAccountId (differs t.credit_account_id p.credit_account_id)
    ∷ transfer_test transfer.PendingTransferHasDifferentLedger (differs t.ledger p.ledger)
    ∷ transfer_test transfer.PendingTransferHasDifferentCode (differs t.code p.code)
    ∷ transfer_test transfer.ExceedsPendingTransferAmount (nat_lt p.amount (filled_amount p t))
    ∷ transfer_test transfer.PendingTransferHasDifferentAmount (voids t && nat_lt (filled_amount p t) p.amount)
    ∷ transfer_test transfer.PendingTransferAlreadyPosted (is_posted s)
    ∷ transfer_test transfer.PendingTransferAlreadyVoided (is_voided s)
    ∷ transfer_test transfer.PendingTransferExpired (is_expired s)
    ∷ []

-- whether the accounts of p, as they are now, are closed
abbrev pub closed_tests : Transfer → Bool → Bool → List Test
closed_tests t debit_closed credit_closed =
    transfer_test transfer.DebitAccountAlreadyClosed (posts t && debit_closed)
    ∷ transfer_test transfer.CreditAccountAlreadyClosed (posts t && credit_closed)
    ∷ []

abbrev pub closed_at : Books → ℕ → Bool
closed_at B id = option_map_or closed (account_now B id) false

abbrev pub named_code : Books → Transfer → Option Transfer → ℕ
named_code B t None = transfer_result_code transfer.PendingTransferNotFound
named_code B t (Some p) = first_code (
    first_of (named_tests t p (state_of B p))
    ∷ first_of (closed_tests t (closed_at B p.debit_account_id) (closed_at B p.credit_account_id))
    ∷ [])

abbrev pub resolve_code : Books → Transfer → ℕ
resolve_code B t = first_code (first_of (resolve_own_tests t) ∷ named_code B t (transfer_at B t.pending_id) ∷ [])

-- any other transfer

abbrev pub two_party_own_tests : Transfer → List Test
two_party_own_tests t =
    transfer_test transfer.DebitAccountIdMustNotBeZero (t.debit_account_id == 0)
    ∷ transfer_test transfer.DebitAccountIdMustNotBeIntMax (t.debit_account_id == AMOUNT_MAX)
    ∷ transfer_test transfer.CreditAccountIdMustNotBeZero (t.credit_account_id == 0)
    ∷ transfer_test transfer.CreditAccountIdMustNotBeIntMax (t.credit_account_id == AMOUNT_MAX)
    ∷ transfer_test transfer.AccountsMustBeDifferent (t.debit_account_id == t.credit_account_id)
    ∷ transfer_test transfer.PendingIdMustBeZero (is_not t.pending_id 0)
    ∷ transfer_test transfer.TimeoutReservedForPendingTransfer (not (pending t) && is_not t.timeout 0)
    ∷ transfer_test transfer.ClosingTransferMustBePending (not (pending t) && closing t)
    ∷ transfer_test transfer.LedgerMustNotBeZero (t.ledger == 0)
    ∷ transfer_test transfer.CodeMustNotBeZero (t.code == 0)
    ∷ []

-- the two accounts as they are now
abbrev pub pair_tests : Account → Account → Transfer → List Test
pair_tests d c t =
    transfer_test transfer.AccountsMustHaveTheSameLedger (is_not d.ledger c.ledger)
    ∷ transfer_test transfer.TransferMustHaveTheSameLedgerAsAccounts (is_not t.ledger d.ledger)
    ∷ transfer_test transfer.DebitAccountAlreadyClosed (closed d)
    ∷ transfer_test transfer.CreditAccountAlreadyClosed (closed c)
    ∷ []

-- a balancing transfer moves at most what its account has left
abbrev pub balanced_debit : Account → Transfer → ℕ
balanced_debit d t = if balancing_debit t then min t.amount (d.credits_posted - (d.debits_posted + d.debits_pending)) else t.amount

abbrev pub balanced_amount : Account → Account → Transfer → ℕ
balanced_amount d c t =
    if balancing_credit t
    then min (balanced_debit d t) (c.debits_posted - (c.credits_posted + c.credits_pending))
    else balanced_debit d t

-- the two accounts as they are now, and the amount, balanced
abbrev pub amount_tests : Account → Account → Transfer → ℕ → ℕ → List Test
amount_tests d c t amount time =
    transfer_test transfer.OverflowsDebitsPending (pending t && nat_lt AMOUNT_MAX (d.debits_pending + amount))
    ∷ transfer_test transfer.OverflowsCreditsPending (pending t && nat_lt AMOUNT_MAX (c.credits_pending + amount))
    ∷ transfer_test transfer.OverflowsDebitsPosted (nat_lt AMOUNT_MAX (d.debits_posted + amount))
    ∷ transfer_test transfer.OverflowsCreditsPosted (nat_lt AMOUNT_MAX (c.credits_posted + amount))
    ∷ transfer_test transfer.OverflowsDebits (nat_lt AMOUNT_MAX (d.debits_pending + d.debits_posted + amount))
    ∷ transfer_test transfer.OverflowsCredits (nat_lt AMOUNT_MAX (c.credits_pending + c.credits_posted + amount))
    ∷ transfer_test transfer.OverflowsTimeout (nat_lt LAST_MOMENT (time + t.timeout * NANOSECONDS_PER_SECOND))
    ∷ transfer_test transfer.ExceedsCredits (debits_limited d && nat_lt d.credits_posted (d.debits_pending + d.debits_posted + amount))
    ∷ transfer_test transfer.ExceedsDebits (credits_limited c && nat_lt c.debits_posted (c.credits_pending + c.credits_posted + amount))
    ∷ []

abbrev pub pair_code : Option Account → Option Account → Transfer → ℕ → ℕ
pair_code None c t time = transfer_result_code transfer.DebitAccountNotFound
pair_code (Some d) None t time = transfer_result_code transfer.CreditAccountNotFound
pair_code (Some d) (Some c) t time = first_code (first_of (pair_tests d c t) ∷ first_of (amount_tests d c t (balanced_amount d c t) time) ∷ [])

abbrev pub single_code : Books → Transfer → ℕ → ℕ
single_code B t time = first_code (first_of (two_party_own_tests t) ∷ pair_code (account_now B t.debit_account_id) (account_now B t.credit_account_id) t time ∷ [])

-- either kind

abbrev pub transfer_verdict : Books → Transfer → ℕ → ℕ
transfer_verdict B t time = first_code (id_code B t ∷ (if resolves t then resolve_code B t else single_code B t time) ∷ [])

-- the amount of a transfer between two accounts as they are now
abbrev pub balanced_between : Option Account → Option Account → Transfer → ℕ
balanced_between (Some d) (Some c) t = balanced_amount d c t
balanced_between _ _ t = t.amount

-- what is recorded of a transfer with verdict 0: filled or balanced, and stamped
abbrev pub recorded_transfer : Books → Transfer → ℕ → Transfer
recorded_transfer B t time =
    if resolves t
    then record (filled B t) { timestamp = time }
    else record t { amount = balanced_between (account_now B t.debit_account_id) (account_now B t.credit_account_id) t; timestamp = time }
