-- The result codes of transfers, by TigerBeetle's names.
use Rattle.std.specs.Prelude.{ℕ, List, [], ◌∷◌, codes}
use Rattle.tb_records.specs.declared.transfer_results.CreateTransferResult.{CreateTransferResult}
use Rattle.tb_records.specs.declared.transfer_results.CreateTransferResult.TheVariants.{Ok, LinkedEventFailed, LinkedEventChainOpen, TimestampMustBeZero, ReservedFlag, IdMustNotBeZero, IdMustNotBeIntMax, FlagsAreMutuallyExclusive, DebitAccountIdMustNotBeZero, DebitAccountIdMustNotBeIntMax, CreditAccountIdMustNotBeZero, CreditAccountIdMustNotBeIntMax, AccountsMustBeDifferent, PendingIdMustBeZero, PendingIdMustNotBeZero, PendingIdMustNotBeIntMax, PendingIdMustBeDifferent, TimeoutReservedForPendingTransfer, LedgerMustNotBeZero, CodeMustNotBeZero, DebitAccountNotFound, CreditAccountNotFound, AccountsMustHaveTheSameLedger, TransferMustHaveTheSameLedgerAsAccounts, PendingTransferNotFound, PendingTransferNotPending, PendingTransferHasDifferentDebitAccountId, PendingTransferHasDifferentCreditAccountId, PendingTransferHasDifferentLedger, PendingTransferHasDifferentCode, ExceedsPendingTransferAmount, PendingTransferHasDifferentAmount, PendingTransferAlreadyPosted, PendingTransferAlreadyVoided, PendingTransferExpired, ExistsWithDifferentFlags, ExistsWithDifferentDebitAccountId, ExistsWithDifferentCreditAccountId, ExistsWithDifferentAmount, ExistsWithDifferentPendingId, ExistsWithDifferentUserData128, ExistsWithDifferentUserData64, ExistsWithDifferentUserData32, ExistsWithDifferentTimeout, ExistsWithDifferentCode, Exists, OverflowsDebitsPending, OverflowsCreditsPending, OverflowsDebitsPosted, OverflowsCreditsPosted, OverflowsDebits, OverflowsCredits, OverflowsTimeout, ExceedsCredits, ExceedsDebits, ClosingTransferMustBePending, DebitAccountAlreadyClosed, CreditAccountAlreadyClosed, ExistsWithDifferentLedger, IdAlreadyFailed}

-- by rising code
unfoldable pub transfer_results : List CreateTransferResult
transfer_results =
    Ok
    ∷ LinkedEventFailed
    ∷ LinkedEventChainOpen
    ∷ TimestampMustBeZero
    ∷ ReservedFlag
    ∷ IdMustNotBeZero
    ∷ IdMustNotBeIntMax
    ∷ FlagsAreMutuallyExclusive
    ∷ DebitAccountIdMustNotBeZero
    ∷ DebitAccountIdMustNotBeIntMax
    ∷ CreditAccountIdMustNotBeZero
    ∷ CreditAccountIdMustNotBeIntMax
    ∷ AccountsMustBeDifferent
    ∷ PendingIdMustBeZero
    ∷ PendingIdMustNotBeZero
    ∷ PendingIdMustNotBeIntMax
    ∷ PendingIdMustBeDifferent
    ∷ TimeoutReservedForPendingTransfer
    ∷ LedgerMustNotBeZero
    ∷ CodeMustNotBeZero
    ∷ DebitAccountNotFound
    ∷ CreditAccountNotFound
    ∷ AccountsMustHaveTheSameLedger
    ∷ TransferMustHaveTheSameLedgerAsAccounts
    ∷ PendingTransferNotFound
    ∷ PendingTransferNotPending
    ∷ PendingTransferHasDifferentDebitAccountId
    ∷ PendingTransferHasDifferentCreditAccountId
    ∷ PendingTransferHasDifferentLedger
    ∷ PendingTransferHasDifferentCode
    ∷ ExceedsPendingTransferAmount
    ∷ PendingTransferHasDifferentAmount
    ∷ PendingTransferAlreadyPosted
    ∷ PendingTransferAlreadyVoided
    ∷ PendingTransferExpired
    ∷ ExistsWithDifferentFlags
    ∷ ExistsWithDifferentDebitAccountId
    ∷ ExistsWithDifferentCreditAccountId
    ∷ ExistsWithDifferentAmount
    ∷ ExistsWithDifferentPendingId
    ∷ ExistsWithDifferentUserData128
    ∷ ExistsWithDifferentUserData64
    ∷ ExistsWithDifferentUserData32
    ∷ ExistsWithDifferentTimeout
    ∷ ExistsWithDifferentCode
    ∷ Exists
    ∷ OverflowsDebitsPending
    ∷ OverflowsCreditsPending
    ∷ OverflowsDebitsPosted
    ∷ OverflowsCreditsPosted
    ∷ OverflowsDebits
    ∷ OverflowsCredits
    ∷ OverflowsTimeout
    ∷ ExceedsCredits
    ∷ ExceedsDebits
    ∷ ClosingTransferMustBePending
    ∷ DebitAccountAlreadyClosed
    ∷ CreditAccountAlreadyClosed
    ∷ ExistsWithDifferentLedger
    ∷ IdAlreadyFailed
    ∷ []

abbrev pub transfer_result_code : CreateTransferResult → ℕ
transfer_result_code Ok = 0
transfer_result_code LinkedEventFailed = 1
transfer_result_code LinkedEventChainOpen = 2
transfer_result_code TimestampMustBeZero = 3
transfer_result_code ReservedFlag = 4
transfer_result_code IdMustNotBeZero = 5
transfer_result_code IdMustNotBeIntMax = 6
transfer_result_code FlagsAreMutuallyExclusive = 7
transfer_result_code DebitAccountIdMustNotBeZero = 8
transfer_result_code DebitAccountIdMustNotBeIntMax = 9
transfer_result_code CreditAccountIdMustNotBeZero = 10
transfer_result_code CreditAccountIdMustNotBeIntMax = 11
transfer_result_code AccountsMustBeDifferent = 12
transfer_result_code PendingIdMustBeZero = 13
transfer_result_code PendingIdMustNotBeZero = 14
transfer_result_code PendingIdMustNotBeIntMax = 15
transfer_result_code PendingIdMustBeDifferent = 16
transfer_result_code TimeoutReservedForPendingTransfer = 17
transfer_result_code LedgerMustNotBeZero = 19
transfer_result_code CodeMustNotBeZero = 20
transfer_result_code DebitAccountNotFound = 21
transfer_result_code CreditAccountNotFound = 22
transfer_result_code AccountsMustHaveTheSameLedger = 23
transfer_result_code TransferMustHaveTheSameLedgerAsAccounts = 24
transfer_result_code PendingTransferNotFound = 25
transfer_result_code PendingTransferNotPending = 26
transfer_result_code PendingTransferHasDifferentDebitAccountId = 27
transfer_result_code PendingTransferHasDifferentCreditAccountId = 28
transfer_result_code PendingTransferHasDifferentLedger = 29
transfer_result_code PendingTransferHasDifferentCode = 30
transfer_result_code ExceedsPendingTransferAmount = 31
transfer_result_code PendingTransferHasDifferentAmount = 32
transfer_result_code PendingTransferAlreadyPosted = 33
transfer_result_code PendingTransferAlreadyVoided = 34
transfer_result_code PendingTransferExpired = 35
transfer_result_code ExistsWithDifferentFlags = 36
transfer_result_code ExistsWithDifferentDebitAccountId = 37
transfer_result_code ExistsWithDifferentCreditAccountId = 38
transfer_result_code ExistsWithDifferentAmount = 39
transfer_result_code ExistsWithDifferentPendingId = 40
transfer_result_code ExistsWithDifferentUserData128 = 41
transfer_result_code ExistsWithDifferentUserData64 = 42
transfer_result_code ExistsWithDifferentUserData32 = 43
transfer_result_code ExistsWithDifferentTimeout = 44
transfer_result_code ExistsWithDifferentCode = 45
transfer_result_code Exists = 46
transfer_result_code OverflowsDebitsPending = 47
transfer_result_code OverflowsCreditsPending = 48
transfer_result_code OverflowsDebitsPosted = 49
transfer_result_code OverflowsCreditsPosted = 50
transfer_result_code OverflowsDebits = 51
transfer_result_code OverflowsCredits = 52
transfer_result_code OverflowsTimeout = 53
transfer_result_code ExceedsCredits = 54
transfer_result_code ExceedsDebits = 55
transfer_result_code ClosingTransferMustBePending = 64
transfer_result_code DebitAccountAlreadyClosed = 65
transfer_result_code CreditAccountAlreadyClosed = 66
transfer_result_code ExistsWithDifferentLedger = 67
transfer_result_code IdAlreadyFailed = 68

abbrev pub transfer_result_name : CreateTransferResult → List ℕ
transfer_result_name Ok = codes "ok"
transfer_result_name LinkedEventFailed = codes "linked_event_failed"
transfer_result_name LinkedEventChainOpen = codes "linked_event_chain_open"
transfer_result_name TimestampMustBeZero = codes "timestamp_must_be_zero"
transfer_result_name ReservedFlag = codes "reserved_flag"
transfer_result_name IdMustNotBeZero = codes "id_must_not_be_zero"
transfer_result_name IdMustNotBeIntMax = codes "id_must_not_be_int_max"
transfer_result_name FlagsAreMutuallyExclusive = codes "flags_are_mutually_exclusive"
transfer_result_name DebitAccountIdMustNotBeZero = codes "debit_account_id_must_not_be_zero"
transfer_result_name DebitAccountIdMustNotBeIntMax = codes "debit_account_id_must_not_be_int_max"
transfer_result_name CreditAccountIdMustNotBeZero = codes "credit_account_id_must_not_be_zero"
transfer_result_name CreditAccountIdMustNotBeIntMax = codes "credit_account_id_must_not_be_int_max"
transfer_result_name AccountsMustBeDifferent = codes "accounts_must_be_different"
transfer_result_name PendingIdMustBeZero = codes "pending_id_must_be_zero"
transfer_result_name PendingIdMustNotBeZero = codes "pending_id_must_not_be_zero"
transfer_result_name PendingIdMustNotBeIntMax = codes "pending_id_must_not_be_int_max"
transfer_result_name PendingIdMustBeDifferent = codes "pending_id_must_be_different"
transfer_result_name TimeoutReservedForPendingTransfer = codes "timeout_reserved_for_pending_transfer"
transfer_result_name LedgerMustNotBeZero = codes "ledger_must_not_be_zero"
transfer_result_name CodeMustNotBeZero = codes "code_must_not_be_zero"
transfer_result_name DebitAccountNotFound = codes "debit_account_not_found"
transfer_result_name CreditAccountNotFound = codes "credit_account_not_found"
transfer_result_name AccountsMustHaveTheSameLedger = codes "accounts_must_have_the_same_ledger"
transfer_result_name TransferMustHaveTheSameLedgerAsAccounts = codes "transfer_must_have_the_same_ledger_as_accounts"
transfer_result_name PendingTransferNotFound = codes "pending_transfer_not_found"
transfer_result_name PendingTransferNotPending = codes "pending_transfer_not_pending"
transfer_result_name PendingTransferHasDifferentDebitAccountId = codes "pending_transfer_has_different_debit_account_id"
transfer_result_name PendingTransferHasDifferentCreditAccountId = codes "pending_transfer_has_different_credit_account_id"
transfer_result_name PendingTransferHasDifferentLedger = codes "pending_transfer_has_different_ledger"
transfer_result_name PendingTransferHasDifferentCode = codes "pending_transfer_has_different_code"
transfer_result_name ExceedsPendingTransferAmount = codes "exceeds_pending_transfer_amount"
transfer_result_name PendingTransferHasDifferentAmount = codes "pending_transfer_has_different_amount"
transfer_result_name PendingTransferAlreadyPosted = codes "pending_transfer_already_posted"
transfer_result_name PendingTransferAlreadyVoided = codes "pending_transfer_already_voided"
transfer_result_name PendingTransferExpired = codes "pending_transfer_expired"
transfer_result_name ExistsWithDifferentFlags = codes "exists_with_different_flags"
transfer_result_name ExistsWithDifferentDebitAccountId = codes "exists_with_different_debit_account_id"
transfer_result_name ExistsWithDifferentCreditAccountId = codes "exists_with_different_credit_account_id"
transfer_result_name ExistsWithDifferentAmount = codes "exists_with_different_amount"
transfer_result_name ExistsWithDifferentPendingId = codes "exists_with_different_pending_id"
transfer_result_name ExistsWithDifferentUserData128 = codes "exists_with_different_user_data_128"
transfer_result_name ExistsWithDifferentUserData64 = codes "exists_with_different_user_data_64"
transfer_result_name ExistsWithDifferentUserData32 = codes "exists_with_different_user_data_32"
transfer_result_name ExistsWithDifferentTimeout = codes "exists_with_different_timeout"
transfer_result_name ExistsWithDifferentCode = codes "exists_with_different_code"
transfer_result_name Exists = codes "exists"
transfer_result_name OverflowsDebitsPending = codes "overflows_debits_pending"
transfer_result_name OverflowsCreditsPending = codes "overflows_credits_pending"
transfer_result_name OverflowsDebitsPosted = codes "overflows_debits_posted"
transfer_result_name OverflowsCreditsPosted = codes "overflows_credits_posted"
transfer_result_name OverflowsDebits = codes "overflows_debits"
transfer_result_name OverflowsCredits = codes "overflows_credits"
transfer_result_name OverflowsTimeout = codes "overflows_timeout"
transfer_result_name ExceedsCredits = codes "exceeds_credits"
transfer_result_name ExceedsDebits = codes "exceeds_debits"
transfer_result_name ClosingTransferMustBePending = codes "closing_transfer_must_be_pending"
transfer_result_name DebitAccountAlreadyClosed = codes "debit_account_already_closed"
transfer_result_name CreditAccountAlreadyClosed = codes "credit_account_already_closed"
transfer_result_name ExistsWithDifferentLedger = codes "exists_with_different_ledger"
transfer_result_name IdAlreadyFailed = codes "id_already_failed"
