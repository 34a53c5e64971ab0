-- The result codes of accounts, by TigerBeetle's names.
use Rattle.std.specs.Prelude.{ℕ, List, [], ◌∷◌, codes}
use Rattle.tb_records.specs.declared.account_results.CreateAccountResult.{CreateAccountResult}
use Rattle.tb_records.specs.declared.account_results.CreateAccountResult.TheVariants.{Ok, LinkedEventFailed, LinkedEventChainOpen, TimestampMustBeZero, ReservedField, ReservedFlag, IdMustNotBeZero, IdMustNotBeIntMax, FlagsAreMutuallyExclusive, DebitsPendingMustBeZero, DebitsPostedMustBeZero, CreditsPendingMustBeZero, CreditsPostedMustBeZero, LedgerMustNotBeZero, CodeMustNotBeZero, ExistsWithDifferentFlags, ExistsWithDifferentUserData128, ExistsWithDifferentUserData64, ExistsWithDifferentUserData32, ExistsWithDifferentLedger, ExistsWithDifferentCode, Exists}

-- by rising code
unfoldable pub account_results : List CreateAccountResult
account_results =
    Ok
    ∷ LinkedEventFailed
    ∷ LinkedEventChainOpen
    ∷ TimestampMustBeZero
    ∷ ReservedField
    ∷ ReservedFlag
    ∷ IdMustNotBeZero
    ∷ IdMustNotBeIntMax
    ∷ FlagsAreMutuallyExclusive
    ∷ DebitsPendingMustBeZero
    ∷ DebitsPostedMustBeZero
    ∷ CreditsPendingMustBeZero
    ∷ CreditsPostedMustBeZero
    ∷ LedgerMustNotBeZero
    ∷ CodeMustNotBeZero
    ∷ ExistsWithDifferentFlags
    ∷ ExistsWithDifferentUserData128
    ∷ ExistsWithDifferentUserData64
    ∷ ExistsWithDifferentUserData32
    ∷ ExistsWithDifferentLedger
    ∷ ExistsWithDifferentCode
    ∷ Exists
    ∷ []

abbrev pub account_result_code : CreateAccountResult → ℕ
account_result_code Ok = 0
account_result_code LinkedEventFailed = 1
account_result_code LinkedEventChainOpen = 2
account_result_code TimestampMustBeZero = 3
account_result_code ReservedField = 4
account_result_code ReservedFlag = 5
account_result_code IdMustNotBeZero = 6
account_result_code IdMustNotBeIntMax = 7
account_result_code FlagsAreMutuallyExclusive = 8
account_result_code DebitsPendingMustBeZero = 9
account_result_code DebitsPostedMustBeZero = 10
account_result_code CreditsPendingMustBeZero = 11
account_result_code CreditsPostedMustBeZero = 12
account_result_code LedgerMustNotBeZero = 13
account_result_code CodeMustNotBeZero = 14
account_result_code ExistsWithDifferentFlags = 15
account_result_code ExistsWithDifferentUserData128 = 16
account_result_code ExistsWithDifferentUserData64 = 17
account_result_code ExistsWithDifferentUserData32 = 18
account_result_code ExistsWithDifferentLedger = 19
account_result_code ExistsWithDifferentCode = 20
account_result_code Exists = 21

abbrev pub account_result_name : CreateAccountResult → List ℕ
account_result_name Ok = codes "ok"
account_result_name LinkedEventFailed = codes "linked_event_failed"
account_result_name LinkedEventChainOpen = codes "linked_event_chain_open"
account_result_name TimestampMustBeZero = codes "timestamp_must_be_zero"
account_result_name ReservedField = codes "reserved_field"
account_result_name ReservedFlag = codes "reserved_flag"
account_result_name IdMustNotBeZero = codes "id_must_not_be_zero"
account_result_name IdMustNotBeIntMax = codes "id_must_not_be_int_max"
account_result_name FlagsAreMutuallyExclusive = codes "flags_are_mutually_exclusive"
account_result_name DebitsPendingMustBeZero = codes "debits_pending_must_be_zero"
account_result_name DebitsPostedMustBeZero = codes "debits_posted_must_be_zero"
account_result_name CreditsPendingMustBeZero = codes "credits_pending_must_be_zero"
account_result_name CreditsPostedMustBeZero = codes "credits_posted_must_be_zero"
account_result_name LedgerMustNotBeZero = codes "ledger_must_not_be_zero"
account_result_name CodeMustNotBeZero = codes "code_must_not_be_zero"
account_result_name ExistsWithDifferentFlags = codes "exists_with_different_flags"
account_result_name ExistsWithDifferentUserData128 = codes "exists_with_different_user_data_128"
account_result_name ExistsWithDifferentUserData64 = codes "exists_with_different_user_data_64"
account_result_name ExistsWithDifferentUserData32 = codes "exists_with_different_user_data_32"
account_result_name ExistsWithDifferentLedger = codes "exists_with_different_ledger"
account_result_name ExistsWithDifferentCode = codes "exists_with_different_code"
account_result_name Exists = codes "exists"
