-- The flags of accounts, by TigerBeetle's names.
use Rattle.std.specs.Prelude.{ℕ, Bool, ◌+◌, ◌-◌, ◌^◌, List, [], ◌∷◌, ◌≡◌, refl, codes}
use Rattle.tb_records.specs.declared.account_flags.AccountFlag.{AccountFlag}
use Rattle.tb_records.specs.declared.account_flags.AccountFlag.TheVariants.{Linked, DebitsMustNotExceedCredits, CreditsMustNotExceedDebits, History, Imported, Closed}
use Rattle.tb_records.specs.declared.records.Account.{Account}
use Rattle.tb_records.specs.Flags.{has_flag}

-- by rising bit
unfoldable pub account_flags : List AccountFlag
account_flags =
    Linked
    ∷ DebitsMustNotExceedCredits
    ∷ CreditsMustNotExceedDebits
    ∷ History
    ∷ Imported
    ∷ Closed
    ∷ []

abbrev pub account_flag_bit : AccountFlag → ℕ
account_flag_bit Linked = 1
account_flag_bit DebitsMustNotExceedCredits = 2
account_flag_bit CreditsMustNotExceedDebits = 4
account_flag_bit History = 8
account_flag_bit Imported = 16
account_flag_bit Closed = 32

-- the bits that no account may have: imported, and those that are not flags
abbrev pub account_flags_reserved : ℕ
account_flags_reserved = 2 ^ 16 - 1 - (
    account_flag_bit Linked
    + account_flag_bit DebitsMustNotExceedCredits
    + account_flag_bit CreditsMustNotExceedDebits
    + account_flag_bit History
    + account_flag_bit Closed)

abbrev pub account_has : AccountFlag → Account → Bool
account_has flag a = has_flag (account_flag_bit flag) a.flags

abbrev pub account_flag_name : AccountFlag → List ℕ
account_flag_name Linked = codes "linked"
account_flag_name DebitsMustNotExceedCredits = codes "debits_must_not_exceed_credits"
account_flag_name CreditsMustNotExceedDebits = codes "credits_must_not_exceed_debits"
account_flag_name History = codes "history"
account_flag_name Imported = codes "imported"
account_flag_name Closed = codes "closed"

-- examples

pub account_reserved_bits : account_flags_reserved ≡ 0xFFD0
account_reserved_bits = refl
