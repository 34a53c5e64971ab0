-- The flags of transfers, by TigerBeetle's names.
use Rattle.std.specs.Prelude.{ℕ, Bool, ◌+◌, ◌-◌, ◌^◌, List, [], ◌∷◌, ◌≡◌, refl, codes}
use Rattle.tb_records.specs.declared.transfer_flags.TransferFlag.{TransferFlag}
use Rattle.tb_records.specs.declared.transfer_flags.TransferFlag.TheVariants.{Linked, Pending, PostPendingTransfer, VoidPendingTransfer, BalancingDebit, BalancingCredit, ClosingDebit, ClosingCredit, Imported}
use Rattle.tb_records.specs.declared.records.Transfer.{Transfer}
use Rattle.tb_records.specs.Flags.{has_flag}

-- by rising bit
unfoldable pub transfer_flags : List TransferFlag
transfer_flags =
    Linked
    ∷ Pending
    ∷ PostPendingTransfer
    ∷ VoidPendingTransfer
    ∷ BalancingDebit
    ∷ BalancingCredit
    ∷ ClosingDebit
    ∷ ClosingCredit
    ∷ Imported
    ∷ []

abbrev pub transfer_flag_bit : TransferFlag → ℕ
transfer_flag_bit Linked = 1
transfer_flag_bit Pending = 2
transfer_flag_bit PostPendingTransfer = 4
transfer_flag_bit VoidPendingTransfer = 8
transfer_flag_bit BalancingDebit = 16
transfer_flag_bit BalancingCredit = 32
transfer_flag_bit ClosingDebit = 64
transfer_flag_bit ClosingCredit = 128
transfer_flag_bit Imported = 256

-- the bits that no transfer may have: imported, and those that are not flags
abbrev pub transfer_flags_reserved : ℕ
transfer_flags_reserved = 2 ^ 16 - 1 - (
    transfer_flag_bit Linked
    + transfer_flag_bit Pending
    + transfer_flag_bit PostPendingTransfer
    + transfer_flag_bit VoidPendingTransfer
    + transfer_flag_bit BalancingDebit
    + transfer_flag_bit BalancingCredit
    + transfer_flag_bit ClosingDebit
    + transfer_flag_bit ClosingCredit)

abbrev pub transfer_has : TransferFlag → Transfer → Bool
transfer_has flag t = has_flag (transfer_flag_bit flag) t.flags

abbrev pub transfer_flag_name : TransferFlag → List ℕ
transfer_flag_name Linked = codes "linked"
transfer_flag_name Pending = codes "pending"
transfer_flag_name PostPendingTransfer = codes "post_pending_transfer"
transfer_flag_name VoidPendingTransfer = codes "void_pending_transfer"
transfer_flag_name BalancingDebit = codes "balancing_debit"
transfer_flag_name BalancingCredit = codes "balancing_credit"
transfer_flag_name ClosingDebit = codes "closing_debit"
transfer_flag_name ClosingCredit = codes "closing_credit"
transfer_flag_name Imported = codes "imported"

-- examples

pub transfer_reserved_bits : transfer_flags_reserved ≡ 0xFF00
transfer_reserved_bits = refl
