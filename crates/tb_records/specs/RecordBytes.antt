-- Records in TigerBeetle's layout: field after field, each number with its lowest byte first.
use Rattle.std.specs.Prelude.{ℕ, ◌^◌, ◌<◌, ◌++◌, List}
use Rattle.tb_records.specs.declared.records.Account.{Account}
use Rattle.tb_records.specs.declared.records.Transfer.{Transfer}
use Rattle.tb_records.specs.declared.records.EventResult.{EventResult}
use Rattle.tb_records.specs.Numbers.{le_bytes}

-- the 128 bytes of an account
unfoldable pub account_bytes : Account → List ℕ
account_bytes a =
    le_bytes 16 a.id
    ++ le_bytes 16 a.debits_pending
    ++ le_bytes 16 a.debits_posted
    ++ le_bytes 16 a.credits_pending
    ++ le_bytes 16 a.credits_posted
    ++ le_bytes 16 a.user_data_128
    ++ le_bytes 8 a.user_data_64
    ++ le_bytes 4 a.user_data_32
    ++ le_bytes 4 a.reserved
    ++ le_bytes 4 a.ledger
    ++ le_bytes 2 a.code
    ++ le_bytes 2 a.flags
    ++ le_bytes 8 a.timestamp

-- the 128 bytes of a transfer
unfoldable pub transfer_bytes : Transfer → List ℕ
transfer_bytes t =
    le_bytes 16 t.id
    ++ le_bytes 16 t.debit_account_id
    ++ le_bytes 16 t.credit_account_id
    ++ le_bytes 16 t.amount
    ++ le_bytes 16 t.pending_id
    ++ le_bytes 16 t.user_data_128
    ++ le_bytes 8 t.user_data_64
    ++ le_bytes 4 t.user_data_32
    ++ le_bytes 4 t.timeout
    ++ le_bytes 4 t.ledger
    ++ le_bytes 2 t.code
    ++ le_bytes 2 t.flags
    ++ le_bytes 8 t.timestamp

-- the 8 bytes of an event's result
unfoldable pub result_bytes : EventResult → List ℕ
result_bytes r = le_bytes 4 r.index ++ le_bytes 4 r.result

-- the numbers of an account fit their fields
pub record IsAccount (a : Account) : Type 0 where
  pub id : a.id < 2 ^ 128
  pub debits_pending : a.debits_pending < 2 ^ 128
  pub debits_posted : a.debits_posted < 2 ^ 128
  pub credits_pending : a.credits_pending < 2 ^ 128
  pub credits_posted : a.credits_posted < 2 ^ 128
  pub user_data_128 : a.user_data_128 < 2 ^ 128
  pub user_data_64 : a.user_data_64 < 2 ^ 64
  pub user_data_32 : a.user_data_32 < 2 ^ 32
  pub reserved : a.reserved < 2 ^ 32
  pub ledger : a.ledger < 2 ^ 32
  pub code : a.code < 2 ^ 16
  pub flags : a.flags < 2 ^ 16
  pub timestamp : a.timestamp < 2 ^ 64

-- the numbers of a transfer fit their fields
pub record IsTransfer (t : Transfer) : Type 0 where
  pub id : t.id < 2 ^ 128
  pub debit_account_id : t.debit_account_id < 2 ^ 128
  pub credit_account_id : t.credit_account_id < 2 ^ 128
  pub amount : t.amount < 2 ^ 128
  pub pending_id : t.pending_id < 2 ^ 128
  pub user_data_128 : t.user_data_128 < 2 ^ 128
  pub user_data_64 : t.user_data_64 < 2 ^ 64
  pub user_data_32 : t.user_data_32 < 2 ^ 32
  pub timeout : t.timeout < 2 ^ 32
  pub ledger : t.ledger < 2 ^ 32
  pub code : t.code < 2 ^ 16
  pub flags : t.flags < 2 ^ 16
  pub timestamp : t.timestamp < 2 ^ 64

-- the numbers of an event's result fit their fields
pub record IsResult (r : EventResult) : Type 0 where
  pub index : r.index < 2 ^ 32
  pub result : r.result < 2 ^ 32
