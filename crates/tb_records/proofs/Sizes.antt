-- How many bytes numbers and records have.
use Rattle.std.specs.Prelude.{◌≡◌, ℕ, length}
use Rattle.std.proofs.Common.{length-append}
use Rattle.byteorder.specs.Numbers.{length-bytes_low_first}
use Rattle.tb_records.specs.declared.records.Account.{Account}
use Rattle.tb_records.specs.declared.records.Transfer.{Transfer}
use Rattle.tb_records.specs.declared.records.EventResult.{EventResult}
use Rattle.tb_records.specs.Numbers.{le_bytes}
use Rattle.tb_records.specs.RecordBytes.{account_bytes, transfer_bytes, result_bytes}

pub length-le_bytes : (n x : ℕ) → length (le_bytes n x) ≡ n
unfolding le_bytes
length-le_bytes n x = length-bytes_low_first 0 n x

pub length-account : (a : Account) → length (account_bytes a) ≡ 128
unfolding account_bytes
length-account a = simp (length-append, length-le_bytes)

pub length-transfer : (a : Transfer) → length (transfer_bytes a) ≡ 128
unfolding transfer_bytes
length-transfer a = simp (length-append, length-le_bytes)

pub length-result : (a : EventResult) → length (result_bytes a) ≡ 8
unfolding result_bytes
length-result a = simp (length-append, length-le_bytes)

pub length-id : (x : ℕ) → length (le_bytes 16 x) ≡ 16
length-id x = length-le_bytes 16 x
