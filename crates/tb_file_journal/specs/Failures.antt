-- The failures of a file in memory, by the fault.
use Rattle.std.specs.Prelude.{ℕ}
use Rattle.tb_file_journal.specs.declared.faults.JournalFault.{JournalFault}
use Rattle.tb_file_journal.specs.declared.faults.JournalFault.TheVariants as faults
use Rattle.tb_file_journal.specs.declared.memory.Failures.{Failures}

abbrev pub counted : Failures → JournalFault → ℕ
counted failures faults.Memory = failures.memory
counted failures faults.Failed = failures.failed
counted failures faults.Full = failures.full
counted failures faults.TooLong = failures.too_long
counted failures faults.NotEmpty = failures.not_empty
counted failures faults.SyncFailed = failures.unsynced
