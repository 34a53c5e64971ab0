-- The calls that a wrapper of a device refuses itself.
use Rattle.std.specs.Prelude.{ℕ}
use Rattle.tb_file_journal.specs.declared.faults.JournalFault.{JournalFault}
use Rattle.tb_file_journal.specs.declared.faults.JournalFault.TheVariants as faults
use Rattle.tb_edge_file.specs.declared.refusals.Refusals.{Refusals}

-- how often a call was refused with this fault
abbrev pub refused : Refusals → JournalFault → ℕ
refused refusals faults.Memory = refusals.memory
refused refusals faults.Failed = refusals.failed
refused refusals faults.Full = refusals.full
refused refusals faults.SyncFailed = refusals.unsynced
refused refusals other = 0
