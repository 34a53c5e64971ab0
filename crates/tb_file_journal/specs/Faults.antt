-- The numbers and the names of faults.
use Rattle.std.specs.Prelude.{ℕ, List, codes}
use Rattle.tb_file_journal.specs.declared.faults.JournalFault.{JournalFault}
use Rattle.tb_file_journal.specs.declared.faults.JournalFault.TheVariants.{Memory, Failed, Full, TooLong, NotEmpty, SyncFailed}

-- a fault's number, for other programs
abbrev pub journal_fault_number : JournalFault → ℕ
journal_fault_number Memory = 1
journal_fault_number Failed = 2
journal_fault_number Full = 3
journal_fault_number TooLong = 4
journal_fault_number NotEmpty = 5
journal_fault_number SyncFailed = 6

-- a fault's name, as a message shows it
abbrev pub journal_fault_name : JournalFault → List ℕ
journal_fault_name Memory = codes "Memory"
journal_fault_name Failed = codes "Failed"
journal_fault_name Full = codes "Full"
journal_fault_name TooLong = codes "TooLong"
journal_fault_name NotEmpty = codes "NotEmpty"
journal_fault_name SyncFailed = codes "SyncFailed"

-- the fault of a file in memory in a call other than a sync, if it was set to fail with this fault
abbrev pub fault_in_memory : JournalFault → JournalFault
fault_in_memory Memory = Memory
fault_in_memory Full = Full
fault_in_memory fault = Failed
