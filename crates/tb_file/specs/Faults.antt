-- The numbers and the names of faults.
use Rattle.std.specs.Prelude.{ℕ, ◌+◌, List, codes}
use Rattle.tb_records.specs.Faults as frame_faults
use Rattle.tb_file_journal.specs.Faults.{journal_fault_number, journal_fault_name}
use Rattle.tb_machine.specs.RunFaults.{run_fault_number, run_fault_name}
use Rattle.tb_file.specs.declared.faults.DumpFault.{DumpFault}
use Rattle.tb_file.specs.declared.faults.DumpFault.TheVariants as dump
use Rattle.tb_file.specs.declared.faults.KeepFault.{KeepFault}
use Rattle.tb_file.specs.declared.faults.KeepFault.TheVariants as keep
use Rattle.tb_file.specs.declared.faults.SalvageFault.{SalvageFault}
use Rattle.tb_file.specs.declared.faults.SalvageFault.TheVariants as salvage
use Rattle.tb_file.specs.declared.faults.StartFault.{StartFault}
use Rattle.tb_file.specs.declared.faults.StartFault.TheVariants as start

-- a fault's number, by which other programs may know it: those of serving first
abbrev pub keep_fault_number : KeepFault → ℕ
keep_fault_number (keep.Serving fault) = run_fault_number fault
keep_fault_number (keep.Journal fault) = 4 + journal_fault_number fault

-- a fault's name, as a message shows it
abbrev pub keep_fault_name : KeepFault → List ℕ
keep_fault_name (keep.Serving fault) = run_fault_name fault
keep_fault_name (keep.Journal fault) = journal_fault_name fault

abbrev pub start_fault_number : StartFault → ℕ
start_fault_number (start.Journal fault) = 1
start_fault_number start.Head = 2
start_fault_number start.OtherRules = 3
start_fault_number (start.Record place fault) = 4
start_fault_number (start.Entry fault) = 5
start_fault_number start.NoMemory = 6
start_fault_number (start.TornTooLong at bytes) = 7

abbrev pub start_fault_name : StartFault → List ℕ
start_fault_name (start.Journal fault) = codes "Journal"
start_fault_name start.Head = codes "Head"
start_fault_name start.OtherRules = codes "OtherRules"
start_fault_name (start.Record place fault) = codes "Record"
start_fault_name (start.Entry fault) = codes "Entry"
start_fault_name start.NoMemory = codes "NoMemory"
start_fault_name (start.TornTooLong at bytes) = codes "TornTooLong"

abbrev pub ledger_dump_fault_name : DumpFault → List ℕ
ledger_dump_fault_name (dump.Journal fault) = codes "Journal"
ledger_dump_fault_name (dump.Writer fault) = frame_faults.fault_name fault

abbrev pub salvage_fault_name : SalvageFault → List ℕ
salvage_fault_name (salvage.Old fault) = start_fault_name fault
salvage_fault_name (salvage.New fault) = start_fault_name fault
