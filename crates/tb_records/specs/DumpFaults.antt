-- The numbers and the names of the faults of a dump.
use Rattle.std.specs.Prelude.{ℕ, List, codes}
use Rattle.tb_records.specs.declared.dumps.DumpFault.{DumpFault}
use Rattle.tb_records.specs.declared.dumps.DumpFault.TheVariants.{Head, Mark, Frame, NotLegal, NoMemory}
use Rattle.tb_records.specs.Faults.{fault_name}

-- a fault's number, for other programs
abbrev pub dump_fault_number : DumpFault → ℕ
dump_fault_number Head = 1
dump_fault_number Mark = 2
dump_fault_number (Frame fault) = 3
dump_fault_number NotLegal = 4
dump_fault_number NoMemory = 5

-- a fault's name, as a message shows it
abbrev pub dump_fault_name : DumpFault → List ℕ
dump_fault_name Head = codes "Head"
dump_fault_name Mark = codes "Mark"
dump_fault_name (Frame fault) = fault_name fault
dump_fault_name NotLegal = codes "NotLegal"
dump_fault_name NoMemory = codes "NoMemory"
