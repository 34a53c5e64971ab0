-- The numbers and the names of the faults of a run.
use Rattle.std.specs.Prelude.{ℕ, List, codes}
use Rattle.tb_records.specs.Faults.{fault_name}
use Rattle.tb_machine.specs.declared.serving.RunFault.{RunFault}
use Rattle.tb_machine.specs.declared.serving.RunFault.TheVariants.{Frame, NoMemory, TimeExhausted, TooLong}

-- a fault's number, for other programs
abbrev pub run_fault_number : RunFault → ℕ
run_fault_number (Frame fault) = 1
run_fault_number NoMemory = 2
run_fault_number TimeExhausted = 3
run_fault_number TooLong = 4

-- a fault's name, as a message shows it
abbrev pub run_fault_name : RunFault → List ℕ
run_fault_name (Frame fault) = fault_name fault
run_fault_name NoMemory = codes "NoMemory"
run_fault_name TimeExhausted = codes "TimeExhausted"
run_fault_name TooLong = codes "TooLong"
