-- The numbers and the names of faults.
use Rattle.std.specs.Prelude.{ℕ, List, codes}
use Rattle.tb_records.specs.declared.faults.FrameFault.{FrameFault}
use Rattle.tb_records.specs.declared.faults.FrameFault.TheVariants.{Short, ClientZero, UnknownOperation, Reserved, BadLength, TooMany, RegisterNumbers, RequestZero, Device, NoMemory, ReplyNumbers}

-- a fault's number, for other programs
abbrev pub fault_number : FrameFault → ℕ
fault_number Short = 1
fault_number ClientZero = 2
fault_number UnknownOperation = 3
fault_number Reserved = 4
fault_number BadLength = 5
fault_number TooMany = 6
fault_number RegisterNumbers = 7
fault_number RequestZero = 8
fault_number Device = 9
fault_number NoMemory = 10
fault_number ReplyNumbers = 11

-- a fault's name, as a message shows it
abbrev pub fault_name : FrameFault → List ℕ
fault_name Short = codes "Short"
fault_name ClientZero = codes "ClientZero"
fault_name UnknownOperation = codes "UnknownOperation"
fault_name Reserved = codes "Reserved"
fault_name BadLength = codes "BadLength"
fault_name TooMany = codes "TooMany"
fault_name RegisterNumbers = codes "RegisterNumbers"
fault_name RequestZero = codes "RequestZero"
fault_name Device = codes "Device"
fault_name NoMemory = codes "NoMemory"
fault_name ReplyNumbers = codes "ReplyNumbers"
