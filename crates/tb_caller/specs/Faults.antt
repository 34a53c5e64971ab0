-- The names of the faults of calls and of fields.
use Rattle.std.specs.Prelude.{ℕ, List, codes}
use Rattle.tb_records.specs.Faults.{fault_name}
use Rattle.tb_caller.specs.declared.faults.CallFault.{CallFault}
use Rattle.tb_caller.specs.declared.faults.CallFault.TheVariants as call
use Rattle.tb_caller.specs.declared.faults.FieldFault.{FieldFault}
use Rattle.tb_caller.specs.declared.faults.FieldFault.TheVariants as field

abbrev pub call_fault_name : CallFault → List ℕ
call_fault_name call.NotRegistered = codes "NotRegistered"
call_fault_name call.Registered = codes "Registered"
call_fault_name call.Unanswered = codes "Unanswered"
call_fault_name call.Ended = codes "Ended"
call_fault_name call.NoNumber = codes "NoNumber"
call_fault_name (call.Frame fault) = fault_name fault
call_fault_name call.NoMemory = codes "NoMemory"

abbrev pub field_fault_name : FieldFault → List ℕ
field_fault_name field.RegisterNumbers = codes "RegisterNumbers"
field_fault_name field.OtherClient = codes "OtherClient"
field_fault_name field.OtherSession = codes "OtherSession"
field_fault_name field.OtherNumber = codes "OtherNumber"
