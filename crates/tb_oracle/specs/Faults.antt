-- The name and the exit status of each fault.
use Rattle.std.specs.Prelude.{ℕ, List, codes}
use Rattle.tb_records.specs.declared.faults.FrameFault.TheVariants as frame
use Rattle.tb_records.specs.Faults.{fault_name as frame_fault_name}
use Rattle.tb_caller.specs.Faults.{field_fault_name}
use Rattle.tb_oracle.specs.declared.faults.OracleFault.{OracleFault}
use Rattle.tb_oracle.specs.declared.faults.OracleFault.TheVariants.{Frame, Field, UnknownPhase, UnknownStep}

abbrev pub oracle_fault_name : OracleFault → List ℕ
oracle_fault_name (Frame f) = frame_fault_name f
oracle_fault_name (Field f) = field_fault_name f
oracle_fault_name UnknownPhase = codes "UnknownPhase"
oracle_fault_name UnknownStep = codes "UnknownStep"

-- 1 if a device or memory failed, 2 if the input is wrong
abbrev pub oracle_exit_status : OracleFault → ℕ
oracle_exit_status (Frame frame.Device) = 1
oracle_exit_status (Frame frame.NoMemory) = 1
oracle_exit_status other = 2
