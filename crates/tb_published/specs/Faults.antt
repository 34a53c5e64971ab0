-- The numbers and the names of faults.
use Rattle.std.specs.Prelude.{ℕ, List, codes}
use Rattle.tb_published.specs.declared.faults.TakeFault.{TakeFault}
use Rattle.tb_published.specs.declared.faults.TakeFault.TheVariants as take_fault
use Rattle.tb_published.specs.declared.faults.OpenFault.{OpenFault}
use Rattle.tb_published.specs.declared.faults.OpenFault.TheVariants as open_fault
use Rattle.tb_published.specs.declared.faults.SeatFault.{SeatFault}
use Rattle.tb_published.specs.declared.faults.SeatFault.TheVariants as seat_fault

-- a fault's number, by which other programs identify it

abbrev pub take_fault_number : TakeFault → ℕ
take_fault_number take_fault.NoMemory = 1
take_fault_number take_fault.TimeExhausted = 2
take_fault_number (take_fault.Unpublished c) = 3

abbrev pub open_fault_number : OpenFault → ℕ
open_fault_number open_fault.NoMemory = 1
open_fault_number open_fault.NoPlace = 2

abbrev pub seat_fault_number : SeatFault → ℕ
seat_fault_number seat_fault.NoMemory = 1
seat_fault_number seat_fault.NoCopy = 2

-- a fault's name, as a message shows it

abbrev pub take_fault_name : TakeFault → List ℕ
take_fault_name take_fault.NoMemory = codes "NoMemory"
take_fault_name take_fault.TimeExhausted = codes "TimeExhausted"
take_fault_name (take_fault.Unpublished c) = codes "Unpublished"

abbrev pub open_fault_name : OpenFault → List ℕ
open_fault_name open_fault.NoMemory = codes "NoMemory"
open_fault_name open_fault.NoPlace = codes "NoPlace"

abbrev pub seat_fault_name : SeatFault → List ℕ
seat_fault_name seat_fault.NoMemory = codes "NoMemory"
seat_fault_name seat_fault.NoCopy = codes "NoCopy"
