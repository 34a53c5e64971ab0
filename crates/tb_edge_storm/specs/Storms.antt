-- The exit status of each fault of a storm: 1 a device, memory or a copy failed, 3 a client gave up; the line that reports a fault; and the lines of
-- a storm that ended well.
use Rattle.std.specs.Prelude.{ℕ, ◌≡◌, ◌⊎◌, List, ◌++◌, Result, Ok, Err, IfOk, codes}
use Rattle.std.specs.Fmt.{decimal}
use Rattle.tb_records.specs.Transport.{Output, Sent, CutOff}
use Rattle.tb_edge_commands.specs.ExitStatuses.{line_named, PrintsLine}
use Rattle.tb_published.specs.declared.faults.OpenFault.{OpenFault}
use Rattle.tb_published.specs.declared.faults.OpenFault.TheVariants as opening
use Rattle.tb_published.specs.declared.faults.SeatFault.{SeatFault}
use Rattle.tb_published.specs.declared.faults.SeatFault.TheVariants as seat
use Rattle.tb_edge_storm.specs.declared.faults.StormFault.{StormFault}
use Rattle.tb_edge_storm.specs.declared.faults.StormFault.TheVariants as storm
use Rattle.tb_edge_storm.specs.declared.totals.Totals.{Totals}
use Rattle.tb_edge_storm.specs.Totals.{AreTotals}

abbrev pub storm_exit_status : StormFault → ℕ
storm_exit_status storm.GaveUp = 3
storm_exit_status fault = 1

-- the fault of a storm whose opening is refused
abbrev pub of_opening : OpenFault → StormFault
of_opening opening.NoMemory = storm.NoMemory
of_opening opening.NoPlace = storm.NoPlace

-- the fault of a storm whose seat gives no answer
abbrev pub of_seat : SeatFault → StormFault
of_seat seat.NoMemory = storm.NoMemory
of_seat seat.NoCopy = storm.NoCopy

-- a fault's name, as its line shows it
abbrev pub storm_fault_name : StormFault → List ℕ
storm_fault_name storm.NoMemory = codes "NoMemory"
storm_fault_name storm.NoPlace = codes "NoPlace"
storm_fault_name storm.NoCopy = codes "NoCopy"
storm_fault_name storm.GaveUp = codes "GaveUp"
storm_fault_name storm.Device = codes "Device"

abbrev pub storm_line : StormFault → List ℕ
storm_line fault = line_named (storm_fault_name fault)

-- a line of a word and a number
abbrev pub numbered_line : List ℕ → ℕ → List ℕ
numbered_line word number = word ++ decimal number ++ codes "\n"

-- the four lines of a storm of `clients` clients
abbrev pub storm_lines : ℕ → Totals → List ℕ
storm_lines clients totals =
    ((numbered_line (codes "clients ") clients ++ numbered_line (codes "commits ") totals.commits) ++ numbered_line (codes "transfers ") totals.transfers)
    ++ numbered_line (codes "credited ") totals.credited

-- Lines were written, and nothing is reported; or a prefix of them, as far as the writer took it, and the fault is Device.
abbrev pub WritesLines : List ℕ → ℕ → Output → Output → Output → Output → Type 0
WritesLines lines exit_status start written quiet told = ((exit_status ≡ 0) × Sent lines start written × (told ≡ quiet))
    ⊎ ((exit_status ≡ storm_exit_status storm.Device) × CutOff lines start written × PrintsLine (storm_line storm.Device) quiet told)

-- if a storm ended with totals, its lines are written; otherwise nothing is written, and its fault is reported
abbrev pub StormExitsWith : ℕ → Result Totals StormFault → ℕ → Output → Output → Output → Output → Type 0
StormExitsWith clients (Ok totals) exit_status start written quiet told = WritesLines (storm_lines clients totals) exit_status start written quiet told
StormExitsWith clients (Err fault) exit_status start written quiet told = (exit_status ≡ storm_exit_status fault) × (written ≡ start) × PrintsLine (storm_line fault) quiet told

-- A storm of `clients` clients was played, and this is reported: its totals, or that there is no memory for their lines; or only its fault.
abbrev pub PrintsOutcome : ℕ → Result Totals StormFault → ℕ → Output → Output → Output → Output → Type 0
PrintsOutcome clients (Ok totals) exit_status start written quiet told =
    StormExitsWith clients (Ok totals) exit_status start written quiet told ⊎ StormExitsWith clients (Err storm.NoMemory) exit_status start written quiet told
PrintsOutcome clients (Err fault) exit_status start written quiet told = StormExitsWith clients (Err fault) exit_status start written quiet told

-- A storm of `clients` clients, each with `transfers` transfers, ended: with the totals of a history that has all that the clients saw, or with a
-- fault.
abbrev pub StormExits : ℕ → ℕ → ℕ → Output → Output → Output → Output → Type 0
StormExits clients transfers exit_status start written quiet told =
    (outcome : Result Totals StormFault) × IfOk outcome (AreTotals clients transfers) × StormExitsWith clients outcome exit_status start written quiet told
