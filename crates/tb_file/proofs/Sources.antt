-- The next step of a scan.
use Rattle.std.proofs.Common.{List, ℕ, Bool, Result}
use Rattle.tb_file_journal.specs.declared.opening.OpenFault.{OpenFault}
use Rattle.tb_file_journal.specs.declared.opening.OpenFault.TheVariants as open_faults
use Rattle.tb_file_journal.specs.Opening.{RefusesFile}
use Rattle.tb_file_journal.specs.Scans.{ScanState, HasRead, ReadsNextRecord}
use Rattle.tb_file.specs.RecordSteps.{IsNext}
use Rattle.std.proofs.Common.{Err}

pub next_is : (result : Result Bool OpenFault) (read : List (List ℕ)) (file : List ℕ) (old new : ScanState)
    → HasRead read file old → ReadsNextRecord result read file new → IsNext result read file new
next_is result read file old new has reads = record { begins = has.begins; reads = reads }

-- why the reading stops
pub stops_by_read : (fault : OpenFault) (records : List (List ℕ)) (file : List ℕ) (scan : ScanState) → ReadsNextRecord (Err fault) records file scan → RefusesFile fault file
stops_by_read (open_faults.Refused why) records file scan read = read
stops_by_read (open_faults.Device fault) records file scan read = tt
