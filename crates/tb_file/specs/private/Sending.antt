-- The records of a file as they are read and sent: only for private functions.
use Rattle.std.specs.Prelude.{ℕ, Bool, true, false, ◌≡◌, ◌+◌, ◌-◌, List, [], ◌∷◌, ◌++◌, drop, Result, Ok, Err}
use Rattle.tb_records.specs.declared.faults.FrameFault.TheVariants.{Device}
use Rattle.tb_records.specs.Transport.{Output, Sent, CutOff}
use Rattle.tb_file_journal.specs.Contents.{Records, contents}
use Rattle.tb_file_journal.specs.Opening.{RefusesFile}
use Rattle.tb_file_journal.specs.Scans.{BeginsWith, HasRead, ScanState}
use Rattle.tb_file.specs.declared.faults.DumpFault.{DumpFault}
use Rattle.tb_file.specs.declared.faults.DumpFault.TheVariants as dump
use Rattle.tb_file.specs.Following.{entries_above}
use Rattle.tb_file.specs.Reading.{joined_bytes}

-- the record of an entry of this commit number, if that is above `after`
abbrev pub above : ℕ → ℕ → List ℕ → List ℕ
above commit after bytes = joined_bytes (drop (after + 1 - commit) (bytes ∷ []))

-- after the records that were read one more was read, and sent if its number is above `after`; or there is no further record
abbrev pub SendsNext : Result Bool DumpFault → ℕ → List (List ℕ) → List ℕ → ScanState → Output → Output → Type 0
SendsNext (Ok true) after read file scan old new =
    (bytes : List ℕ) × HasRead (read ++ bytes ∷ []) file scan × Sent (entries_above after read (bytes ∷ [])) old new
SendsNext (Ok false) after read file scan old new = (contents file ≡ Records read) × HasRead read file scan × (new ≡ old)
SendsNext (Err (dump.Journal fault)) after read file scan old new = RefusesFile fault file × BeginsWith read file × (new ≡ old)
SendsNext (Err (dump.Writer fault)) after read file scan old new =
    (fault ≡ Device) × ((bytes : List ℕ) × BeginsWith (read ++ bytes ∷ []) file × CutOff (entries_above after read (bytes ∷ [])) old new)

-- all records after those that were read, or some of them
abbrev pub SendsAll : Result (Unit {0}) DumpFault → ℕ → List (List ℕ) → List ℕ → ScanState → Output → Output → Type 0
SendsAll (Ok done) after read file scan old new =
    (more : List (List ℕ)) × (contents file ≡ Records (read ++ more)) × HasRead (read ++ more) file scan × Sent (entries_above after read more) old new
SendsAll (Err (dump.Journal fault)) after read file scan old new =
    RefusesFile fault file × ((more : List (List ℕ)) × BeginsWith (read ++ more) file × Sent (entries_above after read more) old new)
SendsAll (Err (dump.Writer fault)) after read file scan old new =
    (fault ≡ Device) × ((more : List (List ℕ)) × BeginsWith (read ++ more) file × CutOff (entries_above after read more) old new)
