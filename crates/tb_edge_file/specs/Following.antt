-- What is written of the entries of a file above a commit number, as the file grows.
use Rattle.std.specs.Prelude.{ℕ, ◌≡◌, ◌⊎◌, Bool, true, false, List, [], ◌++◌, Option, Some, None, Result, Ok, Err}
use Rattle.tb_records.specs.Transport.{Output, Sent, CutOff}
use Rattle.tb_records.specs.DumpBytes.{head_bytes}
use Rattle.tb_file_journal.specs.declared.opening.OpenFault.{OpenFault}
use Rattle.tb_file_journal.specs.Contents.{Records, contents}
use Rattle.tb_file_journal.specs.Device.{Disk, FailsNone}
use Rattle.tb_file_journal.specs.Growing.{Later}
use Rattle.tb_file_journal.specs.Opening.{RefusesFile}
use Rattle.tb_file_journal.specs.Scans.{BeginsWith, HasRead, ScanState}
use Rattle.tb_file.specs.declared.faults.DumpFault.{DumpFault}
use Rattle.tb_file.specs.declared.recovering.Rules.{Rules}
use Rattle.tb_file.specs.Following.{entries_above}
use Rattle.tb_file.specs.Reading.{HasDumpCause}
use Rattle.tb_edge_file.specs.declared.faults.KeepCommandFault.{KeepCommandFault}
use Rattle.tb_edge_file.specs.declared.faults.KeepCommandFault.TheVariants.{Device}
use Rattle.tb_edge_file.specs.declared.faults.Failed.TheVariants as failed
use Rattle.tb_edge_file.specs.Ends.{outcome_by}
use Rattle.tb_edge_file.specs.ExitStatuses.{opened_fault, dumped_fault}

-- the commit number above which entries are written: 0, so that all are, if none is given
abbrev pub floor_of : Option ℕ → ℕ
floor_of None = 0
floor_of (Some after) = after

-- a dump's head if all entries are written; no head if only later ones are
abbrev pub start_of : Option ℕ → Rules → List ℕ
start_of None rules = head_bytes rules.profile rules.clients_max
start_of (Some after) rules = []

-- what is written of these records
abbrev pub part_of : Option ℕ → Rules → List (List ℕ) → List ℕ
part_of after rules records = start_of after rules ++ entries_above (floor_of after) [] records

-- the file itself, or a later one if more is waited for
abbrev pub GrowsTo : Bool → List ℕ → List ℕ → Type 0
GrowsTo false file later = later ≡ file
GrowsTo true file later = Later file later

-- reading the file stopped for the reason that the fault names, and before that this was sent
pub record StopsWriting (fault : KeepCommandFault) (file : List ℕ) (Went : Type 0) : Type 0 where
  pub why : OpenFault
  pub named : fault ≡ opened_fault why
  pub refuses : RefusesFile why file
  pub went : Went

-- reading the file stopped, and these bytes were sent; or standard output failed, and a prefix of them was sent
abbrev pub EndsWriting : KeepCommandFault → List ℕ → List ℕ → Output → Output → Type 0
EndsWriting fault file bytes start written =
    StopsWriting fault file (Sent bytes start written) ⊎ ((fault ≡ Device failed.Output) × CutOff bytes start written)

-- all of a file was read, and the part of its records was sent: of the file itself, or of what it had become if more was waited for. It is the
-- one that the device holds at the end
pub record WritesRead (holds : List ℕ → Type 0) (follows : Bool) (after : Option ℕ) (rules : Rules) (file : List ℕ) (start written : Output) : Type 0 where
  pub later : List ℕ
  pub since : GrowsTo follows file later
  pub held : holds later
  pub records : List (List ℕ)
  pub whole : contents later ≡ Records records
  pub sent : Sent (part_of after rules records) start written

-- or, at a fault, the part of the records that were read until then, or a prefix of it
pub record WritesSome (fault : KeepCommandFault) (follows : Bool) (after : Option ℕ) (rules : Rules) (file : List ℕ) (start written : Output) : Type 0 where
  pub later : List ℕ
  pub since : GrowsTo follows file later
  pub records : List (List ℕ)
  pub begins : BeginsWith records later
  pub ends : EndsWriting fault later (part_of after rules records) start written

abbrev pub WritesPart : (List ℕ → Type 0) → Result (Unit {0}) KeepCommandFault → Bool → Option ℕ → Rules → List ℕ → Output → Output → Type 0
WritesPart holds (Ok done) follows after rules file start written = WritesRead holds follows after rules file start written
WritesPart holds (Err fault) follows after rules file start written =
    StopsWriting fault file (written ≡ start) ⊎ WritesSome fault follows after rules file start written

-- the cause of an outcome, over a device that reports what its calls do: the same as of a dump
pub record HasPartCause (outcome : Result (Unit {0}) KeepCommandFault) (before after : Disk) : Type 0 where
  pub result : Result (Unit {0}) DumpFault
  pub outcome_is : outcome ≡ outcome_by dumped_fault result
  pub cause : HasDumpCause result before after

-- cited only by private functions

-- no call on a device failed, and reading its file goes on from this place
pub record IsReadOnFrom (before after : Disk) (scan : ScanState) : Type 0 where
  pub quiet : FailsNone before after
  pub seen : after.seen ≡ before.seen
  pub read : List (List ℕ)
  pub place : HasRead read after.seen scan

abbrev pub RoundCause : Result (Unit {0}) KeepCommandFault → Disk → Disk → ScanState → Type 0
RoundCause (Ok done) before after scan = IsReadOnFrom before after scan
RoundCause (Err fault) before after scan = HasPartCause (Err fault) before after

-- the entries after the records that were read before were read and written, to the end of the file; at a fault, some of them
abbrev pub SendsRound : Result (Unit {0}) KeepCommandFault → ℕ → List (List ℕ) → List ℕ → ScanState → Output → Output → Type 0
SendsRound (Ok done) after read file scan start written =
    (more : List (List ℕ)) × (contents file ≡ Records (read ++ more)) × HasRead (read ++ more) file scan
    × Sent (entries_above after read more) start written
SendsRound (Err fault) after read file scan start written =
    (more : List (List ℕ)) × BeginsWith (read ++ more) file × EndsWriting fault file (entries_above after read more) start written

-- a file that has grown meanwhile was read to its end, and its entries above the commit number were written
pub record WritesGrown (holds : List ℕ → Type 0) (after : ℕ) (file : List ℕ) (scan : ScanState) (start written : Output) : Type 0 where
  pub later : List ℕ
  pub since : Later file later
  pub held : holds later
  pub records : List (List ℕ)
  pub whole : contents later ≡ Records records
  pub place : HasRead records later scan
  pub sent : Sent (entries_above after [] records) start written

-- a fault ended the writing of the entries of a file that grows; the later file begins with the records of these entries
pub record Breaks (fault : KeepCommandFault) (follows : Bool) (after : ℕ) (file : List ℕ) (start written : Output) : Type 0 where
  pub later : List ℕ
  pub since : GrowsTo follows file later
  pub records : List (List ℕ)
  pub begins : BeginsWith records later
  pub ends : EndsWriting fault later (entries_above after [] records) start written

-- one more round
abbrev pub GrowsBy : (List ℕ → Type 0) → Result (Unit {0}) KeepCommandFault → ℕ → List ℕ → ScanState → Output → Output → Type 0
GrowsBy holds (Ok done) after file scan start written = WritesGrown holds after file scan start written
GrowsBy holds (Err fault) after file scan start written = Breaks fault true after file start written

-- the outcome of all rounds: nobody waits for more, or a fault ended them
pub record Reaches (holds : List ℕ → Type 0) (follows : Bool) (after : ℕ) (file : List ℕ) (start written : Output) : Type 0 where
  pub later : List ℕ
  pub since : GrowsTo follows file later
  pub held : holds later
  pub records : List (List ℕ)
  pub whole : contents later ≡ Records records
  pub sent : Sent (entries_above after [] records) start written

abbrev pub EndsRounds : (List ℕ → Type 0) → Result (Unit {0}) KeepCommandFault → Bool → ℕ → List ℕ → Output → Output → Type 0
EndsRounds holds (Ok done) follows after file start written = Reaches holds follows after file start written
EndsRounds holds (Err fault) follows after file start written = Breaks fault follows after file start written
