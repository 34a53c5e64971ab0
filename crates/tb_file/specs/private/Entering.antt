-- The records of a file as they are read and entered: only for private functions.
use Rattle.std.specs.Prelude.{ℕ, Bool, true, false, ◌≡◌, List, [], ◌∷◌, ◌++◌, Result, Ok, Err}
use Rattle.tb_file_journal.specs.declared.reading.Extent.{Extent}
use Rattle.tb_file_journal.specs.Device.{Disk}
use Rattle.tb_file_journal.specs.Contents.{Records, contents}
use Rattle.tb_file_journal.specs.Opening.{RefusesFile}
use Rattle.tb_file_journal.specs.Scans.{BeginsWith, HasRead, ScanState}
use Rattle.tb_machine.specs.Histories.{State}
use Rattle.tb_file.specs.declared.faults.StartFault.{StartFault}
use Rattle.tb_file.specs.declared.faults.StartFault.TheVariants as start
use Rattle.tb_file.specs.declared.recovering.Rules.{Rules}
use Rattle.tb_file.specs.Keeping.{head_record}
use Rattle.tb_file.specs.Recovering.{RecordsLead, StopsAt, AppliesRecord, AppliesRecords, StopsReading, HasStartCause, ReplaysJournal}
use Rattle.tb_file.specs.Reading.{HasRules, RulesAnswer}
use Rattle.tb_file_journal.specs.Reading.{extent_of}

-- the cause of a fault, if some records were read before
abbrev pub ReadCause : {T : Type 0} → Result T StartFault → ScanState → Disk → Disk → Type 0
ReadCause result scan before after = (read : List (List ℕ)) → HasRead read before.seen scan → HasStartCause result before after

-- the same, if nothing was read
abbrev pub UnreadCause : {T : Type 0} → Result T StartFault → ScanState → Disk → Disk → Type 0
UnreadCause result scan before after = HasRead [] before.seen scan → HasStartCause result before after

-- the records of a file that has a head of these rules and nothing after it
abbrev pub head_of : Rules → List (List ℕ)
head_of rules = head_record rules.profile rules.clients_max ∷ []

-- the same, if the head was read, which names these rules
abbrev pub HeadCause : {T : Type 0} → Result T StartFault → Rules → ScanState → Disk → Disk → Type 0
HeadCause result rules scan before after = HasRead (head_of rules) before.seen scan → HasStartCause result before after

-- for each file that the device reads, and of which these records were read
abbrev pub OfBehind : (List ℕ → Type 0) → List (List ℕ) → ScanState → (List ℕ → Type 0) → Type 0
OfBehind holds records scan Says = (file : List ℕ) → holds file → HasRead records file scan → Says file

-- the head was read, or there is no record
abbrev pub ReadsHead : Result Bool StartFault → Rules → ScanState → List ℕ → Type 0
ReadsHead (Ok true) rules after file = HasRead (head_of rules) file after
ReadsHead (Ok false) rules after file = (contents file ≡ Records []) × HasRead [] file after
ReadsHead (Err fault) rules after file = StopsReading fault rules.profile rules.clients_max file

-- after the records that were read one more was read and entered, or there is no further record
abbrev pub EntersNextRecord : Result Bool StartFault → List (List ℕ) → List ℕ → ScanState → State → State → Type 0
EntersNextRecord (Ok true) read file after S T = (bytes : List ℕ) × HasRead (read ++ bytes ∷ []) file after × AppliesRecord (Ok tt) S bytes T
EntersNextRecord (Ok false) read file after S T = (contents file ≡ Records read) × HasRead read file after × (T ≡ S)
EntersNextRecord (Err (start.Journal fault)) read file after S T = RefusesFile fault file × BeginsWith read file
EntersNextRecord (Err fault) read file after S T = (bytes : List ℕ) × BeginsWith (read ++ bytes ∷ []) file × StopsAt fault S bytes

-- all records after those that were read, or those before the first one that is not entered
abbrev pub EntersAll : Result (Unit {0}) StartFault → List (List ℕ) → List ℕ → ScanState → State → State → Type 0
EntersAll (Ok done) read file after S T =
    (records : List (List ℕ)) × (contents file ≡ Records (read ++ records)) × HasRead (read ++ records) file after × RecordsLead S records T
EntersAll (Err (start.Journal fault)) read file after S T = RefusesFile fault file × BeginsWith read file
EntersAll (Err fault) read file after S T =
    (records : List (List ℕ)) × (U : State) × BeginsWith (read ++ records) file × AppliesRecords (Err fault) S records U

-- the machine after the records that follow the head of a file of these rules
abbrev pub FindsBehind : Result (State × Extent) StartFault → Rules → List ℕ → Type 0
FindsBehind result rules file = HasRules rules file × ReplaysJournal result rules.profile rules.clients_max file

-- the head was read, and names rules
abbrev pub FindsHeadRules : Result Rules StartFault → ScanState → List ℕ → Type 0
FindsHeadRules (Ok rules) after file = HasRead (head_of rules) file after
FindsHeadRules (Err fault) after file = RulesAnswer (Err fault) file

-- a file without records has a new machine
abbrev pub ReplaysEmpty : Result (State × Extent) StartFault → Rules → Extent → List ℕ → Type 0
ReplaysEmpty result rules extent file =
    contents file ≡ Records [] → BeginsWith [] file → extent_of (contents file) ≡ Ok extent → ReplaysJournal result rules.profile rules.clients_max file
