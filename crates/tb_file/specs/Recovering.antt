-- How a machine is restored from the records of a file.
use Rattle.std.specs.Prelude.{ℕ, ◌≡◌, ◌⊎◌, ◌+◌, ◌-◌, ◌^◌, ◌<◌, ◌≤◌, IsTrue, List, [], ◌∷◌, ◌++◌, map, fold, length, drop, refl, Some, Result, Ok, Err, OnOk, IfErr}
use Rattle.tb_records.specs.declared.limits.Profile.{Profile}
use Rattle.tb_records.specs.DumpBytes.{IsClients}
use Rattle.tb_file_journal.specs.declared.opening.OpenFault.TheVariants as open_faults
use Rattle.tb_file_journal.specs.declared.reading.Extent.{Extent}
use Rattle.tb_file_journal.specs.Device.{Disk, FailsNone}
use Rattle.tb_file_journal.specs.Contents.{Records, contents, journal_of, recorded, records_end}
use Rattle.tb_file_journal.specs.Opening.{IsOpenCause, RefusesFile}
use Rattle.tb_file_journal.specs.Reading.{extent_of}
use Rattle.tb_file_journal.specs.Scans.{BeginsWith}
use Rattle.tb_records.specs.declared.faults.FrameFault.{FrameFault}
use Rattle.tb_records.specs.declared.faults.FrameFault.TheVariants as frame
use Rattle.tb_machine.specs.declared.entries.Entry.{Entry}
use Rattle.tb_machine.specs.declared.restoring.Unfit.{Unfit}
use Rattle.tb_machine.specs.declared.restoring.Unfit.TheVariants as unfit
use Rattle.tb_machine.specs.Histories.{State, start as start_state, step, fits, LegalFrom, after}
use Rattle.tb_machine.specs.Dumps.{dumped}
use Rattle.tb_machine.specs.Recording.{IsRecord, RecordAnswers}
use Rattle.tb_machine.specs.Restoring.{cause_of}
use Rattle.tb_file.specs.declared.faults.StartFault.{StartFault}
use Rattle.tb_file.specs.declared.faults.StartFault.TheVariants as start
use Rattle.tb_file.specs.Keeping.{History, head_record, records_of, IsKeepable, AreRecorded, IsLedger}

-- the records are those of entries that lead from one state to another
pub record RecordsLead (S : State) (records : List (List ℕ)) (T : State) : Type 0 where
  pub entries : List Entry
  pub legal : LegalFrom S entries
  pub state : T ≡ fold step S entries
  pub recorded_are : AreRecorded entries
  pub spelled : records ≡ map dumped entries

-- what is wrong with a record that is not that of an entry: never NoMemory
abbrev pub IsNoRecord : FrameFault → List ℕ → Type 0
IsNoRecord frame.NoMemory bytes = ⊥
IsNoRecord fault bytes = RecordAnswers (Err fault) bytes × ((e : Entry) → IsRecord bytes e → ⊥)

-- the first check that an entry fails: never NoMemory
abbrev pub FailsTest : Unfit → State → Entry → Type 0
FailsTest unfit.NoMemory S e = ⊥
FailsTest cause S e = cause_of S e ≡ Some cause

-- why a record is not restored after a state
abbrev pub StopsAt : StartFault → State → List ℕ → Type 0
StopsAt (start.Record place fault) S bytes = (place ≡ S.commit + 1) × IsNoRecord fault bytes
StopsAt (start.Entry fault) S bytes = (fault.place ≡ S.commit + 1) × ((e : Entry) × IsRecord bytes e × FailsTest fault.cause S e)
StopsAt start.NoMemory S bytes = Unit {0}
StopsAt fault S bytes = ⊥

-- a record that was read as that of an entry
abbrev pub ReadsRecord : Result Entry StartFault → State → List ℕ → Type 0
ReadsRecord (Ok e) S bytes = IsRecord bytes e
ReadsRecord (Err fault) S bytes = StopsAt fault S bytes

-- one record
abbrev pub AppliesRecord : Result (Unit {0}) StartFault → State → List ℕ → State → Type 0
AppliesRecord (Ok done) S bytes T = (e : Entry) × IsRecord bytes e × IsTrue (fits S e) × (T ≡ step S e)
AppliesRecord (Err fault) S bytes T = (T ≡ S) × StopsAt fault S bytes

-- all remaining records, or those before the first one that is not restored
abbrev pub AppliesRecords : Result (Unit {0}) StartFault → State → List (List ℕ) → State → Type 0
AppliesRecords (Ok done) S records T = RecordsLead S records T
AppliesRecords (Err fault) S records T =
    (front : List (List ℕ)) × (bytes : List ℕ) × (rest : List (List ℕ))
    × (records ≡ front ++ bytes ∷ rest) × RecordsLead S front T × StopsAt fault T bytes

-- the head of a ledger of these rules, no head, or the head of a ledger of other rules
abbrev pub HeadRecordAnswers : Result (Unit {0}) StartFault → List ℕ → Profile → ℕ → Type 0
HeadRecordAnswers (Ok done) bytes profile clients_max = bytes ≡ head_record profile clients_max
HeadRecordAnswers (Err start.Head) bytes profile clients_max = (p : Profile) (n : ℕ) → IsClients n → bytes ≡ head_record p n → ⊥
HeadRecordAnswers (Err start.OtherRules) bytes profile clients_max =
    (p : Profile) × (n : ℕ) × (bytes ≡ head_record p n) × ((p ≡ profile) × (n ≡ clients_max) → ⊥)
HeadRecordAnswers (Err fault) bytes profile clients_max = ⊥

-- the records, if there are any, are those of a history of these rules, which the machine has applied
pub record IsRestored (profile : Profile) (clients_max : ℕ) (records : List (List ℕ)) (S : State) : Type 0 where
  pub entries : List Entry
  pub keepable : IsKeepable (record { profile = profile; clients_max = clients_max; entries = entries })
  pub state : S ≡ after profile clients_max entries
  pub spelled : (records ≡ records_of (record { profile = profile; clients_max = clients_max; entries = entries })) ⊎ ((records ≡ []) × (entries ≡ []))

-- one of the records after the head of a ledger of these rules is not restored
abbrev pub StopsBehindHead : StartFault → Profile → ℕ → List ℕ → List (List ℕ) → Type 0
StopsBehindHead fault profile clients_max head rest =
    (head ≡ head_record profile clients_max) × ((T : State) × AppliesRecords (Err fault) (start_state profile clients_max) rest T)

-- why records are not restored: the head, or one after the head of a ledger of these rules
abbrev pub StopsFile : StartFault → Profile → ℕ → List (List ℕ) → Type 0
StopsFile start.NoMemory profile clients_max records = Unit {0}
StopsFile fault profile clients_max records =
    (head : List ℕ) × (rest : List (List ℕ)) × (records ≡ head ∷ rest)
    × (HeadRecordAnswers (Err fault) head profile clients_max ⊎ StopsBehindHead fault profile clients_max head rest)

-- the file was read to its end, and the machine is in the state after its entries
pub record IsRestoredFrom (profile : Profile) (clients_max : ℕ) (file : List ℕ) (S : State) (extent : Extent) : Type 0 where
  pub extent_is : extent_of (contents file) ≡ Ok extent
  pub restored : IsRestored profile clients_max (recorded file) S

-- the file begins with records that are not restored
pub record StopsBeginning (fault : StartFault) (profile : Profile) (clients_max : ℕ) (file : List ℕ) : Type 0 where
  pub records : List (List ℕ)
  pub begins : BeginsWith records file
  pub stops : StopsFile fault profile clients_max records

-- why a file is not restored: it is no journal or is damaged, or a call on the device failed; or the head, or a record after it
abbrev pub StopsReading : StartFault → Profile → ℕ → List ℕ → Type 0
StopsReading (start.Journal fault) profile clients_max file = RefusesFile fault file
StopsReading fault profile clients_max file = StopsBeginning fault profile clients_max file

-- the bytes of a file that are after its records and the latch there: what an uncommitted batch has left
abbrev pub torn_bytes : List ℕ → ℕ
torn_bytes file = length file - records_end (recorded file) - 4

-- if a start cut some of them off, they were set aside before
abbrev pub AreAside : (ℕ → List ℕ → Type 0) → ℕ → List ℕ → Type 0
AreAside saved cut file = 1 ≤ cut → saved (records_end (recorded file) + 4) (drop (records_end (recorded file) + 4) file)

-- more of them than so many, from this place on
pub record IsTornLonger (most at bytes : ℕ) (file : List ℕ) : Type 0 where
  pub reads : contents file ≡ Records (recorded file)
  pub place : at ≡ records_end (recorded file)
  pub torn : bytes ≡ torn_bytes file
  pub many : most < bytes

-- more of them than one batch can have
abbrev pub IsTornTooLong : ℕ → ℕ → List ℕ → Type 0
IsTornTooLong at bytes file = IsTornLonger (2 ^ 22) at bytes file

-- why a file is not opened: it is not restored, or too much would have to be cut off
abbrev pub StopsOpening : StartFault → Profile → ℕ → List ℕ → Type 0
StopsOpening (start.TornTooLong at bytes) profile clients_max file = IsTornTooLong at bytes file
StopsOpening fault profile clients_max file = StopsReading fault profile clients_max file

-- the cause of a fault, by what the device has counted since: a fault of the journal has a cause from its opening. After any other, which is the
-- file's own or out of memory, no call on the device has failed
abbrev pub IsStartCause : Disk → Disk → StartFault → Type 0
IsStartCause before after (start.Journal fault) = IsOpenCause before after fault
IsStartCause before after fault = FailsNone before after

-- an error has a cause, and without an error no call has failed
pub record HasStartCause {T : Type 0} (result : Result T StartFault) (before after : Disk) : Type 0 where
  pub ok : OnOk result (FailsNone before after)
  pub cause : IfErr result (IsStartCause before after)

-- the machine and where the records end, or why the file is not restored
abbrev pub ReplaysJournal : Result (State × Extent) StartFault → Profile → ℕ → List ℕ → Type 0
ReplaysJournal (Ok found) profile clients_max file = IsRestoredFrom profile clients_max file found.0 found.1
ReplaysJournal (Err fault) profile clients_max file = StopsReading fault profile clients_max file

-- what stops records that a file begins with stops all of them
abbrev pub WholeStops : Type 0
WholeStops = (fault : StartFault) (profile : Profile) (clients_max : ℕ) (file : List ℕ) (records all : List (List ℕ))
    → contents file ≡ Records all → BeginsWith records file → StopsFile fault profile clients_max records → StopsFile fault profile clients_max all

-- the records of a history that may be kept are refused only when out of memory
abbrev pub OnlyMemory : Type 0
OnlyMemory = (fault : StartFault) (h : History) → IsKeepable h → StopsFile fault h.profile h.clients_max (records_of h) → fault ≡ start.NoMemory

-- a fault that names nothing of the file: out of memory, or a fault of the device
abbrev pub IsNotOfFile : StartFault → Type 0
IsNotOfFile start.NoMemory = Unit {0}
IsNotOfFile (start.Journal (open_faults.Device fault)) = Unit {0}
IsNotOfFile fault = ⊥

-- a fault that says nothing against the file, and its cause: a call on the device has failed; or no call has, and there is no memory, or the file
-- has its greatest length
abbrev pub IsFromOutside : Disk → Disk → StartFault → Type 0
IsFromOutside before after fault = IsNotOfFile fault × IsStartCause before after fault

-- so a file that represents such a history, with no more torn bytes after it than a batch has, is not refused for its content
abbrev pub FileOnlyMemory : {D : Type 0} → (D → Disk) → Type 0
FileOnlyMemory {D} disk = (fault : StartFault) (h : History) (before after : D) → IsLedger h (disk before).seen → torn_bytes (disk before).seen ≤ 2 ^ 22
    → StopsOpening fault h.profile h.clients_max (disk before).seen → IsStartCause (disk before) (disk after) fault
    → IsFromOutside (disk before) (disk after) fault

-- rows

-- a file at rest has no torn bytes, and two bytes after it are torn
pub none_torn : torn_bytes (journal_of []) ≡ 0
none_torn = refl

pub two_torn : torn_bytes (journal_of [] ++ 1 ∷ 2 ∷ []) ≡ 2
two_torn = refl
