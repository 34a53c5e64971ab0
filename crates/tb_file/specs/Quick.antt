-- What a quick check reads of a kept file: the numbers and times of its entries, without building the ledger.
use Rattle.std.specs.Prelude.{ℕ, ◌≡◌, ◌+◌, ◌≤◌, ◌^◌, ◌==◌, ◌&&◌, not, max, nat_le, if◌then◌else◌, List, [], ◌∷◌, ◌++◌, map, length, Option, None, Some, Result, Ok, Err}
use Rattle.tb_records.specs.Messages.{count}
use Rattle.tb_records.specs.DumpBytes.{IsClients}
use Rattle.tb_records.specs.declared.limits.TheConstants.{LAST_MOMENT}
use Rattle.tb_file_journal.specs.declared.reading.Extent.{Extent}
use Rattle.tb_file_journal.specs.Contents.{Records, contents}
use Rattle.tb_file_journal.specs.Opening.{RefusesFile}
use Rattle.tb_file_journal.specs.Reading.{extent_of}
use Rattle.tb_file_journal.specs.Scans.{BeginsWith}
use Rattle.tb_machine.specs.declared.entries.Entry.{Entry}
use Rattle.tb_machine.specs.declared.restoring.Unfit.{Unfit}
use Rattle.tb_machine.specs.declared.restoring.Unfit.TheVariants.{Commit, Time}
use Rattle.tb_machine.specs.Dumps.{dumped}
use Rattle.tb_machine.specs.Recording.{IsRecord}
use Rattle.tb_file.specs.declared.faults.StartFault.{StartFault}
use Rattle.tb_file.specs.declared.faults.StartFault.TheVariants as start
use Rattle.tb_file.specs.declared.recovering.Rules.{Rules}
use Rattle.tb_file.specs.Keeping.{History, history_state, head_record, AreRecorded, IsLedger}
use Rattle.tb_file.specs.Reading.{BeginsWithNoHead, rules_of}
use Rattle.tb_file.specs.Recovering.{IsNoRecord, IsNotOfFile, IsTornTooLong, torn_bytes}

-- the first check that an entry fails, if it must have this commit number and follow an entry of this time. It does not check that the request is
-- new: that takes the ledger
abbrev pub misplaced : ℕ → ℕ → Entry → Option Unfit
misplaced place time e =
    if not (e.commit == place) then Some Commit
    else if not (nat_le (time + max (count e.request.body) 1) e.time && nat_le e.time LAST_MOMENT) then Some Time
    else None

-- entries whose commit numbers go up by one from this one on, and whose times rise far enough
abbrev pub AreInOrder : ℕ → ℕ → List Entry → Type 0
AreInOrder place time [] = Unit {0}
AreInOrder place time (e ∷ es) = (misplaced place time e ≡ None) × AreInOrder (place + 1) e.time es

-- the time of the last of them; without entries, the time before them
abbrev pub last_time : ℕ → List Entry → ℕ
last_time time [] = time
last_time time (e ∷ es) = last_time e.time es

-- records of such entries, and the time of the last
pub record AreOrdered (place time : ℕ) (records : List (List ℕ)) (last : ℕ) : Type 0 where
  pub entries : List Entry
  pub in_order : AreInOrder place time entries
  pub recorded_are : AreRecorded entries
  pub spelled : records ≡ map dumped entries
  pub last_is : last ≡ last_time time entries

-- the file's records are a head of these rules, and those of entries from commit 1 on, in order
pub record IsInOrder (rules : Rules) (last : ℕ) (file : List ℕ) : Type 0 where
  pub clients : IsClients rules.clients_max
  pub records : List (List ℕ)
  pub reads : contents file ≡ Records (head_record rules.profile rules.clients_max ∷ records)
  pub ordered : AreOrdered 1 0 records last

-- why a record is refused that must be that of an entry of this commit number, after one of this time
abbrev pub StopsPlace : StartFault → ℕ → ℕ → List ℕ → Type 0
StopsPlace (start.Record at fault) place time bytes = (at ≡ place) × IsNoRecord fault bytes
StopsPlace (start.Entry fault) place time bytes = (fault.place ≡ place) × ((e : Entry) × IsRecord bytes e × (misplaced place time e ≡ Some fault.cause))
StopsPlace start.NoMemory place time bytes = Unit {0}
StopsPlace fault place time bytes = ⊥

-- the file begins with a head and records in order, and this is why the next record is refused
pub record StopsOrder (fault : StartFault) (file : List ℕ) : Type 0 where
  pub rules : Rules
  pub records : List (List ℕ)
  pub last : ℕ
  pub bytes : List ℕ
  pub begins : BeginsWith (head_record rules.profile rules.clients_max ∷ (records ++ bytes ∷ [])) file
  pub ordered : AreOrdered 1 0 records last
  pub stops : StopsPlace fault (length records + 1) last bytes

-- no quick check accepts the file: it is not read, it has no head, a record after the head is refused, or more torn bytes are after its records
-- than one batch can have
abbrev pub IsNotInOrder : StartFault → List ℕ → Type 0
IsNotInOrder (start.Journal fault) file = RefusesFile fault file
IsNotInOrder start.Head file = BeginsWithNoHead file
IsNotInOrder start.NoMemory file = Unit {0}
IsNotInOrder (start.TornTooLong at bytes) file = IsTornTooLong at bytes file
IsNotInOrder fault file = StopsOrder fault file

-- the rules, the time of the last entry, and where the records end; or why the file is refused
abbrev pub FindsOrder : Result (Rules × ℕ × Extent) StartFault → List ℕ → Type 0
FindsOrder (Ok found) file = IsInOrder found.0 found.1 file × (extent_of (contents file) ≡ Ok found.2) × (torn_bytes file ≤ 2 ^ 22)
FindsOrder (Err fault) file = IsNotInOrder fault file

-- a file that represents a history has its rules, and its entries in order
abbrev pub HistoriesAreInOrder : Type 0
HistoriesAreInOrder = (h : History) (file : List ℕ) → IsLedger h file → IsInOrder (rules_of h.profile h.clients_max) (history_state h).books.time file

-- so a quick check refuses nothing that a start or a whole check accepts, unless memory runs out or the device fails
abbrev pub QuickRefusesNone : Type 0
QuickRefusesNone = (fault : StartFault) (h : History) (file : List ℕ) → IsLedger h file → torn_bytes file ≤ 2 ^ 22 → IsNotInOrder fault file → IsNotOfFile fault
