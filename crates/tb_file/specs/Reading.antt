-- What is read of a kept file, without a write.
use Rattle.std.specs.Prelude.{ℕ, ◌≡◌, ◌⊎◌, ◌≤◌, ◌^◌, List, [], ◌∷◌, ◌++◌, Option, None, Some, Result, Ok, Err, OnOk, IfErr}
use Rattle.tb_records.specs.declared.faults.FrameFault.TheVariants.{Device}
use Rattle.tb_records.specs.declared.limits.Profile.{Profile}
use Rattle.tb_records.specs.DumpBytes.{head_bytes, IsClients}
use Rattle.tb_records.specs.Transport.{Output, Sent, CutOff}
use Rattle.tb_file_journal.specs.declared.reading.Extent.{Extent}
use Rattle.tb_file_journal.specs.Device.{Disk, FailsNone}
use Rattle.tb_file_journal.specs.Contents.{Records, contents, recorded}
use Rattle.tb_file_journal.specs.Opening.{IsOpenCause, RefusesFile}
use Rattle.tb_file_journal.specs.Reading.{extent_of}
use Rattle.tb_file_journal.specs.Scans.{BeginsWith, HasRead, ScanState}
use Rattle.tb_machine.specs.Histories.{State}
use Rattle.tb_machine.specs.Dumps.{DumpSpells}
use Rattle.tb_file.specs.declared.faults.DumpFault.{DumpFault}
use Rattle.tb_file.specs.declared.faults.DumpFault.TheVariants as dump
use Rattle.tb_file.specs.declared.faults.StartFault.{StartFault}
use Rattle.tb_file.specs.declared.faults.StartFault.TheVariants as start
use Rattle.tb_file.specs.declared.recovering.Rules.{Rules}
use Rattle.tb_file.specs.Keeping.{History, history_state, head_record, IsLedger}
use Rattle.tb_file.specs.Recovering.{StopsOpening, torn_bytes}

abbrev pub rules_of : Profile → ℕ → Rules
rules_of profile clients_max = record { profile = profile; clients_max = clients_max }

-- a record is no head
abbrev pub IsNoHead : List ℕ → Type 0
IsNoHead head =
    (profile : Profile) (clients_max : ℕ) → IsClients clients_max → head ≡ head_record profile clients_max → ⊥

-- the rules that a record names, if it is a head; or it is no head
abbrev pub NamesRules : Option (Profile × ℕ) → List ℕ → Type 0
NamesRules (Some rules) head = head ≡ head_record rules.0 rules.1
NamesRules None head = IsNoHead head

-- for each file that the device reads, and the records that were read of it
abbrev pub OfRead : (List ℕ → Type 0) → ScanState → (List (List ℕ) → List ℕ → Type 0) → Type 0
OfRead holds scan Says = (file : List ℕ) (read : List (List ℕ)) → holds file → HasRead read file scan → Says read file

-- the first record of a file is the head of a ledger of these rules
abbrev pub HasRules : Rules → List ℕ → Type 0
HasRules rules file = BeginsWith (head_record rules.profile rules.clients_max ∷ []) file

-- the first record is no head, or there is no record
abbrev pub BeginsWithNoHead : List ℕ → Type 0
BeginsWithNoHead file =
    (contents file ≡ Records []) ⊎ ((head : List ℕ) × (rest : List (List ℕ)) × BeginsWith (head ∷ rest) file × IsNoHead head)

abbrev pub RulesAnswer : Result Rules StartFault → List ℕ → Type 0
RulesAnswer (Ok rules) file = HasRules rules file
RulesAnswer (Err start.Head) file = BeginsWithNoHead file
RulesAnswer (Err (start.Journal fault)) file = RefusesFile fault file
RulesAnswer (Err fault) file = ⊥

-- the same for all records of a file that is read to its end
abbrev pub WholeRules : Type 0
WholeRules = (rules : Rules) (file : List ℕ) (all : List (List ℕ)) → contents file ≡ Records all → HasRules rules file
    → (rest : List (List ℕ)) × (all ≡ head_record rules.profile rules.clients_max ∷ rest)

abbrev pub WholeNoHead : Type 0
WholeNoHead = (file head : List ℕ) (rest : List (List ℕ)) → contents file ≡ Records (head ∷ rest) → BeginsWithNoHead file → IsNoHead head

-- the file represents a history of these rules, which the machine has applied
pub record IsHistory (rules : Rules) (S : State) (file : List ℕ) : Type 0 where
  pub history : History
  pub stands : IsLedger history file
  pub profile : history.profile ≡ rules.profile
  pub clients : history.clients_max ≡ rules.clients_max
  pub state : S ≡ history_state history

-- no start opens the file: it is not read, it has no head, a record after the head is not that of the next entry, or more torn bytes are after its
-- records than one batch can have
abbrev pub IsNoHistory : StartFault → List ℕ → Type 0
IsNoHistory (start.Journal fault) file = RefusesFile fault file
IsNoHistory start.Head file = BeginsWithNoHead file
IsNoHistory fault file = (rules : Rules) × HasRules rules file × StopsOpening fault rules.profile rules.clients_max file

-- that history and where the records end, or why there is no history
abbrev pub FindsHistory : Result (Rules × State × Extent) StartFault → List ℕ → Type 0
FindsHistory (Ok found) file = IsHistory found.0 found.1 file × (extent_of (contents file) ≡ Ok found.2) × (torn_bytes file ≤ 2 ^ 22)
FindsHistory (Err fault) file = IsNoHistory fault file

-- the records after the first
abbrev pub behind_head : List (List ℕ) → List (List ℕ)
behind_head [] = []
behind_head (head ∷ records) = records

-- the bytes of records, one after another
abbrev pub joined_bytes : List (List ℕ) → List ℕ
joined_bytes [] = []
joined_bytes (bytes ∷ records) = bytes ++ joined_bytes records

-- a dump of records: the head of a dump, and the records after the first
abbrev pub dump_with : Rules → List (List ℕ) → List ℕ
dump_with rules records = head_bytes rules.profile rules.clients_max ++ joined_bytes (behind_head records)

-- a dump of a file
abbrev pub dump_of : Rules → List ℕ → List ℕ
dump_of rules file = dump_with rules (recorded file)

-- such a dump encodes the history that the file represents
abbrev pub DumpIsOfHistory : Type 0
DumpIsOfHistory = (rules : Rules) (h : History) (file : List ℕ) → h.profile ≡ rules.profile → h.clients_max ≡ rules.clients_max → IsLedger h file
    → DumpSpells (dump_of rules file) h.profile h.clients_max h.entries None

-- nothing was sent, or a dump of records that the file begins with
abbrev pub DumpsSome : Rules → List ℕ → Output → Output → Type 0
DumpsSome rules file before after =
    (after ≡ before) ⊎ ((records : List (List ℕ)) × BeginsWith records file × Sent (dump_with rules records) before after)

-- the dump of a file was sent; or the file is not read to its end; or the writer failed, and a prefix of a dump was sent
abbrev pub Dumps : Result (Unit {0}) DumpFault → Rules → List ℕ → Output → Output → Type 0
Dumps (Ok done) rules file before after = (contents file ≡ Records (recorded file)) × Sent (dump_of rules file) before after
Dumps (Err (dump.Journal fault)) rules file before after = RefusesFile fault file × DumpsSome rules file before after
Dumps (Err (dump.Writer fault)) rules file before after =
    (fault ≡ Device) × ((records : List (List ℕ)) × BeginsWith records file × CutOff (dump_with rules records) before after)

-- the cause of a dump's fault: a fault of the journal has a cause from its opening; if the writer failed, no call has failed
abbrev pub IsDumpCause : Disk → Disk → DumpFault → Type 0
IsDumpCause before after (dump.Journal fault) = IsOpenCause before after fault
IsDumpCause before after (dump.Writer fault) = FailsNone before after

pub record HasDumpCause {T : Type 0} (result : Result T DumpFault) (before after : Disk) : Type 0 where
  pub ok : OnOk result (FailsNone before after)
  pub cause : IfErr result (IsDumpCause before after)

-- for a file that is read to its end this is a prefix of its dump
abbrev pub WholeDumps : Type 0
WholeDumps = (rules : Rules) (file : List ℕ) (records : List (List ℕ)) (before after : Output) → contents file ≡ Records (recorded file)
    → BeginsWith records file → CutOff (dump_with rules records) before after → CutOff (dump_of rules file) before after

-- what only private functions cite

abbrev pub RulesIn : Result Rules StartFault → List ℕ → Type 0
RulesIn (Ok rules) head = head ≡ head_record rules.profile rules.clients_max
RulesIn (Err start.Head) head = IsNoHead head
RulesIn (Err fault) head = ⊥
