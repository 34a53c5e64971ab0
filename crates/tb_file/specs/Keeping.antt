-- What a kept file represents, and what a keeper is that keeps it.
use Rattle.std.specs.Prelude.{ℕ, ◌≡◌, Bool, true, List, [], ◌∷◌, ◌++◌, map, codes, refl}
use Rattle.tb_records.specs.declared.limits.Profile.{Profile}
use Rattle.tb_records.specs.declared.limits.Profile.TheVariants.{Two}
use Rattle.tb_records.specs.Ordered.{Each}
use Rattle.tb_records.specs.DumpBytes.{profile_number, IsClients}
use Rattle.tb_file_journal.specs.Device.{Disk}
use Rattle.tb_file_journal.specs.Contents.{Records, contents, recorded}
use Rattle.tb_file_journal.specs.Ready.{Kept, IsReady}
use Rattle.tb_machine.specs.declared.entries.Entry.{Entry}
use Rattle.tb_machine.specs.Histories.{State, IsLegal, after}
use Rattle.tb_machine.specs.Dumps.{dumped}
use Rattle.tb_machine.specs.Recording.{IsRecord}

-- the rules of a ledger, and the entries that it has had
pub record History : Type 0 where
  pub profile : Profile
  pub clients_max : ℕ
  pub entries : List Entry

abbrev pub history_state : History → State
history_state h = after h.profile h.clients_max h.entries

-- a history with more entries after it
abbrev pub longer : History → List Entry → History
longer h more = record h { entries = h.entries ++ more }

-- record 0 of the file: the text TBK1, the profile's number, and the number of clients that can have a session at one time
abbrev pub head_record : Profile → ℕ → List ℕ
head_record profile clients_max = codes "TBK1" ++ profile_number profile ∷ clients_max ∷ []

-- the records of a history: the head, and one for each entry
abbrev pub records_of : History → List (List ℕ)
records_of h = head_record h.profile h.clients_max ∷ map dumped h.entries

-- each record is that of its entry and of no other
abbrev pub AreRecorded : List Entry → Type 0
AreRecorded entries = Each (λ (e : Entry). IsRecord (dumped e) e) entries

-- a history that a file can represent
pub record IsKeepable (h : History) : Type 0 where
  pub clients : IsClients h.clients_max
  pub legal : IsLegal h.profile h.clients_max h.entries
  pub recorded_are : AreRecorded h.entries

-- the file represents the history
pub record IsLedger (h : History) (file : List ℕ) : Type 0 where
  pub reads : contents file ≡ Records (records_of h)
  pub keepable : IsKeepable h

-- a journal on a device, the state of the machine next to it, how many torn bytes a start cut off, and whether no call of `keep` has
-- failed
pub record Keeping (D : Type 0) : Type 0 where
  pub journal : Kept D
  pub state : State
  pub cut : ℕ
  pub usable : Bool

-- a keeper that may serve, whatever the device: no call of it has failed, and no commit of its journal
pub record IsUsable {D : Type 0} (keeper : Keeping D) : Type 0 where
  pub kept : keeper.usable ≡ true
  pub journal : keeper.journal.usable ≡ true

-- the journal is ready, and nothing waits in it
pub record IsFresh {D : Type 0} (disk : D → Disk) (keeper : Keeping D) : Type 0 where
  pub ready : IsReady disk keeper.journal
  pub none_waits : keeper.journal.waiting ≡ []

-- the file of a keeper represents the history that its machine has applied
pub record Keeps {D : Type 0} (disk : D → Disk) (h : History) (keeper : Keeping D) : Type 0 where
  pub fresh : IsFresh disk keeper
  pub file : recorded (disk keeper.journal.device).seen ≡ records_of h
  pub state : keeper.state ≡ history_state h
  pub keepable : IsKeepable h

-- rows

pub head_of_profile_two : head_record Two 8 ≡ 84 ∷ 66 ∷ 75 ∷ 49 ∷ 2 ∷ 8 ∷ []
head_of_profile_two = refl
