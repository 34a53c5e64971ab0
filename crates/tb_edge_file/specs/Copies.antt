-- What is copied of a file into a new one, up to its first damage, and what is reported of it.
use Rattle.std.specs.Prelude.{ℕ, Bool, true, false, zero, suc, ◌≡◌, ◌==◌, if◌then◌else◌, ◌-◌, List, [], ◌∷◌, ◌++◌, length, codes, Option, None, Some, Result, Ok, Err, OnOk, IfErr, MatchResult, refl}
use Rattle.std.specs.Fmt.{decimal, digits}
use Rattle.tb_records.specs.Transport.{Output}
use Rattle.tb_file_journal.specs.declared.devices.Device as devices
use Rattle.tb_file_journal.specs.declared.faults.JournalFault.{JournalFault}
use Rattle.tb_file_journal.specs.Device.{LeavesOnly}
use Rattle.tb_file.specs.declared.faults.SalvageFault.{SalvageFault}
use Rattle.tb_file.specs.declared.faults.SalvageFault.TheVariants.{Old, New}
use Rattle.tb_file.specs.declared.faults.StartFault.{StartFault}
use Rattle.tb_file.specs.declared.reading_on.ReadOn.{ReadOn}
use Rattle.tb_file.specs.declared.recovering.Rules.{Rules}
use Rattle.tb_file.specs.declared.salvaging.NotSalvaged.{NotSalvaged}
use Rattle.tb_file.specs.declared.salvaging.Salvaged.{Salvaged}
use Rattle.tb_file.specs.Keeping.{History, Keeping, Keeps, history_state}
use Rattle.tb_file.specs.Creating.{IsDiskUntouched}
use Rattle.tb_file.specs.Reading.{RulesAnswer}
use Rattle.tb_file.specs.ReadingOn.{IsReadOn, LeavesLonger}
use Rattle.tb_file.specs.Recovering.{HasStartCause}
use Rattle.tb_machine.specs.Histories.{State}
use Rattle.tb_file.specs.Salvaging.{IsHistoryTaken, IsNewKeeper, IsUnsalvaged, MayBeSalvaged, HasNewCause, salvaged_device, why_old, why_new}
use Rattle.tb_edge_file.specs.declared.copies.Copied.{Copied}
use Rattle.tb_edge_file.specs.declared.rescues.Finished.{Finished}
use Rattle.tb_edge_file.specs.declared.rescues.Rescued.{Rescued}
use Rattle.tb_edge_file.specs.declared.faults.Damage.{Damage}
use Rattle.tb_edge_file.specs.declared.faults.Damage.TheVariants.{Block}
use Rattle.tb_edge_file.specs.declared.faults.KeepCommandFault.{KeepCommandFault}
use Rattle.tb_edge_file.specs.declared.faults.Loss.{Loss}
use Rattle.tb_edge_file.specs.declared.faults.KeepCommandFault.TheVariants.{Damaged, Lost, Opening, Making, Naming, NotAJournal}
use Rattle.tb_edge_file.specs.declared.mending.Mended.{Mended}
use Rattle.tb_edge_file.specs.Ends.{FileOutput, KnownFiles, KnownReading, OpenerOutput, opener_output, reading_of}
use Rattle.tb_edge_file.specs.Mending.{mended_device, mended_reading}
use Rattle.tb_edge_file.specs.Naming.{Names}
use Rattle.tb_edge_file.specs.Outcomes.{FileOutcome, PrintsWhole, PrintsText, IsMeasured, Opens}
use Rattle.tb_edge_file.specs.ExitStatuses.{damage_text, disk_fault, new_fault, started_fault}
use Rattle.tb_edge_file.specs.Summaries.{line_before, behind_text}

-- what is damaged, if that is the fault
abbrev pub damage_by : KeepCommandFault → Option Damage
damage_by (Damaged damage) = Some damage
damage_by fault = None

-- what is damaged at the end of a copy: nothing at the end of a whole file
abbrev pub damage_of : Option StartFault → Option Damage
damage_of None = None
damage_of (Some fault) = damage_by (started_fault fault)

-- the last line: the bytes after the entries of a whole file; or those that are lost from the damage on, and where and what that is
abbrev pub last_line : Copied → Option Damage → List ℕ
last_line c None = codes "bytes after the records " ++ (decimal c.behind ++ (behind_text c.behind ++ 10 ∷ []))
last_line c (Some damage) =
    codes "bytes lost "
    ++ (decimal c.behind ++ (codes " after byte " ++ (decimal c.end ++ (codes ": Damaged: " ++ (damage_text damage ++ 10 ∷ [])))))

abbrev pub copied_text : Copied → List ℕ
copied_text c =
    line_before (codes "entries ") c.entries
    (line_before (codes "last commit ") c.entries
    (line_before (codes "last time ") c.time (last_line c c.damage)))

-- what is reported of a file of so many bytes that was copied
abbrev pub copied_of : {N : Type 0} → ℕ → Salvaged N → Copied
copied_of len salvaged = record {
  entries = salvaged.keeper.state.commit;
  time = salvaged.keeper.state.books.time;
  end = salvaged.end;
  behind = len - salvaged.end - 4;
  damage = damage_of salvaged.stop;
}

-- what is lost of a damaged file of which this was copied: the bytes after the damage that are in no block that was taken. None if there are none
abbrev pub lost_bytes : Copied → Option Damage → Option Loss
lost_bytes c None = None
lost_bytes c (Some damage) = if c.behind == 0 then None else Some (record { bytes = c.behind; at = c.end })

abbrev pub loss_of : Copied → Option Loss
loss_of c = lost_bytes c c.damage

-- a salvage that was reported is done if nothing is lost
abbrev pub loss_outcome : Option Loss → FileOutcome
loss_outcome None = Ok tt
loss_outcome (Some loss) = Err (Lost loss)

abbrev pub salvage_outcome : Copied → FileOutcome → FileOutcome
salvage_outcome c (Ok done) = loss_outcome (loss_of c)
salvage_outcome c (Err fault) = Err fault

-- one more line if entries were read on after the damage: how many, and from which offset on
abbrev pub read_on_line : ℕ → ℕ → List ℕ
read_on_line zero first = []
read_on_line (suc n) first = codes "read on " ++ (decimal (suc n) ++ (codes " of the entries from byte " ++ (decimal first ++ 10 ∷ [])))

abbrev pub rescued_text : Rescued → List ℕ
rescued_text r = copied_text r.copied ++ read_on_line r.more r.first

-- what is reported then, by the state after all entries: the bytes of the blocks that were read on are not lost
abbrev pub rescued_of : Copied → State → ReadOn → Rescued
rescued_of c S on = record {
  copied = record c { entries = S.commit; time = S.books.time; behind = c.behind - on.bytes };
  more = S.commit - c.entries;
  first = on.first;
}

-- what was copied of a file was printed, and the outcome is that of its loss
pub record Reports (r : Rescued) (outcome : FileOutcome) (start written : Output) : Type 0 where
  pub reported : FileOutcome
  pub prints : PrintsText (rescued_text r) reported start written
  pub outcome_is : outcome ≡ salvage_outcome r.copied reported

-- the new file keeps a history whose records were copied, up to the first that cannot be, and this is reported: how many entries it has, the
-- time of the last, where they end, and how much is after them in a file of so many bytes
pub record IsCopy {N : Type 0} (its : devices.Ghosts N) (holds : List ℕ → Type 0) (len : ℕ) (salvaged : Salvaged N) (c : Copied) : Type 0 where
  pub history : History
  pub keeper : IsNewKeeper its.tells its.disk history salvaged.keeper
  pub taken : (file : List ℕ) → holds file → IsHistoryTaken history salvaged.end salvaged.stop file
  pub entries : c.entries ≡ length history.entries
  pub time : c.time ≡ (history_state history).books.time
  pub end : c.end ≡ salvaged.end
  pub behind : c.behind ≡ len - salvaged.end - 4
  pub damage : c.damage ≡ damage_of salvaged.stop

-- why a copy that ended so is refused: it is not, if the file need not be whole
abbrev pub refused_by : {F : Type 0} → Bool → Option F → Option F
refused_by true stop = stop
refused_by false stop = None

-- a new file with what was copied of a whole file
abbrev pub all_copied : {N : Type 0} → Copied → N → Finished N
all_copied c device = record { device = device; rescued = record { copied = c; more = 0; first = 0 } }

module _ {E : Type 0} (its : devices.Ghosts E) where
  -- the new file has what was copied; or the file is refused, and it is reported what is damaged
  abbrev pub EndsCopy : {N : Type 0} → Option StartFault → Copied → N → Result (Finished N) KeepCommandFault → E → E → Type 0
  EndsCopy None c device finished from after = (finished ≡ Ok (all_copied c device)) × (after ≡ from)
  EndsCopy (Some fault) c device finished from after = (named : KeepCommandFault) × (finished ≡ Err named) × Names its (started_fault fault) named from after

  -- a fault of the file, with what is known of it; or one of the new file
  abbrev pub NamesCopy : SalvageFault → KeepCommandFault → E → E → Type 0
  NamesCopy (Old fault) named from after = Names its (started_fault fault) named from after
  NamesCopy (New fault) named from after = (named ≡ new_fault (started_fault fault)) × (after ≡ from)

  -- the first record of a file was read, which is as it was
  pub record IsHeadRead (rules : Result Rules StartFault) (from after : E) : Type 0 where
    pub rules_are : (file : List ℕ) → its.holds from file → RulesAnswer rules file
    pub same : (file : List ℕ) → its.holds from file → its.holds after file
    pub untouched : its.tells → IsDiskUntouched (its.disk from) (its.disk after)
    pub cause : its.tells → HasStartCause rules (its.disk from) (its.disk after)

module _ {E : Type 0} (its : KnownReading E) {D : Type 0} (new_file : devices.Ghosts D) where
  -- a file was read once, and is as it was; what a crash at any moment may leave of the new one, and why it is not read or written further
  pub record IsCopying (result : Result (Salvaged D) (NotSalvaged D)) (into : D) (from after : E) : Type 0 where
    pub unsalvaged : (file : List ℕ) → its.device.holds from file → IfErr result (λ failed. IsUnsalvaged failed.fault file)
    pub any_moment : new_file.tells → LeavesOnly (new_file.disk into) (new_file.disk (salvaged_device result)) (MayBeSalvaged (its.device.holds from) (new_file.disk into))
    pub cause_new : new_file.tells → HasNewCause (why_new result) (new_file.disk into) (new_file.disk (salvaged_device result))
    pub same : (file : List ℕ) → its.device.holds from file → its.device.holds after file
    pub untouched : its.device.tells → IsDiskUntouched (its.device.disk from) (its.device.disk after)
    pub cause_old : its.device.tells → HasStartCause (why_old result) (its.device.disk from) (its.device.disk after)

  -- a file of so many bytes was read on after its damage, also after its closed latch: the new one goes on with each next entry that is there; or
  -- why it is not read or written further
  pub record Rescues (len : ℕ) (salvaged : Salvaged D) (finished : Result (Finished D) KeepCommandFault) (before after : E) : Type 0 where
    pub looked : E
    pub looks : (file : List ℕ) → its.whole before file → its.whole looked file
    pub all : (file : List ℕ) → its.device.holds looked file → its.whole looked file
    pub between : E
    pub result : Result ReadOn SalvageFault
    pub keeper : Keeping D
    pub on : OnOk result (IsReadOn new_file.tells new_file.disk (its.device.holds looked) salvaged.end salvaged.keeper keeper)
    pub any_moment : new_file.tells → (h : History) → Keeps new_file.disk h salvaged.keeper
        → LeavesLonger h (new_file.disk salvaged.keeper.journal.device) (new_file.disk keeper.journal.device)
    pub ends : MatchResult result
        (λ it. (finished ≡ Ok (record { device = keeper.journal.device; rescued = rescued_of (copied_of len salvaged) keeper.state it })) × (after ≡ between))
        (λ fault. (named : KeepCommandFault) × (finished ≡ Err named) × NamesCopy its.device fault named between after)

  -- a copy of a file that is to be whole ends there, and any other is read on
  abbrev pub EndsOrReadsOn : Bool → ℕ → Salvaged D → Result (Finished D) KeepCommandFault → E → E → Type 0
  EndsOrReadsOn true len salvaged finished before after =
      EndsCopy its.device (refused_by true salvaged.stop) (copied_of len salvaged) salvaged.keeper.journal.device finished before after
  EndsOrReadsOn false len salvaged finished before after = Rescues len salvaged finished before after

  -- the new file keeps what was copied, or the file is refused; or why there is no new file, or one not to its end
  abbrev pub CopiesBy : Result (Salvaged D) (NotSalvaged D) → ℕ → Bool → Result (Finished D) KeepCommandFault → E → E → E → Type 0
  CopiesBy (Ok salvaged) len whole finished from before after =
      IsCopy new_file (its.device.holds from) len salvaged (copied_of len salvaged) × EndsOrReadsOn whole len salvaged finished before after
  CopiesBy (Err failed) len whole finished from before after =
      (named : KeepCommandFault) × (finished ≡ Err named) × NamesCopy its.device failed.fault named before after

  -- a file of so many bytes was copied
  pub record CopiesLong (len : ℕ) (whole : Bool) (finished : Result (Finished D) KeepCommandFault) (into : D) (before after : E) : Type 0 where
    pub result : Result (Salvaged D) (NotSalvaged D)
    pub between : E
    pub copying : IsCopying result into before between
    pub copies : CopiesBy result len whole finished before between after

  -- a file's length was asked for, and then it was copied
  pub record CopiesFile (whole : Bool) (finished : Result (Finished D) KeepCommandFault) (into : D) (before after : E) : Type 0 where
    pub len : Result ℕ JournalFault
    pub between : E
    pub asked : IsMeasured its.device its.whole len before between
    pub copies : MatchResult len (λ n. CopiesLong n whole finished into between after) (λ fault. (finished ≡ Err (disk_fault fault)) × (after ≡ between))

-- a file that need not be whole, and is no journal by its first bytes, is read as one
abbrev pub is_mended : Bool → KeepCommandFault → Bool
is_mended false (NotAJournal kind) = true
is_mended whole fault = false

-- if such a file was copied, it is reported last that its first bytes are not a journal's
abbrev pub mended_line : List ℕ
mended_line = codes "damaged magic: the first 8 bytes are not a journal's\n"

-- the same if something of it is lost, which is the outcome then
abbrev pub or_lost : Loss → FileOutcome → FileOutcome
or_lost loss (Ok done) = Err (Lost loss)
or_lost loss (Err fault) = Err fault

abbrev pub NotesMended : FileOutcome → FileOutcome → Output → Output → Type 0
NotesMended (Ok done) outcome start written = PrintsWhole mended_line outcome start written
NotesMended (Err (Lost loss)) outcome start written = (printed : FileOutcome) × PrintsWhole mended_line printed start written × (outcome ≡ or_lost loss printed)
NotesMended (Err fault) outcome start written = (outcome ≡ Err fault) × (written ≡ start)

module _ {O D E : Type 0} (its : KnownFiles O D E) (new : List ℕ) where
  -- a new file with all that was copied got its name, and only then that was printed; or it did not get it, and nothing was
  abbrev pub NamesCopied : Finished D → FileOutcome → OpenerOutput O → OpenerOutput O → Type 0
  NamesCopied finished outcome first last =
      Opens Naming (its.opener.names_new first.opener finished.device new) last.opener outcome (last.sink ≡ first.sink)
      (λ done. Reports finished.rescued outcome first.sink last.sink)

  -- the same, unless a file was not copied to its end: then no name was given, and nothing was printed
  abbrev pub FinishesCopy : Result (Finished D) KeepCommandFault → FileOutcome → OpenerOutput O → OpenerOutput O → Type 0
  FinishesCopy (Ok finished) outcome first last = NamesCopied finished outcome first last
  FinishesCopy (Err fault) outcome first last = (outcome ≡ Err fault) × (last.opener ≡ first.opener) × (last.sink ≡ first.sink)

  -- a file was copied into one that was made for a name, which it then got
  pub record CopiesInto {F : Type 0} (reading : KnownReading F) (into : D) (whole : Bool) (outcome : FileOutcome) (from after : F) (first last : OpenerOutput O) : Type 0 where
    pub finished : Result (Finished D) KeepCommandFault
    pub copies : CopiesFile reading its.file whole finished into from after
    pub finishes : FinishesCopy finished outcome first last

  -- a new file was made for a name, and a file was copied into it; or it was not, and nothing was read
  abbrev pub MakesCopy : {F : Type 0} → KnownReading F → O → O → Bool → FileOutcome → FileOutput F → FileOutput F → Type 0
  MakesCopy reading before left whole outcome first last =
      (made : O) × Opens Making (its.opener.makes_new before new) made outcome ((left ≡ made) × (last ≡ first))
      (λ into. CopiesInto reading into whole outcome first.file last.file (opener_output made first.sink) (opener_output left last.sink))

  -- a file was read whole, with the first bytes of a journal in place of its own; if it begins as a ledger's then, it was copied so
  pub record CopiesMended (refused : KeepCommandFault) (outcome : FileOutcome) (from : E) (first last : OpenerOutput O) : Type 0 where
    pub looked : E
    pub looks : (file : List ℕ) → its.whole from file → its.whole looked file
    pub all : (file : List ℕ) → its.reading.holds looked file → its.whole looked file
    pub mended : Mended E
    pub same : mended.device ≡ looked
    pub rules : Result Rules StartFault
    pub between : Mended E
    pub head : IsHeadRead (mended_device its.reading) rules mended between
    pub copied : FileOutcome
    pub after : Mended E
    pub middle : Output
    pub copies : MatchResult rules
        (λ read. MakesCopy (mended_reading its.reading) first.opener last.opener false copied (record { file = between; sink = first.sink }) (record { file = after; sink = middle })
        × NotesMended copied outcome middle last.sink)
        (λ fault. (outcome ≡ Err refused) × (last.opener ≡ first.opener) × (last.sink ≡ first.sink))

  abbrev pub CopiesIf : Bool → KeepCommandFault → FileOutcome → E → OpenerOutput O → OpenerOutput O → Type 0
  CopiesIf true refused outcome from first last = CopiesMended refused outcome from first last
  CopiesIf false refused outcome from first last = (outcome ≡ Err refused) × (last.opener ≡ first.opener) × (last.sink ≡ first.sink)

  -- a file that does not begin as a ledger's is refused, and no new one was made, except if only its first bytes may be wrong
  pub record CopiesRefused (fault : StartFault) (whole : Bool) (outcome : FileOutcome) (from : E) (first last : OpenerOutput O) : Type 0 where
    pub refused : KeepCommandFault
    pub after : E
    pub names : Names its.reading (started_fault fault) refused from after
    pub copies : CopiesIf (is_mended whole refused) refused outcome after first last

  -- the first record of a file was read, and then it was copied into a new one
  pub record CopiesHeaded (whole : Bool) (outcome : FileOutcome) (from : E) (first last : OpenerOutput O) : Type 0 where
    pub rules : Result Rules StartFault
    pub between : E
    pub head : IsHeadRead its.reading rules from between
    pub copies : MatchResult rules (λ read. (after : E)
        × MakesCopy (reading_of its) first.opener last.opener whole outcome (record { file = between; sink = first.sink }) (record { file = after; sink = last.sink }))
        (λ fault. CopiesRefused fault whole outcome between first last)

  -- the file of a name was opened and copied into a new one; or it was not opened, and none was made
  pub record CopiesOver (name : List ℕ) (before left : O) (whole : Bool) (outcome : FileOutcome) (start written : Output) : Type 0 where
    pub middle : O
    pub copies : Opens Opening (its.opener.opens before name) middle outcome ((left ≡ middle) × (written ≡ start))
        (λ from. CopiesHeaded whole outcome from (opener_output middle start) (opener_output left written))

-- rows

pub three_rescued : rescued_text (record { copied = record { entries = 9; time = 19; end = 94; behind = 88; damage = Some (Block 94 None) }; more = 3; first = 182 })
    ≡ codes "entries 9\nlast commit 9\nlast time 19\nbytes lost 88 after byte 94: Damaged: at byte 94\nread on 3 of the entries from byte 182\n"
unfolding digits
three_rescued = refl

pub two_copied : copied_text (record { entries = 2; time = 11; end = 182; behind = 5; damage = None })
    ≡ codes "entries 2\nlast commit 2\nlast time 11\nbytes after the records 5, not committed yet or torn\n"
unfolding digits
two_copied = refl

pub one_copied : copied_text (record { entries = 1; time = 10; end = 94; behind = 88; damage = Some (Block 94 None) })
    ≡ codes "entries 1\nlast commit 1\nlast time 10\nbytes lost 88 after byte 94: Damaged: at byte 94\n"
unfolding digits
one_copied = refl
