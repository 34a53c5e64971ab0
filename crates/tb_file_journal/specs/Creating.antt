-- How a journal is created, and what a crash may leave of it.
use Rattle.std.specs.Prelude.{◌≡◌, ◌⊎◌, ◌==◌, ◌&&◌, ◌||◌, nat_eq, ℕ, ◌≤◌, Bool, true, false, if◌then◌else◌, List, [], ◌∷◌, ◌++◌, length, codes, refl, Result, Ok, Err, IfOk, OnOk, IfErr}
use Rattle.std.specs.List.{starts_with}
use Rattle.tb_file_journal.specs.declared.faults.JournalFault.{JournalFault}
use Rattle.tb_file_journal.specs.declared.faults.JournalFault.TheVariants.{Memory, NotEmpty}
use Rattle.tb_file_journal.specs.declared.opening.FileContent.{FileContent}
use Rattle.tb_file_journal.specs.declared.opening.FileContent.TheVariants as content
use Rattle.tb_file_journal.specs.declared.opening.OpenFault.{OpenFault}
use Rattle.tb_file_journal.specs.declared.opening.OpenFault.TheVariants as open_faults
use Rattle.tb_file_journal.specs.declared.opening.NotOpened.{NotOpened}
use Rattle.tb_file_journal.specs.Device.{Disk, IsSettled, LeavesOnly, FailsNone, HasFailed, HasCause}
use Rattle.tb_file_journal.specs.Contents.{magic, NotAJournal, Damaged, Records, contents, journal_of, recorded}
use Rattle.tb_file_journal.specs.Steps.{IsWholeFile}
use Rattle.tb_file_journal.specs.Ready.{Kept, IsReady}
use Rattle.tb_file_journal.specs.Opening.{IsAsBefore}

-- no more bytes than these, each of them 0 or equal to the byte at its place
abbrev pub is_torn_from : List ℕ → List ℕ → Bool
is_torn_from [] first = true
is_torn_from (byte ∷ bytes) [] = false
is_torn_from (byte ∷ bytes) (own ∷ first) = (byte == 0 || byte == own) && is_torn_from bytes first

-- an empty file, or a torn one as a creation may leave it: a journal may be created there
abbrev pub is_blank : List ℕ → Bool
is_blank file = is_torn_from file (journal_of [])

-- what a file has: it is blank, or it begins as a journal does, or it has anything else
abbrev pub file_content : List ℕ → FileContent
file_content file = if is_blank file then content.Blank else if starts_with nat_eq file magic then content.Journal else content.Other

-- a file of at most 12 bytes without a record: it is no journal, its first latch is damaged or missing, or it is a journal without records
pub record IsUnborn (file : List ℕ) : Type 0 where
  pub short : length file ≤ 12
  pub none : (contents file ≡ NotAJournal) ⊎ ((contents file ≡ Damaged 8) ⊎ (contents file ≡ Records []))

-- what a crash may leave of a file while a journal is created there: the file as it was, or, if it was blank, a file without records
abbrev pub MayBeCreated : Disk → List ℕ → Type 0
MayBeCreated before file = IsAsBefore before file ⊎ ((is_blank before.seen ≡ true) × IsUnborn file)

-- why no journal is created if the device did not fail: the file has other content, or it is blank and there is no memory
abbrev pub IsOwnCreateCause : List ℕ → JournalFault → Type 0
IsOwnCreateCause file fault = ((fault ≡ NotEmpty) × (is_blank file ≡ false)) ⊎ ((fault ≡ Memory) × (is_blank file ≡ true))

-- why no journal is created: one of those causes, or the device failed with this fault
abbrev pub IsCreateCause : Disk → Disk → OpenFault → Type 0
IsCreateCause before after (open_faults.Refused why) = ⊥
IsCreateCause before after (open_faults.Device fault) = HasFailed before after fault ⊎ (IsOwnCreateCause before.seen fault × FailsNone before after)

-- a file that is not blank stays as it was at each moment, and the call has no failed sync
abbrev pub IsLeft : Disk → Disk → OpenFault → Type 0
IsLeft before after (open_faults.Device NotEmpty) = (after.seen ≡ before.seen) × LeavesOnly before after (IsAsBefore before) × (after.sound ≡ before.sound)
IsLeft before after other = Unit {0}

-- by the file that the reads are of: it is blank, or it has other content, and the reads of the device that is given back are still of it
abbrev pub CreatesIn : {D : Type 0} → (D → List ℕ → Type 0) → Result (Kept D) (NotOpened D) → List ℕ → Type 0
CreatesIn holds (Ok journal) file = is_blank file ≡ true
CreatesIn holds (Err failed) file = failed.fault ≡ open_faults.Device NotEmpty → (is_blank file ≡ false) × holds failed.device file

-- an error has a cause
pub record HasCreateCause {T : Type 0} (result : Result T OpenFault) (before after : Disk) : Type 0 where
  pub ok : OnOk result (FailsNone before after)
  pub cause : IfErr result (IsCreateCause before after)

-- a journal that has no records, and no waiting records
pub record IsNew {D : Type 0} (disk : D → Disk) (journal : Kept D) : Type 0 where
  pub ready : IsReady disk journal
  pub no_records : recorded (disk journal.device).seen ≡ []
  pub none_waits : journal.waiting ≡ []

-- what a file has: its bytes are durable afterwards
pub record FindsContent (result : Result FileContent JournalFault) (before after : Disk) : Type 0 where
  pub ok : IfOk result (λ found. found ≡ file_content before.seen)
  pub settled : before.sound ≡ true → OnOk result (IsSettled after)
  pub seen : after.seen ≡ before.seen
  pub sound : OnOk result (after.sound ≡ before.sound)
  pub any_moment : LeavesOnly before after (IsAsBefore before)
  pub cause : HasCause result before after

-- the first bytes are written over a blank file
pub record WritesFirst (result : Result (Unit {0}) JournalFault) (before after : Disk) : Type 0 where
  pub ok : OnOk result (IsWholeFile after × (recorded after.seen ≡ []))
  pub settled : IsSettled before → OnOk result (IsSettled after)
  pub any_moment : IsSettled before → LeavesOnly before after IsUnborn
  pub cause : HasCause result before after

-- examples

pub nothing_is_blank : is_blank [] ≡ true
nothing_is_blank = refl

pub some_of_the_first_bytes : is_blank (codes "TBJ") ≡ true
some_of_the_first_bytes = refl

pub zeros_in_their_place : is_blank (codes "TBJ" ++ 0 ∷ 0 ∷ 0 ∷ []) ≡ true
zeros_in_their_place = refl

pub other_bytes : is_blank (codes "TBX") ≡ false
other_bytes = refl

-- a journal without records is blank; one byte more, and it is a journal
pub blank_content : file_content (journal_of []) ≡ content.Blank
blank_content = refl

pub journal_content : file_content (journal_of [] ++ 0 ∷ []) ≡ content.Journal
journal_content = refl

pub other_content : file_content (codes "TBJRNL01 is another") ≡ content.Other
other_content = refl
