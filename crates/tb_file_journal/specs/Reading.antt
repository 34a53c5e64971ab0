-- What private functions find in the bytes of a journal.
use Rattle.std.specs.Prelude.{◌≡◌, ◌⊎◌, ℕ, ◌+◌, ◌≤◌, true, List, [], ◌∷◌, ◌++◌, length, drop, Option, Some, None, Result, Ok, Err, OnOk, if◌then◌else◌, refl}
use Rattle.std.specs.Int.{w32, from_le_bytes}
use Rattle.tb_file_journal.specs.declared.faults.JournalFault.{JournalFault}
use Rattle.tb_file_journal.specs.declared.reading.Head.{Head}
use Rattle.tb_file_journal.specs.declared.reading.Head.TheVariants as heads
use Rattle.tb_file_journal.specs.declared.reading.Extent.{Extent}
use Rattle.tb_file_journal.specs.declared.reading.Refusal.{Refusal}
use Rattle.tb_file_journal.specs.declared.reading.Refusal.TheVariants as refusals
use Rattle.tb_file_journal.specs.Device.{Disk, IsSettled, LeavesOnly}
use Rattle.tb_file_journal.specs.Contents.{latch_closed, is_closed, Front, Ends, Spoiled, Whole, front, Contents, NotAJournal, Damaged, Records, contents, records_end}
use Rattle.tb_file_journal.specs.declared.opening.OpenFault.{OpenFault}
use Rattle.tb_file_journal.specs.declared.opening.OpenFault.TheVariants as open_faults
use Rattle.tb_file_journal.specs.Opening.{IsAsBefore, refused_as}
use Rattle.tb_file_journal.specs.Scans.{ScanState, IsAhead, HasRead}

-- what is at the head of bytes, without the record itself
abbrev pub head_is : Front → Head
head_is Ends = heads.End
head_is Spoiled = heads.Spoiled
head_is (Whole bytes) = heads.Whole (length bytes)

-- the end and the number of the records, or why a file is refused
abbrev pub extent_of : Contents → Result Extent Refusal
extent_of NotAJournal = Err refusals.NotAJournal
extent_of (Damaged at) = Err (refusals.Damaged at)
extent_of (Records records) = Ok (record { end = records_end records; count = length records })

-- the end and the number of a file's records, or why it is refused
abbrev pub ReadsExtent : Result Extent OpenFault → List ℕ → Type 0
ReadsExtent (Ok extent) file = extent_of (contents file) ≡ Ok extent
ReadsExtent (Err (open_faults.Refused why)) file = contents file ≡ refused_as why
ReadsExtent (Err (open_faults.Device fault)) file = Unit {0}

-- the number of bytes from a place on that decide what is there: the parts of a block that have a fixed length, and the record if the latch is open
abbrev pub asked_bytes : List ℕ → ℕ
asked_bytes (w ∷ x ∷ y ∷ z ∷ a ∷ b ∷ c ∷ rest) = if is_closed w x y z then 11 else 11 + from_le_bytes w32 (a ∷ b ∷ c ∷ 0 ∷ [])
asked_bytes other = 11

-- the state of a window on a file: the bytes that were taken last, and those that were read ahead
pub record ReadAhead : Type 0 where
  pub taken : List ℕ
  pub ahead : List ℕ

-- at least so many bytes from an offset on were read ahead, or all that are left
pub record HasAhead (n at : ℕ) (file ahead : List ℕ) : Type 0 where
  pub same : IsAhead at file ahead
  pub enough : (n ≤ length ahead) ⊎ (ahead ≡ drop at file)

-- the head at an offset is the head of the bytes that were read ahead
pub record FindsHead (at : ℕ) (file ahead : List ℕ) : Type 0 where
  pub same : IsAhead at file ahead
  pub finds : front ahead ≡ front (drop at file)

-- a sync, and a look at what is then durable
pub record LooksKept {T : Type 0} (result : Result T JournalFault) (before after : Disk) : Type 0 where
  pub settled : before.sound ≡ true → OnOk result (IsSettled after)
  pub seen : after.seen ≡ before.seen
  pub any_moment : LeavesOnly before after (IsAsBefore before)

-- a scan before its first record, or no scan if the file is no journal
abbrev pub StartsScan : Option ScanState → List ℕ → Type 0
StartsScan (Some scan) file = HasRead [] file scan
StartsScan None file = contents file ≡ NotAJournal

-- examples

-- a closed latch needs the fixed part only, an open latch the record too
pub asked_at_a_closed_latch : asked_bytes (latch_closed ++ 7 ∷ 7 ∷ 7 ∷ []) ≡ 11
asked_at_a_closed_latch = refl

pub asked_at_an_open_latch : asked_bytes (255 ∷ 255 ∷ 255 ∷ 255 ∷ 2 ∷ 1 ∷ 0 ∷ []) ≡ 269
asked_at_an_open_latch = refl
