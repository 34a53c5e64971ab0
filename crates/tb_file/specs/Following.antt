-- The entries of a file above a commit number, as the file grows.
use Rattle.std.specs.Prelude.{ℕ, ◌≡◌, ◌+◌, ◌-◌, nat_lt, List, [], ◌∷◌, ◌++◌, length, drop, flat_map, refl, Result, Ok, Err}
use Rattle.std.specs.List.{filter}
use Rattle.tb_records.specs.declared.faults.FrameFault.TheVariants.{Device}
use Rattle.tb_records.specs.Transport.{Output, Sent, CutOff}
use Rattle.tb_file_journal.specs.Device.{Disk}
use Rattle.tb_file_journal.specs.Contents.{Records, contents}
use Rattle.tb_file_journal.specs.Opening.{RefusesFile}
use Rattle.tb_file_journal.specs.Scans.{BeginsWith, HasRead, ScanState}
use Rattle.tb_machine.specs.declared.entries.Entry.{Entry}
use Rattle.tb_machine.specs.Dumps.{dumped}
use Rattle.tb_file.specs.declared.faults.DumpFault.{DumpFault}
use Rattle.tb_file.specs.declared.faults.DumpFault.TheVariants as dump
use Rattle.tb_file.specs.Keeping.{History, records_of, IsKeepable}
use Rattle.tb_file.specs.Reading.{HasDumpCause, joined_bytes}

-- the bytes of those records after the ones read so far that have a number above `after`. Record 0 is the head, and record n is that of the entry
-- of commit number n
abbrev pub entries_above : ℕ → List (List ℕ) → List (List ℕ) → List ℕ
entries_above after read more = joined_bytes (drop (after + 1 - length read) more)

-- all records after those read so far were read, and those with a number above `after` were written; or the file is not read to its end; or the
-- writer failed, and a prefix was written
abbrev pub WritesEntries : Result ℕ DumpFault → ℕ → List (List ℕ) → List ℕ → ScanState → Output → Output → Type 0
WritesEntries (Ok count) after read file scan old new =
    (more : List (List ℕ)) × (contents file ≡ Records (read ++ more)) × HasRead (read ++ more) file scan
    × (count ≡ length (read ++ more) - 1) × Sent (entries_above after read more) old new
WritesEntries (Err (dump.Journal fault)) after read file scan old new =
    RefusesFile fault file × ((more : List (List ℕ)) × BeginsWith (read ++ more) file × Sent (entries_above after read more) old new)
WritesEntries (Err (dump.Writer fault)) after read file scan old new =
    (fault ≡ Device) × ((more : List (List ℕ)) × BeginsWith (read ++ more) file × CutOff (entries_above after read more) old new)

-- the cause of a fault, if these records were read before
abbrev pub HasLaterCause : {T : Type 0} → Result T DumpFault → ScanState → Disk → Disk → Type 0
HasLaterCause result scan before after = (read : List (List ℕ)) → HasRead read before.seen scan → HasDumpCause result before after

-- for the records of a history these are the entries with a commit number above `after`
abbrev pub EntriesAreAbove : Type 0
EntriesAreAbove = (after : ℕ) (h : History) → IsKeepable h
    → entries_above after [] (records_of h) ≡ flat_map dumped (filter (λ (e : Entry). nat_lt after e.commit) h.entries)

-- what is written for the first records, and then for those after them, is what is written for all at once: each entry once
abbrev pub EntriesOnce : Type 0
EntriesOnce = (after : ℕ) (read more later : List (List ℕ))
    → entries_above after read more ++ entries_above after (read ++ more) later ≡ entries_above after read (more ++ later)

-- rows

-- after a head, and after the entry of commit number 1
pub above_none : entries_above 0 [] ((1 ∷ []) ∷ (2 ∷ []) ∷ (3 ∷ []) ∷ []) ≡ 2 ∷ 3 ∷ []
above_none = refl

pub above_one : entries_above 1 [] ((1 ∷ []) ∷ (2 ∷ []) ∷ (3 ∷ []) ∷ []) ≡ 3 ∷ []
above_one = refl

-- for a file that has grown by one record since
pub above_one_later : entries_above 1 ((1 ∷ []) ∷ (2 ∷ []) ∷ (3 ∷ []) ∷ []) ((4 ∷ []) ∷ []) ≡ 4 ∷ []
above_one_later = refl

-- a commit number that the file does not have yet
pub above_the_last : entries_above 7 ((1 ∷ []) ∷ []) ((2 ∷ []) ∷ []) ≡ []
above_the_last = refl
