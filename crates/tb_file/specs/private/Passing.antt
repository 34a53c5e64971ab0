-- The records of a file as their numbers and times are read: only for private functions.
use Rattle.std.specs.Prelude.{ℕ, ◌≡◌, List, [], ◌∷◌, ◌++◌, length, Option, None, Some, Result, Ok, Err}
use Rattle.tb_file_journal.specs.Contents.{Records, contents}
use Rattle.tb_file_journal.specs.Opening.{RefusesFile}
use Rattle.tb_file_journal.specs.Scans.{BeginsWith, HasRead, ScanState}
use Rattle.tb_machine.specs.declared.entries.Entry.{Entry}
use Rattle.tb_machine.specs.Recording.{IsRecord}
use Rattle.tb_file.specs.declared.faults.StartFault.{StartFault}
use Rattle.tb_file.specs.declared.faults.StartFault.TheVariants as start
use Rattle.tb_file.specs.Quick.{AreOrdered, StopsPlace, misplaced}

-- a record that was read as that of the next entry: the time of that entry
abbrev pub ReadsPlaced : Result ℕ StartFault → ℕ → ℕ → List ℕ → Type 0
ReadsPlaced (Ok next) place time bytes = (e : Entry) × IsRecord bytes e × (misplaced place time e ≡ None) × (next ≡ e.time)
ReadsPlaced (Err fault) place time bytes = StopsPlace fault place time bytes

-- after the records that were read one more was read, whose entry follows one of this time; or there is no further record
abbrev pub PassesNext : Result (Option ℕ) StartFault → ℕ → List (List ℕ) → List ℕ → ScanState → Type 0
PassesNext (Ok (Some next)) time read file after =
    (bytes : List ℕ) × HasRead (read ++ bytes ∷ []) file after × ReadsPlaced (Ok next) (length read) time bytes
PassesNext (Ok None) time read file after = (contents file ≡ Records read) × HasRead read file after
PassesNext (Err (start.Journal fault)) time read file after = RefusesFile fault file
PassesNext (Err fault) time read file after = (bytes : List ℕ) × BeginsWith (read ++ bytes ∷ []) file × StopsPlace fault (length read) time bytes

-- all records after those that were read, or those before the first one that is refused
abbrev pub PassesAll : Result ℕ StartFault → List (List ℕ) → List ℕ → ScanState → Type 0
PassesAll (Ok last) read file after =
    (records : List (List ℕ)) × (contents file ≡ Records (read ++ records)) × HasRead (read ++ records) file after × AreOrdered (length read) 0 records last
PassesAll (Err (start.Journal fault)) read file after = RefusesFile fault file
PassesAll (Err fault) read file after =
    (records : List (List ℕ)) × (last : ℕ) × (bytes : List ℕ) × BeginsWith ((read ++ records) ++ bytes ∷ []) file
    × AreOrdered (length read) 0 records last × StopsPlace fault (length (read ++ records)) last bytes
