-- How a journal's file is read, record by record.
use Rattle.std.specs.Prelude.{◌≡◌, ℕ, ◌<◌, ◌^◌, Bool, true, false, List, [], ◌∷◌, ◌++◌, length, take, drop, codes, refl, Result, Ok, Err}
use Rattle.tb_file_journal.specs.declared.opening.OpenFault.{OpenFault}
use Rattle.tb_file_journal.specs.declared.opening.OpenFault.TheVariants as open_faults
use Rattle.tb_file_journal.specs.declared.reading.Refusal.TheVariants as refusals
use Rattle.tb_file_journal.specs.Checksum.{byte_on, bit_on}
use Rattle.tb_file_journal.specs.Contents.{Records, latch_closed, block, contents, records_end}
use Rattle.tb_file_journal.specs.Opening.{refused_as, HasOpenCause}
use Rattle.tb_file_journal.specs.Device.{Disk}
use Rattle.tb_file_journal.specs.Growing.{Later}

-- how far a file was read: where the records end, how many they are, the last of them, and the bytes read ahead
pub record ScanState : Type 0 where
  pub end : ℕ
  pub count : ℕ
  pub last : List ℕ
  pub ahead : List ℕ

-- the file begins with these records: cut off after them, with a closed latch there, it represents exactly them
abbrev pub BeginsWith : List (List ℕ) → List ℕ → Type 0
BeginsWith records file = contents (take (records_end records) file ++ latch_closed) ≡ Records records

-- these bytes are those of the file from an offset on, as far as they go
abbrev pub IsAhead : ℕ → List ℕ → List ℕ → Type 0
IsAhead at file ahead = ahead ≡ take (length ahead) (drop at file)

-- what a scan has read of a file
pub record HasRead (records : List (List ℕ)) (file : List ℕ) (scan : ScanState) : Type 0 where
  pub begins : BeginsWith records file
  pub end : scan.end ≡ records_end records
  pub count : scan.count ≡ length records
  pub ahead : IsAhead scan.end file scan.ahead

-- a scan before the first record of a file, or why the file is refused
abbrev pub BeginsScan : Result ScanState OpenFault → List ℕ → Type 0
BeginsScan (Ok scan) file = HasRead [] file scan
BeginsScan (Err (open_faults.Refused why)) file = contents file ≡ refused_as why
BeginsScan (Err (open_faults.Device fault)) file = Unit {0}

-- the next step after these records: one record more, the end, or why the file is refused
abbrev pub ReadsNextRecord : Result Bool OpenFault → List (List ℕ) → List ℕ → ScanState → Type 0
ReadsNextRecord (Ok true) records file scan = HasRead (records ++ scan.last ∷ []) file scan
ReadsNextRecord (Ok false) records file scan = (contents file ≡ Records records) × HasRead records file scan
ReadsNextRecord (Err (open_faults.Refused why)) records file scan = contents file ≡ refused_as why
ReadsNextRecord (Err (open_faults.Device fault)) records file scan = Unit {0}

-- the same after whatever records were read of a file
abbrev pub ReadsOn : Result Bool OpenFault → ScanState → ScanState → List ℕ → Type 0
ReadsOn result before after file = (records : List (List ℕ)) → HasRead records file before → ReadsNextRecord result records file after

-- what was read of a file was read of the same file at a later moment
abbrev pub StaysRead : ScanState → ScanState → Type 0
StaysRead before after = (records : List (List ℕ)) (file later : List ℕ) → Later file later → HasRead records file before → HasRead records later after

-- the cause of a fault, if some records were read before
abbrev pub ScanCause : Result Bool OpenFault → ScanState → Disk → Disk → Type 0
ScanCause result scan before after = (records : List (List ℕ)) → HasRead records before.seen scan → HasOpenCause result before after

-- a record was read after a place. Only the greatest length of a file limits this
abbrev pub GoesFurther : ScanState → ScanState → Type 0
GoesFurther old new = (old.end < 2 ^ 62) × (old.end < new.end)

-- a refusal after records that end there: damage at that place
abbrev pub IsAt : ℕ → OpenFault → Type 0
IsAt end (open_faults.Refused (refusals.Damaged at)) = at ≡ end
IsAt end (open_faults.Refused refusals.NotAJournal) = ⊥
IsAt end (open_faults.Device fault) = Unit {0}

-- before the first record no damage is reported
abbrev pub IsOfStart : OpenFault → Type 0
IsOfStart (open_faults.Refused (refusals.Damaged at)) = ⊥
IsOfStart fault = Unit {0}

-- examples

-- a damaged block after a good one does not affect the good one
pub begins_before_damage : BeginsWith (codes "ab" ∷ []) (codes "TBJRNL02" ++ (block (codes "ab") ++ 255 ∷ 255 ∷ 255 ∷ 255 ∷ 1 ∷ []))
unfolding byte_on bit_on
begins_before_damage = refl

-- each journal begins with no record
pub begins_with_none : BeginsWith [] (codes "TBJRNL02" ++ 255 ∷ 255 ∷ 255 ∷ 255 ∷ 7 ∷ [])
begins_with_none = refl
