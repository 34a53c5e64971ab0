-- How a record is sought at any offset of a file, for example after damage.
use Rattle.std.specs.Prelude.{◌≡◌, ℕ, ◌+◌, ◌≤◌, Bool, true, false, List, [], ◌∷◌, ◌++◌, length, take, drop, codes, refl, Result, Ok, Err}
use Rattle.std.specs.Int.{w32, from_le_bytes}
use Rattle.tb_file_journal.specs.declared.faults.JournalFault.{JournalFault}
use Rattle.tb_file_journal.specs.Checksum.{checksum, byte_on, bit_on}
use Rattle.tb_file_journal.specs.Contents.{size_bytes, block, latch_closed, journal_of}
use Rattle.tb_file_journal.specs.Scans.{IsAhead}

-- the bytes begin with the checksum of a record's block, and the record follows it
pub record IsSummed (record_bytes bytes : List ℕ) : Type 0 where
  pub sum : from_le_bytes w32 (take 4 bytes) ≡ checksum (size_bytes record_bytes ++ record_bytes)
  pub is : take (length record_bytes) (drop 4 bytes) ≡ record_bytes

-- a record is at an offset of a file: its checksum, and its bytes. The latch and the length before them in a block may have any values
abbrev pub StandsAt : ℕ → List ℕ → List ℕ → Type 0
StandsAt at record_bytes file = IsSummed record_bytes (drop at file)

-- how far a file was looked through, and the bytes read ahead from there on
pub record SeekState : Type 0 where
  pub at : ℕ
  pub ahead : List ℕ

-- these bytes are those of the file, as far as they go
abbrev pub IsSeeking : List ℕ → SeekState → Type 0
IsSeeking file seek = IsAhead seek.at file seek.ahead

-- the record of so many bytes is at the place of a seek, and is ahead; or no such record is there
abbrev pub SeeksRecord : Result Bool JournalFault → ℕ → List ℕ → SeekState → Type 0
SeeksRecord (Ok true) len file seek = StandsAt seek.at (take len (drop 4 seek.ahead)) file × (4 + len ≤ length seek.ahead)
SeeksRecord (Ok false) len file seek = (bytes : List ℕ) → length bytes ≡ len → StandsAt seek.at bytes file → ⊥
SeeksRecord (Err fault) len file seek = Unit {0}

-- examples

-- in a whole block the record follows the latch and the length
pub stands_in_a_block : StandsAt 15 (codes "ab") (journal_of (codes "ab" ∷ []))
unfolding byte_on bit_on
stands_in_a_block = record { sum = refl; is = refl }

-- the same if the latch and the length have rotted
pub stands_behind_rot : StandsAt 7 (codes "ab") (latch_closed ++ drop 4 (0 ∷ 0 ∷ 0 ∷ 0 ∷ 9 ∷ 9 ∷ 9 ∷ drop 7 (block (codes "ab"))))
unfolding byte_on bit_on
stands_behind_rot = record { sum = refl; is = refl }
