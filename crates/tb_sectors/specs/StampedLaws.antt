-- What holds of every journal in the stamped format, over a disk whose sectors are old or new.
use Rattle.std.specs.Prelude.{◌≡◌, ◌≢◌, ◌⊎◌, ℕ, ◌+◌, ◌*◌, ◌<◌, ◌≤◌, ◌^◌, true, false, Bool, if◌then◌else◌, List, [], ◌∷◌, ◌++◌, length, Some}
use Rattle.tb_sectors.specs.Sectors.{IsMixed, sector, overwritten}
use Rattle.tb_sectors.specs.Stamped.{Stamped, blank, rotten, nothing_taken, read_on, Damaged, begins_in, Batch, batch_bytes, new_after, with_batch, stream, sector_at, after_batches, all_bytes, stamped, file_sectors}
use Rattle.tb_sectors.specs.Encoding.{raw, raws, cut_batch, FitsSector, batch_of, place_of, written_of, cleared_bytes}

-- each sector of what is left is that of the one or that of the other, in any combination
abbrev pub IsAnyMix : List Stamped → List Stamped → List Stamped → Type 0
IsAnyMix old new left = (k : ℕ) → (sector_at left k ≡ sector_at old k) ⊎ (sector_at left k ≡ sector_at new k)

-- a crash amid the commit of one batch, after any others: the batch is there whole, or nothing of it is, and all earlier ones are
abbrev pub CrashLeavesAllOrNone : Type 0
CrashLeavesAllOrNone = (first : List ℕ) (batches : List Batch) (batch : Batch) (left : List Stamped)
    → IsAnyMix (after_batches first batches) (after_batches first (batch ∷ batches)) left
    → (stream left ≡ Some (all_bytes first batches)) ⊎ (stream left ≡ Some (all_bytes first (batch ∷ batches)))

-- what was committed is read
abbrev pub CommittedIsRead : Type 0
CommittedIsRead = (first : List ℕ) (batches : List Batch) → stream (after_batches first batches) ≡ Some (all_bytes first batches)

-- a file has these sectors, and blank ones after them
abbrev pub HasSectors : List ℕ → List Stamped → Type 0
HasSectors file sectors = (k : ℕ) → stamped (sector k file) ≡ sector_at sectors k

-- a file that has the sectors of a journal, and any number of blank ones after them, is read as that journal
abbrev pub FileIsRead : Type 0
FileIsRead = (first : List ℕ) (batches : List Batch) (file : List ℕ) → HasSectors file (after_batches first batches) → stream (file_sectors file) ≡ Some (all_bytes first batches)

-- the law of a crash for files, whose sectors it mixes
abbrev pub FileIsAllOrNone : Type 0
FileIsAllOrNone = (first : List ℕ) (batches : List Batch) (batch : Batch) (old new left : List ℕ)
    → HasSectors old (after_batches first batches) → HasSectors new (after_batches first (batch ∷ batches)) → IsMixed old new left
    → (stream (file_sectors left) ≡ Some (all_bytes first batches)) ⊎ (stream (file_sectors left) ≡ Some (all_bytes first (batch ∷ batches)))

-- a sector that has not what was written there last, if a batch begins after it, is damage, named at that sector or the next one. One with a closed
-- latch, which only commits with two syncs write, ends the journal instead
abbrev pub LostWriteIsDamage : Type 0
LostWriteIsDamage = (first : List ℕ) (batches : List Batch) (before rest : List Stamped) (written lost : Stamped)
    → after_batches first batches ≡ before ++ written ∷ rest → begins_in rest ≡ true → lost.number ≢ written.number → lost.closed ≡ false
    → (read_on nothing_taken (before ++ lost ∷ rest) ≡ Damaged (length before)) ⊎ (read_on nothing_taken (before ++ lost ∷ rest) ≡ Damaged (length before + 1))

-- a sector whose bytes are damaged is named, in any batch, the last one too
abbrev pub RotIsDamage : Type 0
RotIsDamage = (first : List ℕ) (batches : List Batch) (before rest : List Stamped) (written : Stamped)
    → after_batches first batches ≡ before ++ written ∷ rest → read_on nothing_taken (before ++ rotten ∷ rest) ≡ Damaged (length before)

-- the bytes of a sector are read as they were written
abbrev pub SectorIsReadBack : Type 0
SectorIsReadBack = (s : Stamped) → FitsSector s → (stamped (raw s) ≡ s) × (length (raw s) ≡ 512)

-- the bytes that a batch is cut into, written at their place, make a journal with that batch: over the last sector if there is space, or after it
abbrev pub BatchIsWritten : Type 0
BatchIsWritten = (file : List ℕ) (before : List Stamped) (last : Stamped) (shares : Bool) (bytes : List ℕ)
    → HasSectors file (before ++ last ∷ []) → place_of shares before ≤ length file → FitsSector last → last.number + 1 < 2 ^ 64 → last.begun + 1 < 2 ^ 16
    → HasSectors (overwritten file (place_of shares before) (written_of shares last bytes)) (with_batch (before ++ last ∷ []) (batch_of shares (if shares then last.bytes else []) bytes))

-- the first batch, cut into a sector, is a new journal
abbrev pub CreatedIsWritten : Type 0
CreatedIsWritten = (first : List ℕ) → length first ≤ 492 → HasSectors (raws (cut_batch (new_after 0) first)) (after_batches first [])

-- a file whose first sectors are those of a journal but its last one, and whose others are anything up to one after which all are blank: the last sector,
-- as it was, and zeros after it make it that journal
abbrev pub TornIsCleared : Type 0
TornIsCleared = (file : List ℕ) (before : List Stamped) (last : Stamped) (torn : ℕ)
    → ((k : ℕ) → k < length before → stamped (sector k file) ≡ sector_at before k) → ((k : ℕ) → length before + torn < k → stamped (sector k file) ≡ blank)
    → 512 * length before ≤ length file → FitsSector last
    → HasSectors (overwritten file (512 * length before) (cleared_bytes last torn)) (before ++ last ∷ [])

-- it has the bytes of the batch, all of them and in their order
abbrev pub BatchHasItsBytes : Type 0
BatchHasItsBytes = (shares : Bool) (kept bytes : List ℕ) → batch_bytes (batch_of shares kept bytes) ≡ bytes
