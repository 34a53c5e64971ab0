-- Commits with two syncs, over a disk of which nothing is assumed: an interrupted write leaves any bytes in its range. A batch begins in a new sector
-- after a closed latch, and its last sector has a closed latch. Once it is durable, two bytes open the latch before it.
use Rattle.std.specs.Prelude.{◌≡◌, ◌⊎◌, ℕ, ◌+◌, ◌-◌, ◌*◌, ◌<◌, ◌≤◌, ◌^◌, true, false, List, [], ◌∷◌, ◌++◌, length, take, drop, codes, refl, Some}
use Rattle.tb_sectors.specs.Sectors.{sector, overwritten}
use Rattle.tb_sectors.specs.Ranges.{IsTorn}
use Rattle.tb_sectors.specs.Stamped.{Stamped, rotten, Batch, stream, sector_at, new_after, created, after_batches, all_bytes, stamped, file_sectors}
use Rattle.tb_sectors.specs.StampedLaws.{HasSectors}
use Rattle.tb_sectors.specs.Encoding.{latch_bytes, number_bytes, raw, raws, cut_batch, batch_of}

-- a sector with a closed latch
abbrev pub shut : Stamped → Stamped
shut s = record { number = s.number; begun = s.begun; ends = s.ends; bytes = s.bytes; closed = true }

-- the latch of the last sector is closed
abbrev pub closed_last : List Stamped → List Stamped
closed_last [] = []
closed_last (s ∷ []) = shut s ∷ []
closed_last (s ∷ next ∷ rest) = s ∷ closed_last (next ∷ rest)

-- a file begins with these sectors, and may have anything after them
abbrev pub BeginsWith : List ℕ → List Stamped → Type 0
BeginsWith file sectors = (k : ℕ) → k < length sectors → stamped (sector k file) ≡ sector_at sectors k

-- a journal after these batches, with a closed latch at its end
abbrev pub IsClosedAfter : List ℕ → List Batch → List ℕ → Type 0
IsClosedAfter first batches file = BeginsWith file (closed_last (after_batches first batches))

-- where its sectors end, and the two bytes of that latch
abbrev pub end_after : List ℕ → List Batch → ℕ
end_after first batches = 512 * length (after_batches first batches)

abbrev pub latch_after : List ℕ → List Batch → ℕ
latch_after first batches = end_after first batches - 498

-- the batches before a closed latch are read, whatever is after it
abbrev pub ClosedIsRead : Type 0
ClosedIsRead = (first : List ℕ) (batches : List Batch) (file : List ℕ) → IsClosedAfter first batches file → stream (file_sectors file) ≡ Some (all_bytes first batches)

-- a crash amid any write after a closed latch leaves the journal as it was
abbrev pub BehindLatchNothingCounts : Type 0
BehindLatchNothingCounts = (first : List ℕ) (batches : List Batch) (old left : List ℕ) (n : ℕ)
    → IsClosedAfter first batches old → end_after first batches ≤ length old → IsTorn (end_after first batches) n old left → IsClosedAfter first batches left

-- a crash amid the opening of the latch, whatever it leaves in those two bytes, leaves the batch after it whole or nothing of it, and all earlier ones:
-- the file is the journal before, or the one that it is once the latch is open
abbrev pub LatchIsAllOrNone : Type 0
LatchIsAllOrNone = (first : List ℕ) (batches : List Batch) (batch : Batch) (file left : List ℕ)
    → IsClosedAfter first batches file → end_after first batches ≤ length file
    → IsClosedAfter first (batch ∷ batches) (overwritten file (latch_after first batches) (latch_bytes false))
    → IsTorn (latch_after first batches) 2 file left
    → IsClosedAfter first batches left ⊎ IsClosedAfter first (batch ∷ batches) left

-- what is written of a batch after a closed latch: the batch before it has this number, and the last sector of the new one has a closed latch
abbrev pub closed_written : ℕ → List ℕ → List ℕ
closed_written number bytes = raws (closed_last (cut_batch (new_after number) bytes))

-- a file with these sectors after a closed latch
abbrev pub with_closed : List ℕ → List Batch → ℕ → List ℕ → List ℕ → List ℕ
with_closed first batches number bytes file = overwritten file (end_after first batches) (closed_written number bytes)

-- once the latch before them is open, they are the next batch, with a closed latch at its end
abbrev pub ClosedBatchIsWritten : Type 0
ClosedBatchIsWritten = (first : List ℕ) (batches : List Batch) (before : List Stamped) (last : Stamped) (file bytes : List ℕ)
    → after_batches first batches ≡ before ++ last ∷ [] → IsClosedAfter first batches file → end_after first batches ≤ length file → last.number + 1 < 2 ^ 64
    → IsClosedAfter first (batch_of false [] bytes ∷ batches) (overwritten (with_closed first batches last.number bytes file) (latch_after first batches) (latch_bytes false))

-- the first batch, in a sector with a closed latch, is a new journal
abbrev pub ClosedCreatedIsWritten : Type 0
ClosedCreatedIsWritten = (first : List ℕ) → length first ≤ 492 → IsClosedAfter first [] (closed_written 0 first)

-- the two bytes that close the last latch of a journal whose commits had one sync: whatever a crash leaves of them, the file is read as it was
abbrev pub LatchIsClosed : Type 0
LatchIsClosed = (first : List ℕ) (batches : List Batch) (file : List ℕ) → HasSectors file (after_batches first batches) → end_after first batches ≤ length file
    → IsClosedAfter first batches (overwritten file (latch_after first batches) (latch_bytes true))
    × ((left : List ℕ) → IsTorn (latch_after first batches) 2 file left → stream (file_sectors left) ≡ Some (all_bytes first batches))

-- examples: a journal of one sector with a closed latch, and whatever is after it

pub nothing_counts_after_it : stream (closed_last (created (codes "head")) ++ rotten ∷ []) ≡ Some (codes "head")
nothing_counts_after_it = refl

pub only_the_last_is_closed : stream (closed_last (after_batches (codes "head") (batch_of false [] (codes "ab") ∷ [])) ++ rotten ∷ []) ≡ Some (codes "headab")
only_the_last_is_closed = refl

pub place_of_a_latch : latch_after (codes "head") [] ≡ 14
place_of_a_latch = refl

pub bytes_of_a_latch : take 2 (drop 14 (closed_written 0 (codes "head"))) ≡ 90 ∷ 195 ∷ []
unfolding raw number_bytes
bytes_of_a_latch = refl
