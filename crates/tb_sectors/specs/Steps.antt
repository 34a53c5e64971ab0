-- What a write with its sync leaves on a disk.
use Rattle.std.specs.Prelude.{◌≡◌, ◌⊎◌, ℕ, ◌-◌, ◌≤◌, false, List, ◌∷◌, ◌++◌, length, Result, OnOk, Some}
use Rattle.tb_sectors.specs.declared.devices.SectorFault.{SectorFault}
use Rattle.tb_sectors.specs.Sectors.{Disk, IsSettled, IsMixed, LeavesOnly, overwritten, sector}
use Rattle.tb_sectors.specs.Stamped.{Batch, stream, file_sectors, after_batches, all_bytes}
use Rattle.tb_sectors.specs.StampedLaws.{HasSectors}
use Rattle.tb_sectors.specs.Ranges.{IsTorn}
use Rattle.tb_sectors.specs.Encoding.{latch_bytes}
use Rattle.tb_sectors.specs.Latches.{IsClosedAfter, end_after}

-- a write and a sync: a crash at any moment leaves the file as it was, with this step
pub record OverwritesBy (step : List ℕ → List ℕ → Type 0) (at : ℕ) (bytes : List ℕ) (result : Result (Unit {0}) SectorFault) (before after : Disk) : Type 0 where
  pub ok : OnOk result (after.seen ≡ overwritten before.seen at bytes)
  pub settled : IsSettled before → OnOk result (IsSettled after)
  pub any_moment : IsSettled before → LeavesOnly before after (step before.seen)

-- over a disk whose sectors are old or new
abbrev pub Overwrites : ℕ → List ℕ → Result (Unit {0}) SectorFault → Disk → Disk → Type 0
Overwrites at bytes result before after = OverwritesBy (λ d c. IsMixed d (overwritten before.seen at bytes) c) at bytes result before after

-- over a disk of which nothing is assumed
abbrev pub OverwritesRange : ℕ → List ℕ → Result (Unit {0}) SectorFault → Disk → Disk → Type 0
OverwritesRange at bytes result before after = OverwritesBy (IsTorn at (length bytes)) at bytes result before after

-- a file reads as the batches before a commit, or as those and the one that is committed
abbrev pub IsBeforeOrAfter : List ℕ → List Batch → Batch → List ℕ → Type 0
IsBeforeOrAfter first batches batch file =
    (stream (file_sectors file) ≡ Some (all_bytes first batches)) ⊎ (stream (file_sectors file) ≡ Some (all_bytes first (batch ∷ batches)))

-- a commit: these bytes at this offset make a journal of some batches into one with another batch. Once it is acknowledged, the file has it and all of it
-- is durable; a crash at any moment leaves the batch whole or nothing of it, and all earlier ones
pub record Commits (first : List ℕ) (batches : List Batch) (batch : Batch) (result : Result (Unit {0}) SectorFault) (before after : Disk) : Type 0 where
  pub acknowledged : OnOk result (IsSettled after × HasSectors after.seen (after_batches first (batch ∷ batches)))
  pub any_moment : LeavesOnly before after (IsBeforeOrAfter first batches batch)

-- a clear: once it returns, the file has the batches before the torn one and nothing of that one, and all of it is durable
pub record Clears (first : List ℕ) (batches : List Batch) (batch : Batch) (result : Result (Unit {0}) SectorFault) (before after : Disk) : Type 0 where
  pub cleared : OnOk result (IsSettled after × HasSectors after.seen (after_batches first batches))
  pub any_moment : LeavesOnly before after (IsBeforeOrAfter first batches batch)

abbrev pub WritesBatch : ℕ → List ℕ → Result (Unit {0}) SectorFault → Disk → Disk → Type 0
WritesBatch at bytes result before after =
    (first : List ℕ) (batches : List Batch) (batch : Batch) → IsSettled before → HasSectors before.seen (after_batches first batches)
    → HasSectors (overwritten before.seen at bytes) (after_batches first (batch ∷ batches)) → Commits first batches batch result before after

-- a start clears what a crash amid the commit of a batch left: these bytes at this offset make the file the journal of the batches before it again. A
-- crash at any moment of it leaves what a crash amid the commit may leave. Only then a batch is written there again
abbrev pub ClearsTorn : ℕ → List ℕ → Result (Unit {0}) SectorFault → Disk → Disk → Type 0
ClearsTorn at bytes result before after =
    (first : List ℕ) (batches : List Batch) (batch : Batch) (old new : List ℕ) → IsSettled before
    → HasSectors old (after_batches first batches) → HasSectors new (after_batches first (batch ∷ batches)) → IsMixed old new before.seen
    → HasSectors (overwritten before.seen at bytes) (after_batches first batches) → Clears first batches batch result before after

-- each sector is as it was
abbrev pub HasSameSectors : List ℕ → List ℕ → Type 0
HasSameSectors old new = (k : ℕ) → sector k new ≡ sector k old

-- zeros are written after the end of a file: once they are durable it has them, and no crash changes a sector
pub record Reserves (zeros : List ℕ) (result : Result (Unit {0}) SectorFault) (before after : Disk) : Type 0 where
  pub ok : OnOk result (IsSettled after × (after.seen ≡ before.seen ++ zeros) × HasSameSectors before.seen after.seen)
  pub any_moment : LeavesOnly before after (HasSameSectors before.seen)

-- a commit with two syncs, over a disk of which nothing is assumed. Once it is acknowledged, the file has the batch, with a closed latch at its end, and all
-- of it is durable; a crash at any moment leaves the journal before it, or with it
pub record CommitsClosed (first : List ℕ) (batches : List Batch) (batch : Batch) (result : Result (Unit {0}) SectorFault) (before after : Disk) : Type 0 where
  pub acknowledged : OnOk result (IsSettled after × IsClosedAfter first (batch ∷ batches) after.seen)
  pub any_moment : LeavesOnly before after (λ left. IsClosedAfter first batches left ⊎ IsClosedAfter first (batch ∷ batches) left)

-- a file with these sectors after the end of its journal, and then an open latch before them
abbrev pub opened_before : ℕ → List ℕ → List ℕ → List ℕ
opened_before end sectors file = overwritten (overwritten file end sectors) (end - 498) (latch_bytes false)

abbrev pub WritesClosedBatch : ℕ → List ℕ → Result (Unit {0}) SectorFault → Disk → Disk → Type 0
WritesClosedBatch end sectors result before after =
    (first : List ℕ) (batches : List Batch) (batch : Batch) → IsSettled before → IsClosedAfter first batches before.seen → end ≡ end_after first batches
    → IsClosedAfter first (batch ∷ batches) (opened_before end sectors before.seen) → CommitsClosed first batches batch result before after

-- the last latch is closed: then commits with two syncs may follow, and a crash at any moment changes nothing that is read
pub record HasClosedLatch (first : List ℕ) (batches : List Batch) (result : Result (Unit {0}) SectorFault) (before after : Disk) : Type 0 where
  pub closed : OnOk result (IsSettled after × IsClosedAfter first batches after.seen)
  pub any_moment : LeavesOnly before after (λ left. stream (file_sectors left) ≡ Some (all_bytes first batches))

abbrev pub ClosesLatch : ℕ → Result (Unit {0}) SectorFault → Disk → Disk → Type 0
ClosesLatch end result before after =
    (first : List ℕ) (batches : List Batch) → IsSettled before → HasSectors before.seen (after_batches first batches) → end ≡ end_after first batches
    → HasClosedLatch first batches result before after
