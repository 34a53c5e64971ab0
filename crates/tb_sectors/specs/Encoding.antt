-- The bytes of sectors, and how a batch is cut into them.
use Rattle.std.specs.Prelude.{ℕ, ◌+◌, ◌-◌, ◌*◌, ◌<◌, ◌≤◌, ◌^◌, false, zero, suc, Bool, if◌then◌else◌, List, [], ◌∷◌, ◌++◌, length, take, drop, flat_map, replicate}
use Rattle.std.specs.Int.{w16, w64, to_le_bytes}
use Rattle.tb_sectors.specs.Stamped.{Stamped, blank, sum_bytes, Batch, batch_sectors, new_after}

-- the numbers of a sector's stamp: number, batches begun, bytes used, and where the last batch ends
unfoldable pub number_bytes : ℕ → ℕ → ℕ → ℕ → List ℕ
number_bytes number begun used ends = to_le_bytes w64 number ++ (to_le_bytes w16 begun ++ (to_le_bytes w16 used ++ to_le_bytes w16 ends))

-- a closed latch, and the open one that is written
abbrev pub latch_bytes : Bool → List ℕ
latch_bytes closed = (if closed then 90 else 0) ∷ (if closed then 195 else 0) ∷ []

-- a sector with these numbers and bytes of the stream: between them the latch, and the checksum of both
abbrev pub sector_bytes_of : List ℕ → Bool → List ℕ → List ℕ
sector_bytes_of numbers closed bytes = (numbers ++ (latch_bytes closed ++ sum_bytes (numbers ++ bytes))) ++ bytes

-- the 512 bytes of a sector: its stamp, its bytes, and zeros
unfoldable pub raw : Stamped → List ℕ
raw s = sector_bytes_of (number_bytes s.number s.begun (length s.bytes) s.ends) s.closed (s.bytes ++ replicate (492 - length s.bytes) 0)

abbrev pub raws : List Stamped → List ℕ
raws sectors = flat_map raw sectors

-- what a sector can hold
pub record FitsSector (s : Stamped) : Type 0 where
  pub number : s.number < 2 ^ 64
  pub begun : s.begun < 2 ^ 16
  pub ends : s.ends < 2 ^ 16
  pub bytes : length s.bytes ≤ 492

-- bytes in pieces of 492, the last one shorter; the number of bytes is enough for the first argument
abbrev pub pieces : ℕ → List ℕ → List (List ℕ)
pieces zero bytes = []
pieces (suc more) [] = []
pieces (suc more) (byte ∷ bytes) = take 492 (byte ∷ bytes) ∷ pieces more (drop 492 (byte ∷ bytes))

abbrev pub pieces_of : List ℕ → List (List ℕ)
pieces_of bytes = pieces (length bytes) bytes

-- a sector with these bytes, of which a batch has not been added yet
abbrev pub open_sector : ℕ → ℕ → List ℕ → Stamped
open_sector number begun kept = record { number = number; begun = begun; ends = 0; bytes = kept; closed = false }

-- a sector with these bytes, all of them of whole batches
abbrev pub whole_sector : ℕ → ℕ → List ℕ → Stamped
whole_sector number begun bytes = record { number = number; begun = begun; ends = length bytes; bytes = bytes; closed = false }

-- the sectors of a batch with these bytes that begins in a sector with so many batches and these bytes: as many as fit there, and the others after it
abbrev pub cut_batch : Stamped → List ℕ → List Stamped
cut_batch last bytes = batch_sectors last (take (492 - length last.bytes) bytes) (pieces_of (drop (492 - length last.bytes) bytes))

-- a batch with these bytes: it shares a sector that has these ones already, or begins in a new sector, which has none
abbrev pub batch_of : Bool → List ℕ → List ℕ → Batch
batch_of shares kept bytes = record { shares = shares; first = take (492 - length kept) bytes; more = pieces_of (drop (492 - length kept) bytes) }

-- where a batch is written: over the last sector, or after it
abbrev pub place_of : Bool → List Stamped → ℕ
place_of shares before = 512 * (if shares then length before else length before + 1)

-- what is written there
abbrev pub written_of : Bool → Stamped → List ℕ → List ℕ
written_of shares last bytes = raws (cut_batch (if shares then last else new_after last.number) bytes)

-- what clears a torn end: the last sector of the batches that are whole, and so many sectors of zeros
abbrev pub cleared_bytes : Stamped → ℕ → List ℕ
cleared_bytes last torn = raws (last ∷ replicate torn blank)
