-- The stamped format: what the sectors of a file represent.
use Rattle.std.specs.Prelude.{◌≡◌, ℕ, ◌+◌, ◌/◌, ◌==◌, ◌&&◌, ◌||◌, nat_le, nat_lt, zero, suc, Bool, true, false, if◌then◌else◌, List, [], ◌∷◌, ◌++◌, length, take, drop, flat_map, codes, Option, Some, None, refl}
use Rattle.std.specs.Int.{w16, w32, w64, from_le_bytes, to_le_bytes}
use Rattle.tb_sectors.specs.Checksum.{remainder}
use Rattle.tb_sectors.specs.Sectors.{sector}

-- a sector: the number of the batch that wrote it last, never 0; how many batches begin in it; after how many of its bytes the last batch that ends in
-- it ends, and one more than it has bytes if none ends there; and its bytes of the stream
pub record Stamped : Type 0 where
  pub number : ℕ
  pub begun : ℕ
  pub ends : ℕ
  pub bytes : List ℕ
  pub closed : Bool  -- its latch is closed: nothing after it counts, whatever is there

-- a sector that no batch has written
abbrev pub blank : Stamped
blank = record { number = 0; begun = 0; ends = 0; bytes = []; closed = false }

-- a sector whose bytes are damaged, as its checksum shows. It follows no other and counts as one in which a batch begins, so it is damage wherever it is:
-- a crash leaves each sector old or new, and both have their checksum
abbrev pub rotten : Stamped
rotten = record { number = 0; begun = 1; ends = 0; bytes = []; closed = false }

-- what a reader has taken from the beginning on: how many sectors, the number of the last one, the bytes of the batches that are whole, all bytes, and
-- whether the latch of the last one is closed
pub record Taken : Type 0 where
  pub count : ℕ
  pub number : ℕ
  pub whole : List ℕ
  pub all : List ℕ
  pub closed : Bool

abbrev pub nothing_taken : Taken
nothing_taken = record { count = 0; number = 0; whole = []; all = []; closed = false }

-- a sector follows those that were taken: it has a number, and the sector before it has the last number before those of the batches that begin in it.
-- So a sector that an earlier batch wrote, or that has no stamp, does not pass for what a later batch wrote there
abbrev pub follows : Taken → Stamped → Bool
follows taken s = nat_lt 0 s.number && s.number == taken.number + s.begun

-- it is taken
abbrev pub with_sector : Taken → Stamped → Taken
with_sector taken s = record {
  count = taken.count + 1;
  number = s.number;
  whole = if nat_le s.ends (length s.bytes) then taken.all ++ take s.ends s.bytes else taken.whole;
  all = taken.all ++ s.bytes;
  closed = s.closed;
}

-- a batch begins in one of these sectors
abbrev pub begins_in : List Stamped → Bool
begins_in [] = false
begins_in (s ∷ rest) = nat_lt 0 s.begun || begins_in rest

-- the journal ends after what was taken; or it is damaged at the sector of this number
pub data Verdict : Type 0 where
  Ends : Taken → Verdict
  Damaged : ℕ → Verdict

-- a closed latch ends the journal, and so does the first sector that does not follow. If a batch begins there or after it, the sector is damaged or the one before it: no batch
-- begins before the one before it is durable. Otherwise what is there is what a crash left of the last batch
abbrev pub read_on : Taken → List Stamped → Verdict
read_on taken [] = Ends taken
read_on taken (s ∷ rest) = if taken.closed then Ends taken else
    if follows taken s then read_on (with_sector taken s) rest else if begins_in (s ∷ rest) then Damaged taken.count else Ends taken

-- the stream of a journal: the bytes of its whole batches
abbrev pub stream_of : Verdict → Option (List ℕ)
stream_of (Ends taken) = Some taken.whole
stream_of (Damaged at) = None

abbrev pub stream : List Stamped → Option (List ℕ)
stream sectors = stream_of (read_on nothing_taken sectors)

-- writing

-- a batch: its bytes, as its sectors take them, the first ones and what the others take; and whether it shares the last sector of the batch before it
-- or begins in a new one
pub record Batch : Type 0 where
  pub shares : Bool
  pub first : List ℕ
  pub more : List (List ℕ)

abbrev pub batch_bytes : Batch → List ℕ
batch_bytes batch = batch.first ++ flat_map (λ bytes. bytes) batch.more

-- the sector in which the next batch begins, with its first bytes; it goes on in the next sector, or it does not
abbrev pub grown : Stamped → List ℕ → Bool → Stamped
grown last bytes more = record {
  number = last.number + 1;
  begun = last.begun + 1;
  ends = if more then length last.bytes else length (last.bytes ++ bytes);
  bytes = last.bytes ++ bytes;
  closed = false;
}

-- a further sector of a batch
abbrev pub further : ℕ → List ℕ → Bool → Stamped
further number bytes more = record {
  number = number;
  begun = 0;
  ends = if more then length bytes + 1 else length bytes;
  bytes = bytes;
  closed = false;
}

-- there are more bytes
abbrev pub goes_on : List (List ℕ) → Bool
goes_on [] = false
goes_on (bytes ∷ more) = true

abbrev pub further_sectors : ℕ → List (List ℕ) → List Stamped
further_sectors number [] = []
further_sectors number (bytes ∷ more) = further number bytes (goes_on more) ∷ further_sectors number more

-- the sectors of a batch that begins in this one
abbrev pub batch_sectors : Stamped → List ℕ → List (List ℕ) → List Stamped
batch_sectors last first more = grown last first (goes_on more) ∷ further_sectors (last.number + 1) more

-- a new sector after one with this number: it has no bytes yet
abbrev pub new_after : ℕ → Stamped
new_after number = record { number = number; begun = 0; ends = 0; bytes = []; closed = false }

-- what takes the place of a journal's last sector with one more batch
abbrev pub after_last : Stamped → Batch → List Stamped
after_last last batch = if batch.shares then batch_sectors last batch.first batch.more else last ∷ batch_sectors (new_after last.number) batch.first batch.more

-- the sectors of a journal with one more batch
abbrev pub with_batch : List Stamped → Batch → List Stamped
with_batch [] batch = []
with_batch (last ∷ []) batch = after_last last batch
with_batch (s ∷ next ∷ rest) batch = s ∷ with_batch (next ∷ rest) batch

-- a new journal has the bytes of its first batch in one sector
abbrev pub created : List ℕ → List Stamped
created first = grown (new_after 0) first false ∷ []

-- the sectors of a journal after these batches, the newest first
abbrev pub after_batches : List ℕ → List Batch → List Stamped
after_batches first [] = created first
after_batches first (newest ∷ earlier) = with_batch (after_batches first earlier) newest

-- the bytes of its batches
abbrev pub all_bytes : List ℕ → List Batch → List ℕ
all_bytes first [] = first
all_bytes first (newest ∷ earlier) = all_bytes first earlier ++ batch_bytes newest

-- bytes

-- the four bytes of a checksum: CRC-32C, begun at 0 and not inverted at the end, so that zeros have the checksum 0
abbrev pub sum_bytes : List ℕ → List ℕ
sum_bytes bytes = to_le_bytes w32 (remainder bytes 0)

-- two bytes of a latch: these close it, and any others open it
abbrev pub closes : List ℕ → Bool
closes (a ∷ b ∷ rest) = a == 90 && b == 195
closes bytes = false

-- the checksum of a sector is that of its other bytes but for the latch
unfoldable pub is_intact : List ℕ → Bool
is_intact bytes = from_le_bytes w32 (take 4 (drop 16 bytes)) == from_le_bytes w32 (sum_bytes (take 14 bytes ++ drop 20 bytes))

-- number, batches begun, bytes used, where the last batch ends, the latch, the checksum, and the bytes of the stream
abbrev pub decoded : List ℕ → Stamped
decoded bytes = record {
  number = from_le_bytes w64 (take 8 bytes);
  begun = from_le_bytes w16 (take 2 (drop 8 bytes));
  ends = from_le_bytes w16 (take 2 (drop 12 bytes));
  bytes = take (from_le_bytes w16 (take 2 (drop 10 bytes))) (drop 20 bytes);
  closed = closes (take 2 (drop 14 bytes));
}

-- what the 512 bytes of a sector are
abbrev pub stamped : List ℕ → Stamped
stamped bytes = if is_intact bytes then decoded bytes else rotten

-- so many sectors of a file from one on
abbrev pub sectors_from : ℕ → ℕ → List ℕ → List Stamped
sectors_from k zero file = []
sectors_from k (suc count) file = stamped (sector k file) ∷ sectors_from (k + 1) count file

-- all of them
abbrev pub file_sectors : List ℕ → List Stamped
file_sectors file = sectors_from 0 ((length file + 511) / 512) file

-- what is at this place, and blank after the end
abbrev pub sector_at : List Stamped → ℕ → Stamped
sector_at [] k = blank
sector_at (s ∷ rest) zero = s
sector_at (s ∷ rest) (suc k) = sector_at rest k

-- examples: a batch in one sector; one more that shares it; a large one, torn

pub one_batch : stream (created (codes "head")) ≡ Some (codes "head")
one_batch = refl

pub shared_sector : stream (with_batch (created (codes "head")) (record { shares = true; first = codes "ab"; more = [] })) ≡ Some (codes "headab")
shared_sector = refl

pub first_sector_only : stream (take 1 (with_batch (created (codes "head")) (record { shares = true; first = codes "ab"; more = codes "cd" ∷ [] }))) ≡ Some (codes "head")
first_sector_only = refl

pub last_sector_only : stream (created (codes "head") ++ drop 1 (with_batch (created (codes "head")) (record { shares = true; first = codes "ab"; more = codes "cd" ∷ [] }))) ≡ Some (codes "head")
last_sector_only = refl

-- a sector that lost its last write is damage if a batch begins after it
pub lost_write : read_on nothing_taken (created (codes "head") ++ drop 1 (after_batches (codes "head") (record { shares = false; first = codes "ef"; more = [] } ∷ record { shares = true; first = codes "ab"; more = [] } ∷ []))) ≡ Damaged 1
lost_write = refl

-- a blank first sector does not begin an empty journal
pub lost_first_sector : read_on nothing_taken (blank ∷ drop 1 (after_batches (codes "head") (record { shares = false; first = codes "ef"; more = [] } ∷ []))) ≡ Damaged 0
lost_first_sector = refl
