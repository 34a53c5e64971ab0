-- Records in the stream of a journal, each after three bytes of its length, and what a file in the stamped format has of them.
use Rattle.std.specs.Prelude.{◌≡◌, ◌⊎◌, ℕ, ◌+◌, ◌-◌, ◌*◌, ◌<◌, ◌^◌, nat_le, nat_eq, zero, suc, true, if◌then◌else◌, List, [], ◌∷◌, ◌++◌, length, take, drop, flat_map, codes, Option, Some, None, refl}
use Rattle.std.specs.Int.{w32, to_le_bytes, from_le_bytes}
use Rattle.std.specs.List.{AllByRecursion, starts_with}
use Rattle.tb_sectors.specs.Sectors.{IsMixed}
use Rattle.tb_sectors.specs.Stamped.{Verdict, Ends, Damaged, nothing_taken, read_on, Batch, batch_bytes, created, after_batches, all_bytes, file_sectors}
use Rattle.tb_sectors.specs.StampedLaws.{HasSectors}

-- the first bytes of a stream
abbrev pub magic : List ℕ
magic = codes "TBJRNL03"

-- a record that three bytes of a length can tell
abbrev pub IsShort : List ℕ → Type 0
IsShort content = length content < 2 ^ 24

-- a record in a stream: its length, the low byte first, and its bytes
abbrev pub spelled : List ℕ → List ℕ
spelled content = take 3 (to_le_bytes w32 (length content)) ++ content

abbrev pub spelled_all : List (List ℕ) → List ℕ
spelled_all records = flat_map spelled records

-- how many bytes the first record of a stream has; none if no whole record is there
abbrev pub first_length : List ℕ → Option ℕ
first_length (a ∷ b ∷ c ∷ rest) = let count = from_le_bytes w32 (a ∷ b ∷ c ∷ 0 ∷ []) in if nat_le count (length rest) then Some count else None
first_length other = None

-- where it ends
abbrev pub first_end : Option ℕ → ℕ
first_end None = 0
first_end (Some count) = 3 + count

-- one record before others
abbrev pub with_first : List ℕ → Option (List (List ℕ)) → Option (List (List ℕ))
with_first content None = None
with_first content (Some records) = Some (content ∷ records)

-- the first record of a stream before those after it, if there is one
abbrev pub first_before : Option ℕ → List ℕ → Option (List (List ℕ)) → Option (List (List ℕ))
first_before None stream others = None
first_before (Some count) stream others = with_first (take count (drop 3 stream)) others

-- the records of a stream, if it is whole records and nothing else; the number of its bytes is enough for the first argument
abbrev pub records_in : ℕ → List ℕ → Option (List (List ℕ))
records_in zero [] = Some []
records_in zero (byte ∷ bytes) = None
records_in (suc more) [] = Some []
records_in (suc more) (byte ∷ bytes) =
    first_before (first_length (byte ∷ bytes)) (byte ∷ bytes) (records_in more (drop (first_end (first_length (byte ∷ bytes))) (byte ∷ bytes)))

abbrev pub records_of : List ℕ → Option (List (List ℕ))
records_of stream = records_in (length stream) stream

-- a file is no journal, is damaged at a byte, or has records
pub data Contents : Type 0 where
  NotAJournal : Contents
  DamagedAt : ℕ → Contents
  Records : List (List ℕ) → Contents

-- a batch is whole records, so a stream that ends within one is damage, at its last sector
abbrev pub records_or_damage : ℕ → Option (List (List ℕ)) → Contents
records_or_damage last None = DamagedAt (512 * last)
records_or_damage last (Some records) = Records records

abbrev pub contents_of : Verdict → Contents
contents_of (Ends taken) = if starts_with nat_eq taken.whole magic then records_or_damage (taken.count - 1) (records_of (drop 8 taken.whole)) else NotAJournal
contents_of (Damaged k) = DamagedAt (512 * k)

-- what a file in the stamped format has
abbrev pub file_contents : List ℕ → Contents
file_contents file = contents_of (read_on nothing_taken (file_sectors file))

-- a journal whose batches are these records: its first batch is the first bytes of the stream
abbrev pub HasRecords : List Batch → List (List ℕ) → Type 0
HasRecords batches records = (all_bytes magic batches ≡ magic ++ spelled_all records) × AllByRecursion IsShort records

-- its file, with reserved zeros after its sectors, has these records
abbrev pub RecordsAreRead : Type 0
RecordsAreRead = (batches : List Batch) (records : List (List ℕ)) (file : List ℕ) → HasRecords batches records → HasSectors file (after_batches magic batches) → file_contents file ≡ Records records

-- a crash amid the commit of a batch of more records leaves all of them or none, and all earlier ones
abbrev pub RecordsAreAllOrNone : Type 0
RecordsAreAllOrNone = (batches : List Batch) (batch : Batch) (records more : List (List ℕ)) (old new left : List ℕ)
    → HasRecords batches records → AllByRecursion IsShort more → batch_bytes batch ≡ spelled_all more
    → HasSectors old (after_batches magic batches) → HasSectors new (after_batches magic (batch ∷ batches)) → IsMixed old new left
    → (file_contents left ≡ Records records) ⊎ (file_contents left ≡ Records (records ++ more))

-- examples

pub spelled_in_three_bytes : spelled (codes "ab") ≡ 2 ∷ 0 ∷ 0 ∷ codes "ab"
spelled_in_three_bytes = refl

pub two_records : contents_of (read_on nothing_taken (after_batches magic (record { shares = true; first = spelled_all (codes "ab" ∷ [] ∷ []); more = [] } ∷ []))) ≡ Records (codes "ab" ∷ [] ∷ [])
two_records = refl

pub no_record_yet : contents_of (read_on nothing_taken (created magic)) ≡ Records []
no_record_yet = refl

-- a stream of something else, or of nothing
pub another_stream : contents_of (read_on nothing_taken (created (codes "head"))) ≡ NotAJournal
another_stream = refl

pub no_sector : contents_of (Ends nothing_taken) ≡ NotAJournal
no_sector = refl

-- a record that ends after its batch
pub record_cut_short : contents_of (read_on nothing_taken (created (magic ++ 5 ∷ 0 ∷ 0 ∷ codes "ab"))) ≡ DamagedAt 0
record_cut_short = refl
