-- What the bytes of a journal's file represent.
use Rattle.std.specs.Prelude.{◌≡◌, ℕ, ◌+◌, ◌<◌, ◌^◌, ◌==◌, ◌&&◌, nat_le, nat_eq, zero, suc, List, [], ◌∷◌, ◌++◌, length, take, drop, flat_map, codes, replicate, Bool, if◌then◌else◌, refl}
use Rattle.std.specs.Int.{w32, to_le_bytes, from_le_bytes}
use Rattle.std.specs.List.{AllByRecursion, starts_with}
use Rattle.tb_file_journal.specs.Checksum.{checksum, byte_on, bit_on}

-- the first 8 bytes
abbrev pub magic : List ℕ
magic = codes "TBJRNL02"

-- a record that a block can hold: fewer than 2^24 bytes
pub record Fits (record_bytes : List ℕ) : Type 0 where
  pub short : length record_bytes < 2 ^ 24
  pub bytes : AllByRecursion (λ byte. byte < 256) record_bytes

-- a length in 3 bytes, the low one first
abbrev pub size_bytes : List ℕ → List ℕ
size_bytes record_bytes = take 3 (to_le_bytes w32 (length record_bytes))

-- a closed latch: four bytes that nothing else writes there. Any other four bytes are an open latch
abbrev pub latch_closed : List ℕ
latch_closed = 90 ∷ 195 ∷ 150 ∷ 105 ∷ []

abbrev pub latch_open : List ℕ
latch_open = 255 ∷ 255 ∷ 255 ∷ 255 ∷ []

abbrev pub is_closed : ℕ → ℕ → ℕ → ℕ → Bool
is_closed w x y z = (w == 90 && x == 195) && (y == 150 && z == 105)

-- an open latch, the length, the checksum of length and record, and the record
abbrev pub block : List ℕ → List ℕ
block bytes = 255 ∷ 255 ∷ 255 ∷ 255 ∷ (size_bytes bytes ++ (to_le_bytes w32 (checksum (size_bytes bytes ++ bytes)) ++ bytes))

-- blocks, and a closed latch after them
abbrev pub at_rest : List (List ℕ) → List ℕ
at_rest records = flat_map block records ++ latch_closed

-- a whole file of these records
abbrev pub journal_of : List (List ℕ) → List ℕ
journal_of records = magic ++ at_rest records

-- what is at the head of some bytes: the end of the records, a block that is not whole, or a whole one
pub data Front : Type 0 where
  Ends : Front
  Spoiled : Front
  Whole : List ℕ → Front

-- after an open latch: the length, the checksum, and what follows
abbrev pub behind_latch : List ℕ → ℕ → List ℕ → Front
behind_latch size sum rest =
    let count = from_le_bytes w32 (size ++ 0 ∷ []) in
    if nat_le count (length rest) && (sum == checksum (size ++ take count rest)) then Whole (take count rest) else Spoiled

-- a closed latch, and nothing else, ends the records
abbrev pub front : List ℕ → Front
front (w ∷ x ∷ y ∷ z ∷ a ∷ b ∷ c ∷ s ∷ t ∷ u ∷ v ∷ rest) = if is_closed w x y z then Ends else behind_latch (a ∷ b ∷ c ∷ []) (from_le_bytes w32 (s ∷ t ∷ u ∷ v ∷ [])) rest
front (w ∷ x ∷ y ∷ z ∷ behind) = if is_closed w x y z then Ends else Spoiled
front short = Spoiled

-- a file is no journal, is damaged at a place, or has records
pub data Contents : Type 0 where
  NotAJournal : Contents
  Damaged : ℕ → Contents
  Records : List (List ℕ) → Contents

-- one record before others
abbrev pub with_record : List ℕ → Contents → Contents
with_record bytes NotAJournal = NotAJournal
with_record bytes (Damaged at) = Damaged at
with_record bytes (Records records) = Records (bytes ∷ records)

-- several
abbrev pub with_records : List (List ℕ) → Contents → Contents
with_records [] others = others
with_records (bytes ∷ records) others = with_record bytes (with_records records others)

-- what is at this place, and what follows it
abbrev pub joined_contents : Front → ℕ → Contents → Contents
joined_contents Ends at others = Records []
joined_contents Spoiled at others = Damaged at
joined_contents (Whole bytes) at others = with_record bytes others

-- the bytes of a block after its first one
abbrev pub skipped : Front → ℕ
skipped (Whole bytes) = 10 + length bytes
skipped other = 0

-- the blocks from a place on, after so many bytes that belong to the block before
abbrev pub walk : ℕ → ℕ → List ℕ → Contents
walk zero at [] = Damaged at
walk (suc skip) at [] = Damaged (at + suc skip)
walk (suc skip) at (byte ∷ bytes) = walk skip (at + 1) bytes
walk zero at (latch ∷ behind) = joined_contents (front (latch ∷ behind)) at (walk (skipped (front (latch ∷ behind))) (at + 1) behind)

abbrev pub contents : List ℕ → Contents
contents file = if starts_with nat_eq file magic then walk 0 8 (drop 8 file) else NotAJournal

-- the records of a file that has records
abbrev pub content_records : Contents → List (List ℕ)
content_records (Records records) = records
content_records other = []

abbrev pub recorded : List ℕ → List (List ℕ)
recorded file = content_records (contents file)

-- it is read to its end: whole blocks of records, and a closed latch
abbrev pub IsJournal : List ℕ → Type 0
IsJournal file = contents file ≡ Records (recorded file)

-- the bytes that their blocks take
abbrev pub blocks_length : List (List ℕ) → ℕ
blocks_length [] = 0
blocks_length (bytes ∷ records) = 11 + length bytes + blocks_length records

-- where they end in a file
abbrev pub records_end : List (List ℕ) → ℕ
records_end records = 8 + blocks_length records

-- examples

pub nothing_is_no_journal : contents [] ≡ NotAJournal
nothing_is_no_journal = refl

-- a closed latch ends the records, whatever follows
pub ends_at_a_closed_latch : contents (codes "TBJRNL02" ++ (latch_closed ++ 7 ∷ 7 ∷ [])) ≡ Records []
ends_at_a_closed_latch = refl

-- a file that does not end with a closed latch was cut short, and is damaged at that place
pub cut_at_a_block : contents (codes "TBJRNL02" ++ block (codes "ab")) ≡ Damaged 21
unfolding byte_on bit_on
cut_at_a_block = refl

pub cut_in_a_latch : contents (codes "TBJRNL02" ++ (block (codes "ab") ++ take 3 latch_closed)) ≡ Damaged 21
unfolding byte_on bit_on
cut_in_a_latch = refl

pub open_at_the_end : contents (codes "TBJRNL02" ++ (block (codes "ab") ++ latch_open)) ≡ Damaged 21
unfolding byte_on bit_on
open_at_the_end = refl

pub two_records : contents (journal_of (codes "ab" ∷ [] ∷ [])) ≡ Records (codes "ab" ∷ [] ∷ [])
unfolding byte_on bit_on
two_records = refl

-- a torn block is damage, at its latch
pub cut_short : contents (codes "TBJRNL02" ++ 255 ∷ 255 ∷ 255 ∷ 255 ∷ 1 ∷ 0 ∷ []) ≡ Damaged 8
cut_short = refl

-- neither one byte nor four zeros close an open latch: the record is still there, or the file is damaged
pub one_zero : contents (codes "TBJRNL02" ++ (0 ∷ drop 1 (block (codes "ab")) ++ latch_closed)) ≡ Records (codes "ab" ∷ [])
unfolding byte_on bit_on
one_zero = refl

pub four_zeros : contents (codes "TBJRNL02" ++ (0 ∷ 0 ∷ 0 ∷ 0 ∷ drop 4 (block (codes "ab")) ++ latch_closed)) ≡ Records (codes "ab" ∷ [])
unfolding byte_on bit_on
four_zeros = refl

pub all_zeros : contents (codes "TBJRNL02" ++ (replicate 13 0 ++ latch_closed)) ≡ Damaged 8
unfolding byte_on bit_on
all_zeros = refl
