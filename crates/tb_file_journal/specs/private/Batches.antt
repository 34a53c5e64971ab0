-- The records that wait, by their bytes.
use Rattle.std.specs.Prelude.{◌≡◌, ℕ, ◌+◌, ◌<◌, ◌≤◌, ◌^◌, List, ◌++◌, length, drop, replicate}
use Rattle.std.specs.List.{AllByRecursion}
use Rattle.tb_file_journal.specs.declared.faults.JournalFault.{JournalFault}
use Rattle.tb_file_journal.specs.declared.faults.JournalFault.TheVariants.{Memory, Full, TooLong}
use Rattle.tb_file_journal.specs.Contents.{Fits, latch_closed, at_rest, block, walk, content_records}

-- the records of these blocks
abbrev pub waiting_in : List ℕ → List (List ℕ)
waiting_in bytes = content_records (walk 0 0 bytes)

-- blocks of records that fit, so many of them, and a closed latch
pub record IsBatch (bytes : List ℕ) (many : ℕ) : Type 0 where
  pub spells : bytes ≡ at_rest (waiting_in bytes)
  pub fits : AllByRecursion Fits (waiting_in bytes)
  pub counts : many ≡ length (waiting_in bytes)

-- the place for the length and the checksum of a record
abbrev pub blank_numbers : List ℕ
blank_numbers = replicate 7 0

-- one more block: the closed latch at the end is opened for it, and another one follows it
abbrev pub AddsBlock : List ℕ → List ℕ → List ℕ → Type 0
AddsBlock content old new = (front : List ℕ) → old ≡ front ++ latch_closed → new ≡ front ++ (block content ++ latch_closed)

-- all of a block except its latch, and the closed latch after it
abbrev pub block_tail : List ℕ → List ℕ
block_tail content = drop 4 (block content) ++ latch_closed

-- why a record of so many bytes is not written if its block has so much space
abbrev pub IsUnwritten : JournalFault → ℕ → ℕ → Type 0
IsUnwritten Memory room count = Unit {0}
IsUnwritten TooLong room count = 2 ^ 24 ≤ count
IsUnwritten Full room count = room < 11 + count
IsUnwritten fault room count = ⊥
