-- A journal's file that another process appends to by commits while it is read.
use Rattle.std.specs.Prelude.{◌≡◌, ℕ, List, [], ◌∷◌, ◌++◌, take, codes, refl}
use Rattle.tb_file_journal.specs.Checksum.{byte_on, bit_on}
use Rattle.tb_file_journal.specs.Contents.{latch_closed, block, Contents, NotAJournal, Damaged, Records, contents, records_end}

-- commits went on: the records are there byte for byte, and there may be more records after them. Bytes after the closed latch have no meaning
pub record Extends (records : List (List ℕ)) (file later : List ℕ) : Type 0 where
  pub more : List (List ℕ)
  pub reads : contents later ≡ Records (records ++ more)
  pub same : take (records_end records) later ≡ take (records_end records) file

-- by what the earlier file represents: nobody appends to a file that is damaged or no journal
abbrev pub LaterThan : Contents → List ℕ → List ℕ → Type 0
LaterThan (Records records) file later = Extends records file later
LaterThan (Damaged at) file later = later ≡ file
LaterThan NotAJournal file later = later ≡ file

-- the same file at a later moment, unless the machine lost power meanwhile
abbrev pub Later : List ℕ → List ℕ → Type 0
Later file later = LaterThan (contents file) file later

-- a file that has grown meanwhile, to bytes that have P
pub record Grown (grows : List ℕ → Type 0) (file : List ℕ) (P : List ℕ → Type 0) : Type 0 where
  pub later : List ℕ
  pub after : Later file later
  pub now : grows later
  pub has : P later

-- a file that grows during a call has grown to bytes that have P
abbrev pub HasGrown : (List ℕ → Type 0) → (List ℕ → Type 0) → (List ℕ → Type 0) → Type 0
HasGrown before after P = (file : List ℕ) → before file → Grown after file P

-- examples

-- a batch is written after the closed latch, and then its latch is opened
pub writes_behind_the_latch : Later (codes "TBJRNL02" ++ latch_closed) (codes "TBJRNL02" ++ (latch_closed ++ 2 ∷ 0 ∷ []))
writes_behind_the_latch = record { more = []; reads = refl; same = refl }

pub opens_the_latch : Later (codes "TBJRNL02" ++ (latch_closed ++ 2 ∷ 0 ∷ [])) (codes "TBJRNL02" ++ (block (codes "ab") ++ latch_closed))
unfolding byte_on bit_on
opens_the_latch = record { more = codes "ab" ∷ []; reads = refl; same = refl }
