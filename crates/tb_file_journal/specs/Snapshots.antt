-- What a snapshot of a file shows while the file grows.
use Rattle.std.specs.Prelude.{◌≡◌, ◌⊎◌, ℕ, ◌+◌, ◌-◌, ◌≤◌, Bool, true, false, List, ◌++◌, length, take, drop, replicate}
use Rattle.tb_file_journal.specs.Contents.{latch_closed, Ends, Spoiled, front, Contents, NotAJournal, Damaged, Records, contents, records_end}
use Rattle.tb_file_journal.specs.Scans.{BeginsWith}
use Rattle.tb_file_journal.specs.Reading.{asked_bytes}
use Rattle.tb_file_journal.specs.Growing.{Later}

-- a file, the offset at which the blocks of a snapshot of it end, how many bytes it had then, and whether a closed latch was found there
pub record Snapped (G : Type 0) : Type 0 where
  pub file : G
  pub end : ℕ
  pub len : ℕ
  pub closed : Bool

-- a closed latch, and so many bytes without a meaning
abbrev pub behind_blocks : ℕ → List ℕ
behind_blocks others = latch_closed ++ replicate others 0

-- the records that a file begins with end there
pub record EndsAt (end : ℕ) (file : List ℕ) : Type 0 where
  pub records : List (List ℕ)
  pub begins : BeginsWith records file
  pub is : end ≡ records_end records

-- a block before that offset has all of its bytes but another checksum
pub record HasDamageBefore (end : ℕ) (file : List ℕ) : Type 0 where
  pub records : List (List ℕ)
  pub begins : BeginsWith records file
  pub damaged : front (drop (records_end records) file) ≡ Spoiled
  pub before : records_end records + asked_bytes (drop (records_end records) file) ≤ end
  pub within : end ≤ length file

-- the blocks of a file lead to this offset by their lengths
abbrev pub BlocksLeadTo : ℕ → List ℕ → Type 0
BlocksLeadTo end file = EndsAt end file ⊎ HasDamageBefore end file

-- damaged or no journal: nobody appends to it
abbrev pub IsFinal : Contents → Type 0
IsFinal NotAJournal = Unit {0}
IsFinal (Damaged at) = Unit {0}
IsFinal (Records records) = ⊥

-- the blocks up to the closed latch that was found, that latch, and zeros in the place of what follows it: all of this at one moment
pub record ShowsBlocks (end len : ℕ) (file shown : List ℕ) : Type 0 where
  pub leads : BlocksLeadTo end file
  pub closed : front (drop end file) ≡ Ends
  pub sized : len ≡ length file
  pub is : shown ≡ take end file ++ behind_blocks (len - (end + 4))

-- a file that no longer grows, whole
pub record ShowsAll (file shown : List ℕ) : Type 0 where
  pub final : IsFinal (contents file)
  pub is : shown ≡ file

-- what a snapshot shows of a file with these bytes at the moment when its end was found
abbrev pub ShowsOf : Bool → ℕ → ℕ → List ℕ → List ℕ → Type 0
ShowsOf true end len file shown = ShowsBlocks end len file shown
ShowsOf false end len file shown = ShowsAll file shown

-- and later: the file may have grown
pub record Shows {G : Type 0} (snapshot : Snapped G) (file shown : List ℕ) : Type 0 where
  pub met : List ℕ
  pub since : Later met file
  pub shows : ShowsOf snapshot.closed snapshot.end snapshot.len met shown

-- a snapshot shows these bytes, whatever its file has become
pub record HoldsBytes {G : Type 0} (grows : G → List ℕ → Type 0) (snapshot : Snapped G) (shown : List ℕ) : Type 0 where
  pub file : List ℕ
  pub now : grows snapshot.file file
  pub shows : Shows snapshot file shown

-- a snapshot of a file represents what the file represented at some moment of the call, and has as many bytes: the verdict on it is the verdict on
-- the file
pub record TakesSnapshot {G : Type 0} (grows : G → List ℕ → Type 0) (file : List ℕ) (snapshot : Snapped G) : Type 0 where
  pub later : List ℕ
  pub after : Later file later
  pub shown : List ℕ
  pub held : HoldsBytes grows snapshot shown
  pub same : contents shown ≡ contents later
  pub long : length shown ≡ length later

-- the same for a snapshot that showed something before: its bytes are those, and what was committed since
pub record Refreshes {G : Type 0} (grows : G → List ℕ → Type 0) (file shown : List ℕ) (snapshot : Snapped G) : Type 0 where
  pub takes : TakesSnapshot grows file snapshot
  pub goes_on : Later shown takes.shown
