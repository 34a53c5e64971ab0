-- How the blocks of a file are followed by their lengths.
use Rattle.std.specs.Prelude.{◌≡◌, ◌≢◌, ◌⊎◌, ℕ, ◌+◌, ◌-◌, ◌^◌, ◌≤◌, ◌<◌, Bool, true, false, List, [], ◌++◌, length, take, drop, Result, IfOk}
use Rattle.tb_file_journal.specs.declared.faults.JournalFault.{JournalFault}
use Rattle.tb_file_journal.specs.declared.hops.Hop.{Hop}
use Rattle.tb_file_journal.specs.declared.hops.Hop.TheVariants as hops
use Rattle.tb_file_journal.specs.declared.snapshots.Found.{Found}
use Rattle.tb_file_journal.specs.Device.{ReadsAt}
use Rattle.tb_file_journal.specs.Contents.{Ends, Spoiled, front, NotAJournal, contents}
use Rattle.tb_file_journal.specs.Scans.{BeginsWith}
use Rattle.tb_file_journal.specs.Reading.{HasAhead, asked_bytes}
use Rattle.tb_file_journal.specs.Growing.{Later, Grown}
use Rattle.tb_file_journal.specs.Snapshots.{BlocksLeadTo, IsFinal, ShowsBlocks, ShowsOf, behind_blocks}

-- what is at an offset of a file, if the file at another moment has so many bytes
abbrev pub HopsTo : Hop → ℕ → List ℕ → ℕ → Type 0
HopsTo (hops.Closed end) at file len = (end ≡ at) × (front (drop at file) ≡ Ends)
HopsTo (hops.Further next) at file len = (front (drop at file) ≢ Ends) × (next ≡ at + asked_bytes (drop at file)) × (next ≤ len)
HopsTo hops.Broken at file len = (front (drop at file) ≢ Ends) × ((front (drop at file) ≡ Spoiled) ⊎ (len < at + asked_bytes (drop at file)))

-- what the blocks from an offset on lead to
abbrev pub LeadsFrom : Hop → List ℕ → List ℕ → Type 0
LeadsFrom (hops.Closed end) file later = BlocksLeadTo end file × (front (drop end file) ≡ Ends)
LeadsFrom (hops.Further next) file later = BlocksLeadTo next later
LeadsFrom hops.Broken file later = IsFinal (contents file)

-- a piece of a file that was read at one moment, and the number of its bytes at a later one
pub record HasPiece (at : ℕ) (file later piece : List ℕ) (len : ℕ) : Type 0 where
  pub ahead : HasAhead 11 at file piece
  pub after : Later file later
  pub counts : len ≡ length later

-- where a file ends, by its contents at some later moment
pub record IsEndFound (grows : List ℕ → Type 0) (file : List ℕ) (found : Found) : Type 0 where
  pub met : List ℕ
  pub after : Later file met
  pub shown : List ℕ
  pub shows : ShowsOf found.closed found.end found.len met shown
  pub later : List ℕ
  pub since : Later met later
  pub now : grows later

-- the same, and its bytes are those that were shown before, and what was committed since
pub record IsFoundOn (grows : List ℕ → Type 0) (file shown : List ℕ) (found : Found) : Type 0 where
  pub is : IsEndFound grows file found
  pub goes_on : Later shown is.shown

-- what the blocks of a file lead to, by its contents at some later moment
pub record HopsOn (grows : List ℕ → Type 0) (file : List ℕ) (hop : Hop) : Type 0 where
  pub met : List ℕ
  pub after : Later file met
  pub later : List ℕ
  pub since : Later met later
  pub now : grows later
  pub leads : LeadsFrom hop met later

-- the latch at an offset to which the blocks lead was closed when the file had so many bytes
pub record WasClosed (grows : List ℕ → Type 0) (at len : ℕ) (file : List ℕ) : Type 0 where
  pub met : List ℕ
  pub after : Later file met
  pub sized : len ≡ length met
  pub leads : BlocksLeadTo at met
  pub closed : front (drop at met) ≡ Ends
  pub later : List ℕ
  pub since : Later met later
  pub now : grows later

-- the first bytes of a file are those of a journal, or not
abbrev pub StartsAs : Bool → List ℕ → Type 0
StartsAs true file = BeginsWith [] file
StartsAs false file = contents file ≡ NotAJournal

-- a call on a growing file, of which nothing more is known
abbrev pub Grows : (List ℕ → Type 0) → (List ℕ → Type 0) → Type 0
Grows before after = (bytes : List ℕ) → before bytes → Grown after bytes (λ later. Unit {0})

-- where the blocks of a piece lead
abbrev pub FollowsPiece : Hop → ℕ → List ℕ → ℕ → Type 0
FollowsPiece hop at piece len = (file later : List ℕ) → HasPiece at file later piece len → BlocksLeadTo at file → LeadsFrom hop file later

-- where the blocks of a growing file lead
abbrev pub HopsFrom : (List ℕ → Type 0) → (List ℕ → Type 0) → ℕ → Result Hop JournalFault → Type 0
HopsFrom before after at result = (bytes : List ℕ) → before bytes → BlocksLeadTo at bytes → IfOk result (HopsOn after bytes)

-- the same, with the number of bytes that the file had before: a latch that is closed there was closed then
abbrev pub HopsSized : (List ℕ → Type 0) → (List ℕ → Type 0) → ℕ → Result (ℕ × Hop) JournalFault → Type 0
HopsSized before after at result = (bytes : List ℕ) → before bytes → BlocksLeadTo at bytes
    → IfOk result (λ told. HopsOn after bytes told.1 × (told.1 ≡ hops.Closed at → WasClosed after at told.0 bytes))

-- where a file ends whose blocks lead to this offset
abbrev pub Finds : (List ℕ → Type 0) → (List ℕ → Type 0) → ℕ → Result Found JournalFault → Type 0
Finds before after from result = (bytes : List ℕ) → before bytes → BlocksLeadTo from bytes → IfOk result (IsEndFound after bytes)

-- where a file ends now, if a closed latch was found at an offset
abbrev pub FindsMore : (List ℕ → Type 0) → (List ℕ → Type 0) → ℕ → Result Found JournalFault → Type 0
FindsMore before after end result = (len : ℕ) (bytes shown met : List ℕ) → before bytes → Later met bytes → ShowsBlocks end len met shown → IfOk result (IsFoundOn after bytes shown)

-- whether a closed latch is there
abbrev pub FindsLatch : ℕ → List ℕ → Bool → Type 0
FindsLatch end file true = front (drop end file) ≡ Ends
FindsLatch end file false = front (drop end file) ≢ Ends

-- whether the latch at an offset is closed, and how many bytes the file had before that was checked
pub record FindsEnd (grows : List ℕ → Type 0) (end : ℕ) (bytes : List ℕ) (told : ℕ × Bool) : Type 0 where
  pub sized : Grown grows bytes (λ later. Unit {0})
  pub is : FindsLatch end sized.later told.1
  pub before : List ℕ
  pub after : Later bytes before
  pub since : Later before sized.later
  pub long : told.0 ≡ length before

-- whether a file begins as a journal
abbrev pub FindsStart : (List ℕ → Type 0) → (List ℕ → Type 0) → Result Bool JournalFault → Type 0
FindsStart before after result = (bytes : List ℕ) → before bytes → Grown after bytes (λ later. IfOk result (λ begins. StartsAs begins later))

-- what is read of blocks, a closed latch and what follows it
abbrev pub ReadsBlocks : (List ℕ → Type 0) → (List ℕ → Type 0) → ℕ → ℕ → ℕ → List ℕ → Result ℕ JournalFault → Type 0
ReadsBlocks before after end len at into result = (bytes : List ℕ) → before bytes
    → Grown after bytes (λ later. end ≤ length later → IfOk result (λ count. ReadsAt count at (take end later ++ behind_blocks (len - (end + 4))) into))

-- a read of a file: what is shown after the blocks was written over the bytes that were read there
abbrev pub Closes : ℕ → ℕ → ℕ → ℕ → List ℕ → List ℕ → Result ℕ JournalFault → Type 0
Closes count at end len read into result = (file : List ℕ) → end ≤ length file → ReadsAt count at file read
    → IfOk result (λ told. ReadsAt told at (take end file ++ behind_blocks (len - (end + 4))) into)

-- an offset far below the greatest one
abbrev pub IsNear : ℕ → Type 0
IsNear end = end ≤ 2 ^ 62 + 2 ^ 63
