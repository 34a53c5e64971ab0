-- A file that is read while another program may append to it.
use Rattle.std.specs.Prelude.{◌≡◌, ℕ, List, length, Result, Ok, Err, IfOk, OnOk}
use Rattle.tb_file_journal.specs.declared.faults.JournalFault.{JournalFault}
use Rattle.tb_file_journal.specs.Contents.{Contents, NotAJournal, Damaged, Records, contents}
use Rattle.tb_file_journal.specs.Growing.{Extends, Grown, Later}
use Rattle.tb_edge_commands.specs.Streams.{Change, new, old}

module _ {D : Type 0} (whole holds : D → List ℕ → Type 0) where
  -- a device looked at its file again. What it holds is later than this file, and represents all that the whole file represented at some
  -- moment of the call
  pub record LooksAgain (before after : D) (file : List ℕ) : Type 0 where
    pub later : List ℕ
    pub since : Later file later
    pub held : holds after later
    pub first : List ℕ
    pub was : whole before first
    pub moment : List ℕ
    pub grown : Later first moment
    pub all : contents later ≡ contents moment

  -- or it failed, and still holds what it held
  abbrev pub RefreshesFile : D → D → List ℕ → Result (Unit {0}) JournalFault → Type 0
  RefreshesFile before after file (Ok done) = LooksAgain before after file
  RefreshesFile before after file (Err fault) = holds after file

  -- the same for any file that it held
  abbrev pub RefreshesHeld : Result (Unit {0}) JournalFault → D → D → Type 0
  RefreshesHeld result before after = (file : List ℕ) → holds before file → RefreshesFile before after file result

-- the whole file had this many bytes at some moment of a call
abbrev pub MeasuresWhole : {D : Type 0} → (D → List ℕ → Type 0) → Result ℕ JournalFault → D → D → Type 0
MeasuresWhole whole len before after = (file : List ℕ) → whole before file → Grown (whole after) file (λ later. IfOk len (λ n. n ≡ length later))

-- a whole file, by what the part of it that a device holds represents: it extends these records, or is refused as the part is
abbrev pub WholeOf : Contents → List ℕ → List ℕ → Type 0
WholeOf (Records records) file whole = Extends records file whole
WholeOf (Damaged at) file whole = contents whole ≡ Damaged at
WholeOf NotAJournal file whole = contents whole ≡ NotAJournal

-- a whole file of which a device holds this part has this many bytes
pub record IsWholeLength (file : List ℕ) (len : ℕ) : Type 0 where
  pub whole : List ℕ
  pub goes_on : WholeOf (contents file) file whole
  pub long : len ≡ length whole

-- what only contracts of private functions cite: a device looked at its file again, whatever it held
abbrev pub LooksOnOk : {D T F : Type 0} → (D → List ℕ → Type 0) → (D → List ℕ → Type 0) → Result T F → Change D → Type 0
LooksOnOk whole holds result device =
    (file : List ℕ) → holds (old device) file → OnOk result (LooksAgain whole holds (old device) (new device) file)
