-- Laws of files that grow while they are read.
use Rattle.std.specs.Prelude.{◌≡◌, ℕ, Bool, List}
use Rattle.tb_file_journal.specs.Contents.{Records, contents}
use Rattle.tb_file_journal.specs.Growing.{Extends, Later}
use Rattle.tb_file_journal.specs.Snapshots.{ShowsOf}

-- a file is later than itself
abbrev pub EachMomentIsLater : Type 0
EachMomentIsLater = (file : List ℕ) → Later file file

-- moments follow one another
abbrev pub LaterMomentsFollow : Type 0
LaterMomentsFollow = (first next last : List ℕ) → Later first next → Later next last → Later first last

-- the records that a snapshot shows are a prefix of the records at every later moment of its file
abbrev pub ShownIsAPrefix : Type 0
ShownIsAPrefix = (closed : Bool) (end len : ℕ) (met shown last : List ℕ) (records : List (List ℕ)) → ShowsOf closed end len met shown → Later met last
    → contents shown ≡ Records records → Extends records shown last
