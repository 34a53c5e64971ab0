-- Laws about what a dump writes of a file that grows.
use Rattle.std.specs.Prelude.{ℕ, ◌≡◌, List, ◌++◌, Option, None}
use Rattle.tb_file_journal.specs.Contents.{Records, contents}
use Rattle.tb_file_journal.specs.Growing.{Later}
use Rattle.tb_file.specs.declared.recovering.Rules.{Rules}
use Rattle.tb_file.specs.Reading.{dump_with}
use Rattle.tb_edge_file.specs.Following.{part_of}

-- a later file represents records, and the same part of these begins with these bytes
pub record DumpGoesOn (after : Option ℕ) (rules : Rules) (written later : List ℕ) : Type 0 where
  pub records : List (List ℕ)
  pub reads : contents later ≡ Records records
  pub rest : List ℕ
  pub begins : part_of after rules records ≡ written ++ rest

-- the part of a file's history that is written at one moment is a prefix of that of each later moment
abbrev pub PartsGoOn : Type 0
PartsGoOn = (after : Option ℕ) (rules : Rules) (file later : List ℕ) (records : List (List ℕ)) → contents file ≡ Records records → Later file later
    → DumpGoesOn after rules (part_of after rules records) later

-- a dump is the part for which no commit number is given
abbrev pub DumpsAreParts : Type 0
DumpsAreParts = (rules : Rules) (records : List (List ℕ)) → dump_with rules records ≡ part_of None rules records
