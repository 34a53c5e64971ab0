-- The name of a file that was opened, and what opens files.
use Rattle.std.specs.Prelude.{◌≡◌, ℕ, List, Option, MatchOption, string_bytes}
use Rattle.tb_edge_file.specs.Names.{Names}
use Rattle.tb_edge_file.specs.declared.openers.Waited.{Waited}
use Rattle.tb_edge_file.specs.declared.openers.Waited.TheVariants.{Enough}
use Rattle.tb_edge_names.specs.declared.named_files.NamedFiles.{NamedFiles}
use Rattle.tb_edge_names.specs.declared.names.Name.{Name}
use Rattle.tb_edge_names.specs.declared.served.Identity.{Identity}
use Rattle.tb_edge_names.specs.Served.{WaitsFor, file_number}

abbrev pub path_of : {F N C : Type 0} → Name F N C → List ℕ
path_of name = string_bytes name.path

abbrev pub identity_of : {F N C : Type 0} → Name F N C → Identity
identity_of name = name.opened

-- the file that was opened last to be read
abbrev pub reading_of : {F H C : Type 0} → NamedFiles F H C → Option Identity
reading_of files = files.reading

-- a wait for more commits of the file that was opened last to be read, if one was, by a look at its name
pub record Pauses (Failed : Type 0) (reading left : Option Identity) (name : List ℕ) (answer : Waited) (now : Names) : Type 0 where
  pub same : left ≡ reading
  pub waits : MatchOption reading (answer ≡ Enough) (λ file. WaitsFor Failed now name (file_number file) answer)
