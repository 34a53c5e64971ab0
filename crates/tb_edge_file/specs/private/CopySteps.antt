-- The steps of a copy: what has its name, what was written, and what was synced.
use Rattle.std.specs.Prelude.{◌≡◌, ℕ, true, false, List, [], Some, Result, OnOk}
use Rattle.tb_file_journal.specs.Device.{Only}
use Rattle.tb_edge_file.specs.declared.asides.Uncopied.{Uncopied}
use Rattle.tb_edge_file.specs.Names.{ChangesFile, Names}

-- a name is not that of a link
abbrev pub IsPlain : Names → List ℕ → Type 0
IsPlain names name = names.is_link name ≡ false

-- a name leads to a file of exactly these bytes, and not by a link
pub record Has (names : Names) (name bytes : List ℕ) : Type 0 where
  pub file : ℕ
  pub leads : names.leads name ≡ Some file
  pub link : names.is_link name ≡ false
  pub seen : names.bytes file ≡ bytes

-- the same, and a crash leaves these bytes in the file
pub record IsWritten (before after : Names) (name bytes : List ℕ) : Type 0 where
  pub file : ℕ
  pub leads : after.leads name ≡ Some file
  pub link : after.is_link name ≡ false
  pub seen : after.bytes file ≡ bytes
  pub bytes_stay : Only bytes (after.may_leave file)
  pub sound_name : after.sound_name name ≡ before.sound_name name

-- bytes were written into a file that had none, and synced, or some of them were
pub record IsFilled (file : ℕ) (bytes : List ℕ) (result : Result (Unit {0}) Uncopied) (before after : Names) : Type 0 where
  pub seen : OnOk result (before.bytes file ≡ [] → after.bytes file ≡ bytes)
  pub stay : OnOk result (before.bytes file ≡ [] → before.sound file ≡ true → Only bytes (after.may_leave file))
  pub rest : ChangesFile file before after
