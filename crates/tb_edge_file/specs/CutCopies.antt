-- A copy of bytes in a file of its own.
use Rattle.std.specs.Prelude.{◌≡◌, ℕ, true, List, Option, Some}
use Rattle.tb_file_journal.specs.Device.{Only}
use Rattle.tb_edge_file.specs.Names.{Names}

-- a name leads to a file of exactly these bytes, and a crash leaves that
pub record IsKept (names : Names) (name bytes : List ℕ) : Type 0 where
  pub file : ℕ
  pub leads : names.leads name ≡ Some file
  pub seen : names.bytes file ≡ bytes
  pub name_stays : (left : Option ℕ) → names.may_lead name left → left ≡ Some file
  pub bytes_stay : Only bytes (names.may_leave file)

-- no sync of the folder of a name has failed, nor of the file that it leads to
pub record IsSoundAt (names : Names) (name : List ℕ) : Type 0 where
  pub folder : names.sound_name name ≡ true
  pub file : (file : ℕ) → names.leads name ≡ Some file → names.sound file ≡ true
