-- The new file of a copy, which has a name of its own until all of it is durable.
use Rattle.std.specs.Prelude.{◌≡◌, ◌≢◌, ℕ, true, false, List, ◌++◌, codes, Option, None, Some, Result, IfOk, OnOk}
use Rattle.tb_file_journal.specs.Device.{Disk}
use Rattle.tb_edge_file.specs.Names.{KeepsFile, KeepsName, Names}
use Rattle.tb_edge_file.specs.declared.openers.OpeningFault.{OpeningFault}
use Rattle.tb_edge_names.specs.declared.served.Identity.{Identity}
use Rattle.tb_edge_names.specs.Served.{IsServed, file_number}

-- the name that a new file has before it gets its own
abbrev pub part_name : List ℕ → List ℕ
part_name name = name ++ codes ".part"

-- no other name changed, and no file that another name leads to
pub record RemakesOnly (name : List ℕ) (before after : Names) : Type 0 where
  pub names : (other : List ℕ) → other ≢ name → KeepsName before after other
  pub files : (file : ℕ) (other : List ℕ) → other ≢ name → before.leads other ≡ Some file → KeepsFile before after file

-- a file is made for a name that leads to none, under the name of its part: locked, and durable as it was made
pub record CreatesPart {S D : Type 0} (numbered : S → ℕ) (locked : S → Type 0) (identity : D → Identity) (disk : D → Disk) (part name : List ℕ) (answer : Result D OpeningFault)
    (before after : Names) : Type 0 where
  pub none : IfOk answer (λ device. before.leads name ≡ None)
  pub makes : RemakesOnly part before after
  pub serves : IfOk answer (λ device. IsServed numbered locked part (identity device) (disk device) after)

-- the name of a part was taken away, and the folder of its own name was synced
pub record SettlesName {E : Type 0} (part name : List ℕ) (answer : Result (Unit {0}) E) (before after : Names) : Type 0 where
  pub leads : after.leads name ≡ before.leads name
  pub names : (other : List ℕ) → other ≢ name → other ≢ part → KeepsName before after other
  pub files : (file : ℕ) → KeepsFile before after file
  pub stays : OnOk answer (before.sound_name name ≡ true → before.is_link name ≡ false → (left : Option ℕ) → after.may_lead name left → left ≡ before.leads name)

-- the part of this identity gets a name that leads to none: no other name but its own changes, and no file. A crash then leaves the name so, if the
-- part was no link and no sync of the folder had failed before
pub record GivesName {E : Type 0} (part name : List ℕ) (identity : Identity) (answer : Result (Unit {0}) E) (before after : Names) : Type 0 where
  pub led : OnOk answer (before.leads part ≡ Some (file_number identity))
  pub none : OnOk answer (before.leads name ≡ None)
  pub leads : OnOk answer (after.leads name ≡ Some (file_number identity))
  pub names : (other : List ℕ) → other ≢ name → other ≢ part → KeepsName before after other
  pub files : (file : ℕ) → KeepsFile before after file
  pub stays : OnOk answer (before.sound_name name ≡ true → before.is_link part ≡ false → (left : Option ℕ) → after.may_lead name left
      → left ≡ Some (file_number identity))

-- the same, from a moment on, after what others did before
pub record NamesPart {F : Type 0} (names : F → Names) (part name : List ℕ) (identity : Identity) (answer : Result (Unit {0}) OpeningFault) (after : Names) : Type 0 where
  pub moment : F
  pub gives : GivesName part name identity answer (names moment) after
