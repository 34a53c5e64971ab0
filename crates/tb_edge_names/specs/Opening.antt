-- What opens the files of a file system: what it makes, never makes, locks and syncs.
use Rattle.std.specs.Prelude.{◌≡◌, ℕ, List, Option, Some, Result, IfOk}
use Rattle.tb_file_journal.specs.Device.{Disk}
use Rattle.tb_edge_file.specs.Names.{IsUntouched, Names}
use Rattle.tb_edge_file.specs.declared.openers.OpeningFault.{OpeningFault}
use Rattle.tb_edge_names.specs.declared.served.Identity.{Identity}
use Rattle.tb_edge_names.specs.Served.{IsServed, MakesOnly, NameStays, file_number}

module _ {S D : Type 0} (numbered : S → ℕ) (locked : S → Type 0) (disk : D → Disk) (name : List ℕ) (answer : Result D OpeningFault) (before after : Names) where
  -- the name leads to a file that was opened, locked and synced, and of which nothing is lost in a crash
  abbrev pub Serves : Type 0
  Serves = IfOk answer (λ device. (identity : Identity) × IsServed numbered locked name identity (disk device) after)

  -- a file that exists is to be served: nothing is made
  pub record TakesServed : Type 0 where
    pub same : IsUntouched before after
    pub serves : Serves

  -- a file is to be served, and is made if it is missing: no other name and no file that was there changes, and its name is durable
  pub record MakesServed : Type 0 where
    pub makes : MakesOnly name before after
    pub serves : Serves
    pub durable : IfOk answer (λ device. NameStays name before after)

-- a file that exists is to be read: nothing is made, and it is noted which file it is
pub record OpensRead {E : Type 0} (name : List ℕ) (answer : Result E OpeningFault) (reading : Option Identity) (before after : Names) : Type 0 where
  pub same : IsUntouched before after
  pub noted : IfOk answer (λ device. (file : Identity) × (reading ≡ Some file) × (before.leads name ≡ Some (file_number file)))
