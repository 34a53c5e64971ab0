-- Files in memory whose changes are durable at once: they do what the system's calls are trusted to do, so these contracts can be met.
use Rattle.std.specs.Prelude.{◌≡◌, ◌≢◌, ◌==◌, ℕ, true, false, List, [], ◌++◌, length, Option, None, Some, Ok, Err, if◌then◌else◌}
use Rattle.std.specs.IoError.{error_kind}
use Rattle.std.specs.Str.{bytes_eq}
use Rattle.std.specs.declared.io.Error.{Error}
use Rattle.tb_edge_file.specs.Names.{ChangesName, Creates, Empties, Finds, IsUntouched, Names, Opens, ReadsAll, SyncsFile, SyncsName, WritesAll}
use Rattle.tb_edge_names.specs.declared.served.Status.{Status}
use Rattle.tb_edge_names.specs.Served.{Follows, Identifies, Links, file_number, is_absence}

pub record Folder : Type 0 where
  pub leads : List ℕ → Option ℕ  -- the file of a name
  pub bytes : ℕ → List ℕ

abbrev pub names_in : Folder → Names
names_in folder = record {
  leads = folder.leads;
  is_link = λ name. false;
  bytes = folder.bytes;
  may_lead = λ name left. left ≡ folder.leads name;
  may_leave = λ file left. left ≡ folder.bytes file;
  sound_name = λ name. true;
  sound = λ file. true;
}

abbrev pub with_name : Folder → List ℕ → Option ℕ → Folder
with_name folder name target = record { leads = λ other. if bytes_eq other name then target else folder.leads other; bytes = folder.bytes }

abbrev pub with_file : Folder → ℕ → List ℕ → Folder
with_file folder file bytes = record { leads = folder.leads; bytes = λ other. if other == file then bytes else folder.bytes other }

-- what each call does to such files, if it succeeds, and a look at a name that leads to none
pub record CanBeMet : Type 0 where
  pub same : (folder : Folder) → IsUntouched (names_in folder) (names_in folder)
  pub finds_none : (folder : Folder) (name : List ℕ) (error : Error) → folder.leads name ≡ None → Finds name (Err error) (names_in folder) (names_in folder)
  pub follows : (folder : Folder) (name : List ℕ) (status : Status) → folder.leads name ≡ Some (file_number status.identity)
      → status.len ≡ length (folder.bytes (file_number status.identity)) → Follows ⊥ name (Ok status) (names_in folder) (names_in folder)
  pub misses : (folder : Folder) (name : List ℕ) (error : Error) → folder.leads name ≡ None → is_absence (error_kind error) ≡ true
      → Follows ⊥ name (Err error) (names_in folder) (names_in folder)
  pub identifies : (folder : Folder) (status : Status) → Identifies (file_number status.identity) (Ok status) (names_in folder) (names_in folder)
  pub opens : (folder : Folder) (name : List ℕ) (file : ℕ) → folder.leads name ≡ Some file
      → Opens (λ (it : ℕ). it) name (Ok file) (names_in folder) (names_in folder)
  pub creates : (folder : Folder) (name : List ℕ) (file : ℕ) → folder.leads name ≡ None → ((other : List ℕ) → folder.leads other ≢ Some file)
      → Creates (λ (it : ℕ). it) name (Ok file) (names_in folder) (names_in (with_file (with_name folder name (Some file)) file []))
  pub links : (folder : Folder) (name new : List ℕ) → folder.leads new ≡ None
      → Links {E = Error} name new (Ok tt) (names_in folder) (names_in (with_name folder new (folder.leads name)))
  pub empties : (folder : Folder) (name : List ℕ) (file : ℕ) → folder.leads name ≡ Some file
      → Empties (λ (it : ℕ). it) name (Ok file) (names_in folder) (names_in (with_file folder file []))
  pub reads : (folder : Folder) (file : ℕ) (into : List ℕ) → ReadsAll file into (into ++ folder.bytes file) (Ok tt) (names_in folder) (names_in folder)
  pub writes : (folder : Folder) (file : ℕ) (bytes : List ℕ) → WritesAll file bytes (Ok tt) (names_in folder) (names_in (with_file folder file bytes))
  pub syncs : (folder : Folder) (file : ℕ) → SyncsFile file (Ok tt) (names_in folder) (names_in folder)
  pub syncs_name : (folder : Folder) (name : List ℕ) → SyncsName {E = Error} name (Ok tt) (names_in folder) (names_in folder)
  pub removes : (folder : Folder) (name : List ℕ) → ChangesName name (names_in folder) (names_in (with_name folder name None))
