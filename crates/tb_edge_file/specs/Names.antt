-- The names of files, what the system's calls do to them, and what a crash may leave.
use Rattle.std.specs.Prelude.{◌≡◌, ◌≢◌, ℕ, Bool, true, false, List, [], ◌++◌, length, Option, None, Some, Result, IfOk, IfErr, OnOk, OnErr}
use Rattle.std.specs.IoError.{error_kind}
use Rattle.std.specs.declared.io.Error.{Error}
use Rattle.std.specs.declared.io.ErrorKind.TheVariants as kinds
use Rattle.tb_file_journal.specs.Device.{Only}
use Rattle.tb_edge_file.specs.declared.file_systems.Found.{Found}

-- files, by numbers of their own, and the names that lead to them. Nobody else changes them meanwhile
pub record Names : Type 1 where
  pub leads : List ℕ → Option ℕ  -- the file that a name leads to, or none
  pub is_link : List ℕ → Bool  -- the name is that of a symbolic link
  pub bytes : ℕ → List ℕ  -- what a read of a file returns
  pub may_lead : List ℕ → Option ℕ → Type 0  -- where a crash at this moment may leave a name leading
  pub may_leave : ℕ → List ℕ → Type 0  -- the bytes that it may leave of a file
  pub sound_name : List ℕ → Bool  -- no sync of the folder of this name has failed
  pub sound : ℕ → Bool  -- no sync of this file has failed

-- a name leads where it led, and a crash leaves nothing of it that it might not have left before
pub record KeepsName (before after : Names) (name : List ℕ) : Type 0 where
  pub leads : after.leads name ≡ before.leads name
  pub link : after.is_link name ≡ before.is_link name
  pub crash : (file : Option ℕ) → after.may_lead name file → before.may_lead name file
  pub sound : after.sound_name name ≡ before.sound_name name

-- a file has the bytes that it had, and a crash leaves nothing of it that it might not have left before
pub record KeepsFile (before after : Names) (file : ℕ) : Type 0 where
  pub bytes : after.bytes file ≡ before.bytes file
  pub crash : (left : List ℕ) → after.may_leave file left → before.may_leave file left
  pub sound : after.sound file ≡ before.sound file

-- all is as it was
pub record IsUntouched (before after : Names) : Type 0 where
  pub names : (name : List ℕ) → KeepsName before after name
  pub files : (file : ℕ) → KeepsFile before after file

-- all is as it was, except one file
pub record ChangesFile (file : ℕ) (before after : Names) : Type 0 where
  pub names : (name : List ℕ) → KeepsName before after name
  pub files : (other : ℕ) → other ≢ file → KeepsFile before after other

-- all is as it was, except one name
pub record ChangesName (name : List ℕ) (before after : Names) : Type 0 where
  pub names : (other : List ℕ) → other ≢ name → KeepsName before after other
  pub files : (file : ℕ) → KeepsFile before after file

-- a name leads to a file of so many bytes, and not by a link
pub record IsRegular (name : List ℕ) (len : ℕ) (names : Names) : Type 0 where
  pub file : ℕ
  pub leads : names.leads name ≡ Some file
  pub link : names.is_link name ≡ false
  pub len_is : len ≡ length (names.bytes file)

-- whether a name is that of a regular file, and of how many bytes; or that nothing has it
pub record Finds (name : List ℕ) (result : Result Found Error) (before after : Names) : Type 0 where
  pub found : IfOk result (λ found. found.is_file ≡ true → IsRegular name found.len before)
  pub missing : IfErr result (λ error. error_kind error ≡ kinds.NotFound → before.leads name ≡ None)
  pub same : IsUntouched before after

-- the file that a name leads to was opened
pub record Opens {F : Type 0} (number : F → ℕ) (name : List ℕ) (result : Result F Error) (before after : Names) : Type 0 where
  pub opened : IfOk result (λ file. before.leads name ≡ Some (number file))
  pub same : IsUntouched before after

-- a name that led to no file leads to a new one without bytes
pub record IsNew (name : List ℕ) (file : ℕ) (before after : Names) : Type 0 where
  pub none : before.leads name ≡ None
  pub fresh : (other : List ℕ) → before.leads other ≢ Some file
  pub leads : after.leads name ≡ Some file
  pub link : after.is_link name ≡ false
  pub sound_name : after.sound_name name ≡ before.sound_name name
  pub empty : after.bytes file ≡ []
  pub sound : after.sound file ≡ true
  pub names : (other : List ℕ) → other ≢ name → KeepsName before after other
  pub files : (other : ℕ) → other ≢ file → KeepsFile before after other

pub record Creates {F : Type 0} (number : F → ℕ) (name : List ℕ) (result : Result F Error) (before after : Names) : Type 0 where
  pub created : IfOk result (λ file. IsNew name (number file) before after)
  pub same : OnErr result (IsUntouched before after)

-- the file that a name leads to was emptied
pub record IsEmptied (name : List ℕ) (file : ℕ) (before after : Names) : Type 0 where
  pub leads : before.leads name ≡ Some file
  pub empty : after.bytes file ≡ []
  pub sound : after.sound file ≡ before.sound file
  pub rest : ChangesFile file before after

pub record Empties {F : Type 0} (number : F → ℕ) (name : List ℕ) (result : Result F Error) (before after : Names) : Type 0 where
  pub emptied : IfOk result (λ file. IsEmptied name (number file) before after)
  pub same : OnErr result (IsUntouched before after)

-- a file was read to its end
pub record ReadsAll (file : ℕ) (old new : List ℕ) (result : Result (Unit {0}) Error) (before after : Names) : Type 0 where
  pub read : OnOk result (new ≡ old ++ before.bytes file)
  pub same : IsUntouched before after

-- bytes were written into a file that had none, or some of them were
pub record WritesAll (file : ℕ) (bytes : List ℕ) (result : Result (Unit {0}) Error) (before after : Names) : Type 0 where
  pub written : OnOk result (before.bytes file ≡ [] → after.bytes file ≡ bytes)
  pub sound : after.sound file ≡ before.sound file
  pub rest : ChangesFile file before after

-- a file was synced: a crash then leaves what a read returns, if no sync of it has failed before
pub record SyncsFile (file : ℕ) (result : Result (Unit {0}) Error) (before after : Names) : Type 0 where
  pub durable : OnOk result (before.sound file ≡ true → Only (before.bytes file) (after.may_leave file))
  pub sound : OnOk result (after.sound file ≡ before.sound file)
  pub bytes : after.bytes file ≡ before.bytes file
  pub rest : ChangesFile file before after

-- the folder of a name was synced: a crash then leaves the name leading where it leads, if it is no link and no sync of the folder has failed before
pub record SyncsName {E : Type 0} (name : List ℕ) (result : Result (Unit {0}) E) (before after : Names) : Type 0 where
  pub durable : OnOk result (before.sound_name name ≡ true → before.is_link name ≡ false
      → (file : Option ℕ) → after.may_lead name file → file ≡ before.leads name)
  pub leads : after.leads name ≡ before.leads name
  pub rest : ChangesName name before after

-- names of which no proof knows anything
abbrev pub unknown : Names
unknown = record {
  leads = λ name. None;
  is_link = λ name. false;
  bytes = λ file. [];
  may_lead = λ name left. ⊥;
  may_leave = λ file left. ⊥;
  sound_name = λ name. true;
  sound = λ file. true;
}
