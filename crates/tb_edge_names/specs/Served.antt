-- Files that are served: what the system says of them, and how they are opened.
use Rattle.std.specs.Prelude.{◌≡◌, ◌≢◌, ℕ, ◌+◌, ◌*◌, ◌^◌, Bool, true, false, List, length, Option, None, Some, Result, IfOk, OnOk, MatchResult}
use Rattle.std.specs.IoError.{error_kind}
use Rattle.std.specs.declared.io.ErrorKind.{ErrorKind}
use Rattle.std.specs.declared.io.ErrorKind.TheVariants.{NotADirectory, NotFound}
use Rattle.std.specs.declared.io.Error.{Error}
use Rattle.tb_file_journal.specs.Device.{AddsNone, Disk, IsSettled}
use Rattle.tb_edge_file.specs.Names.{ChangesName, IsUntouched, KeepsFile, KeepsName, Names}
use Rattle.tb_edge_file.specs.declared.asides.Reason.{Reason}
use Rattle.tb_edge_file.specs.declared.asides.Reason.TheVariants.{Gone, NotCopied, Unseen}
use Rattle.tb_edge_file.specs.declared.openers.Waited.{Waited}
use Rattle.tb_edge_file.specs.declared.openers.Waited.TheVariants.{Enough, More, Parted}
use Rattle.tb_edge_names.specs.declared.served.Identity.{Identity}
use Rattle.tb_edge_names.specs.declared.served.Status.{Status}

-- files are numbered by their device and their inode
unfoldable pub file_number : Identity → ℕ
file_number identity = identity.device * 2 ^ 64 + identity.inode

-- an error of this kind says that there is nothing of a name
abbrev pub is_absence : ErrorKind → Bool
is_absence NotFound = true
is_absence NotADirectory = true
is_absence kind = false

-- a look at a name failed: there is nothing of this name, or it is not known
abbrev pub Misses : Type 0 → Option ℕ → Bool → Type 0
Misses Failed target true = target ≡ None
Misses Failed target false = Failed

-- what a name leads to
pub record Follows (Failed : Type 0) (name : List ℕ) (result : Result Status Error) (before after : Names) : Type 0 where
  pub leads : IfOk result (λ status. before.leads name ≡ Some (file_number status.identity))
  pub len : IfOk result (λ status. status.len ≡ length (before.bytes (file_number status.identity)))
  pub missed : MatchResult result (λ status. Unit {0}) (λ error. Misses Failed (before.leads name) (is_absence (error_kind error)))
  pub same : IsUntouched before after

-- what an open file is
pub record Identifies (file : ℕ) (result : Result Status Error) (before after : Names) : Type 0 where
  pub is : IfOk result (λ status. file_number status.identity ≡ file)
  pub same : IsUntouched before after

-- a name that led to none leads where another one leads, and is a link if that is one
pub record IsLinked (name new : List ℕ) (before after : Names) : Type 0 where
  pub none : before.leads new ≡ None
  pub leads : after.leads new ≡ before.leads name
  pub link : after.is_link new ≡ before.is_link name
  pub sound_name : after.sound_name new ≡ before.sound_name new

-- what has a name got another one, or did not
pub record Links {E : Type 0} (name new : List ℕ) (result : Result (Unit {0}) E) (before after : Names) : Type 0 where
  pub linked : OnOk result (IsLinked name new before after)
  pub rest : ChangesName new before after

-- a name leads to a file that is open, of which a read returns what is in it
pub record IsOpenAt {S : Type 0} (numbered : S → ℕ) (disk : S → Disk) (name : List ℕ) (file : S) (names : Names) : Type 0 where
  pub leads : names.leads name ≡ Some (numbered file)
  pub seen : (disk file).seen ≡ names.bytes (numbered file)

-- a name leads to the file of a disk, which was opened, has this identity and was locked. Nothing of it is lost in a crash
pub record IsServed {S : Type 0} (numbered : S → ℕ) (locked : S → Type 0) (name : List ℕ) (identity : Identity) (now : Disk) (names : Names) : Type 0 where
  pub file : S
  pub leads : names.leads name ≡ Some (numbered file)
  pub locked_is : locked file
  pub identity_is : file_number identity ≡ numbered file
  pub seen : now.seen ≡ names.bytes (numbered file)
  pub settled : IsSettled now

-- a name leads to the file of a disk
pub record IsReadFrom (name : List ℕ) (now : Disk) (names : Names) : Type 0 where
  pub file : ℕ
  pub leads : names.leads name ≡ Some file
  pub seen : now.seen ≡ names.bytes file

-- no other name changed, and no file that a name led to; a name that led to a file leads to it still
pub record MakesOnly (name : List ℕ) (before after : Names) : Type 0 where
  pub names : (other : List ℕ) → other ≢ name → KeepsName before after other
  pub files : (file : ℕ) (other : List ℕ) → before.leads other ≡ Some file → KeepsFile before after file
  pub stays : (file : ℕ) → before.leads name ≡ Some file → after.leads name ≡ Some file

-- a crash leaves a name leading where it leads, if it was no link and no sync of its folder had failed before
abbrev pub NameStays : List ℕ → Names → Names → Type 0
NameStays name before after =
    before.sound_name name ≡ true → before.is_link name ≡ false → (left : Option ℕ) → after.may_lead name left → left ≡ after.leads name

-- at a moment a name led to the file of this identity, which had so many bytes
pub record IsLed {F : Type 0} (names : F → Names) (name : List ℕ) (identity : Identity) (len : ℕ) : Type 0 where
  pub moment : F
  pub leads : (names moment).leads name ≡ Some (file_number identity)
  pub len_is : length ((names moment).bytes (file_number identity)) ≡ len

-- why a name is not taken to lead to a file: it leads to another one or to none; or a look at it failed
abbrev pub Parts : Type 0 → Names → List ℕ → ℕ → Reason → Type 0
Parts Failed now name file Gone = now.leads name ≢ Some file
Parts Failed now name file Unseen = Failed
Parts Failed now name file (NotCopied why) = ⊥

-- a wait for more commits of this file ended so: as long as its name leads to it, there may be more, and nothing else ends that
abbrev pub WaitsFor : Type 0 → Names → List ℕ → ℕ → Waited → Type 0
WaitsFor Failed now name file More = now.leads name ≡ Some file
WaitsFor Failed now name file Enough = ⊥
WaitsFor Failed now name file (Parted reason) = Parts Failed now name file reason

-- what only contracts of private functions cite

-- a look at the name of this file, which leads to it, or it is known why not
pub record LooksFor (Failed : Type 0) (name : List ℕ) (file : ℕ) (result : Result Status Reason) (before after : Names) : Type 0 where
  pub leads : IfOk result (λ status. before.leads name ≡ Some file)
  pub len : IfOk result (λ status. status.len ≡ length (before.bytes file))
  pub parts : MatchResult result (λ status. Unit {0}) (λ reason. Parts Failed after name file reason)
  pub same : IsUntouched before after

-- a disk after calls that only read
pub record IsStillThere (before after : Disk) : Type 0 where
  pub seen : after.seen ≡ before.seen
  pub crash : AddsNone before after
  pub sound : after.sound ≡ before.sound

-- a name is no link if it was none, and no sync of its folder has failed since
pub record KeepsFolder (name : List ℕ) (before after : Names) : Type 0 where
  pub sound : after.sound_name name ≡ before.sound_name name
  pub link : before.is_link name ≡ false → after.is_link name ≡ false

-- at most the folder of a name was synced
pub record OnlySyncs (name : List ℕ) (before after : Names) : Type 0 where
  pub leads : after.leads name ≡ before.leads name
  pub rest : ChangesName name before after
