-- One call on names after the other, and what the file that was opened is then.
use Rattle.std.proofs.Common.{◌≡◌, ◌≢◌, ℕ, true, List, Option, None, Some, Result, Ok, Err, IfOk, refl, sym, ◌∙◌, ap}
use Rattle.tb_file_journal.specs.Device.{Disk, IsLookedAt, Syncs}
use Rattle.tb_edge_file.specs.Names.{Creates, IsNew, IsUntouched, KeepsFile, KeepsName, Names, Opens, SyncsName}
use Rattle.tb_edge_file.specs.declared.openers.OpeningFault.{OpeningFault}
use Rattle.tb_edge_names.specs.Opening.{MakesServed, OpensRead, Serves, TakesServed}
use Rattle.tb_edge_names.specs.declared.served.Identity.{Identity}
use Rattle.tb_edge_names.specs.Served.{IsOpenAt, IsReadFrom, IsServed, IsStillThere, KeepsFolder, MakesOnly, NameStays, OnlySyncs, file_number}

pub name_then : (a b c : Names) (name : List ℕ) → KeepsName a b name → KeepsName b c name → KeepsName a c name
name_then a b c name first second = record {
  leads = second.leads ∙ first.leads;
  link = second.link ∙ first.link;
  crash = λ x left. first.crash x (second.crash x left);
  sound = second.sound ∙ first.sound;
}

pub file_then : (a b c : Names) (file : ℕ) → KeepsFile a b file → KeepsFile b c file → KeepsFile a c file
file_then a b c file first second = record {
  bytes = second.bytes ∙ first.bytes;
  crash = λ x left. first.crash x (second.crash x left);
  sound = second.sound ∙ first.sound;
}

pub untouched_then : (a b c : Names) → IsUntouched a b → IsUntouched b c → IsUntouched a c
untouched_then a b c first second = record {
  names = λ name. name_then a b c name (first.names name) (second.names name);
  files = λ file. file_then a b c file (first.files file) (second.files file);
}

-- a file that was opened

pub open_at : {S : Type 0} (numbered : S → ℕ) (disk : S → Disk) (name : List ℕ) (file : S) (a b : Names) → Opens numbered name (Ok file) a b
    → (disk file).seen ≡ b.bytes (numbered file) → IsOpenAt numbered disk name file b
open_at numbered disk name file a b opens seen = record { leads = (opens.same.names name).leads ∙ opens.opened; seen = seen }

pub new_at : {S : Type 0} (numbered : S → ℕ) (disk : S → Disk) (name : List ℕ) (file : S) (a b : Names) → Creates numbered name (Ok file) a b
    → (disk file).seen ≡ b.bytes (numbered file) → IsOpenAt numbered disk name file b
new_at numbered disk name file a b creates seen = record { leads = creates.created.leads; seen = seen }

open_still : {S : Type 0} (numbered : S → ℕ) (disk : S → Disk) (name : List ℕ) (file : S) (a b : Names) → IsUntouched a b
    → IsOpenAt numbered disk name file a → IsOpenAt numbered disk name file b
open_still numbered disk name file a b same open_ = record {
  leads = (same.names name).leads ∙ open_.leads;
  seen = open_.seen ∙ sym (same.files (numbered file)).bytes;
}

pub read_from : {S : Type 0} (numbered : S → ℕ) (disk : S → Disk) (name : List ℕ) (file : S) (a b c : Names) → Opens numbered name (Ok file) a b
    → (disk file).seen ≡ b.bytes (numbered file) → IsUntouched b c → IsReadFrom name (disk file) c
read_from numbered disk name file a b c opens seen same = record {
  file = numbered file;
  leads = (same.names name).leads ∙ (opens.same.names name).leads ∙ opens.opened;
  seen = seen ∙ sym (same.files (numbered file)).bytes;
}

-- the file that was opened has this identity
pub opened_is : {S : Type 0} (numbered : S → ℕ) (name : List ℕ) (file : S) (identity : Identity) (a b c : Names) → IsUntouched a b → Opens numbered name (Ok file) b c
    → file_number identity ≡ numbered file → a.leads name ≡ Some (file_number identity)
opened_is numbered name file identity a b c same opens is = sym (same.names name).leads ∙ opens.opened ∙ sym (ap (λ f. Some f) is)

-- what is made

pub made_none : (name : List ℕ) (a b : Names) → IsUntouched a b → MakesOnly name a b
made_none name a b same = record {
  names = λ other apart. same.names other;
  files = λ file other leads. same.files file;
  stays = λ file leads. (same.names name).leads ∙ leads;
}

made_apart : (name : List ℕ) (file : ℕ) (a b : Names) → IsNew name file a b → (one : ℕ) (other : List ℕ) → a.leads other ≡ Some one → one ≢ file
made_apart name file a b new one other leads same = new.fresh other (leads ∙ ap (λ f. Some f) same)

pub made_new : (name : List ℕ) (file : ℕ) (a b : Names) → IsNew name file a b → MakesOnly name a b
made_new name file a b new = record {
  names = new.names;
  files = λ one other leads. new.files one (made_apart name file a b new one other leads);
  stays = λ one leads. let clash : None ≡ Some one = sym new.none ∙ leads in cc;
}

pub made_then : (name : List ℕ) (a b c : Names) → MakesOnly name a b → IsUntouched b c → MakesOnly name a c
made_then name a b c made same = record {
  names = λ other apart. name_then a b c other (made.names other apart) (same.names other);
  files = λ file other leads. file_then a b c file (made.files file other leads) (same.files file);
  stays = λ file leads. (same.names name).leads ∙ made.stays file leads;
}

pub made_syncs : (name : List ℕ) (a b c : Names) → MakesOnly name a b → OnlySyncs name b c → MakesOnly name a c
made_syncs name a b c made syncs = record {
  names = λ other apart. name_then a b c other (made.names other apart) (syncs.rest.names other apart);
  files = λ file other leads. file_then a b c file (made.files file other leads) (syncs.rest.files file);
  stays = λ file leads. syncs.leads ∙ made.stays file leads;
}

pub folder_same : (name : List ℕ) (a b : Names) → IsUntouched a b → KeepsFolder name a b
folder_same name a b same = record { sound = (same.names name).sound; link = λ none. (same.names name).link ∙ none }

pub folder_new : (name : List ℕ) (file : ℕ) (a b : Names) → IsNew name file a b → KeepsFolder name a b
folder_new name file a b new = record { sound = new.sound_name; link = λ none. new.link }

pub folder_then : (name : List ℕ) (a b c : Names) → KeepsFolder name a b → IsUntouched b c → KeepsFolder name a c
folder_then name a b c first same = record {
  sound = (same.names name).sound ∙ first.sound;
  link = λ none. (same.names name).link ∙ first.link none;
}

-- its name is synced

pub only_syncs : {E : Type 0} (name : List ℕ) (result : Result (Unit {0}) E) (a b c : Names) → IsUntouched a b → SyncsName name result b c → OnlySyncs name a c
only_syncs name result a b c same syncs = record {
  leads = syncs.leads ∙ (same.names name).leads;
  rest = record {
    names = λ other apart. name_then a b c other (same.names other) (syncs.rest.names other apart);
    files = λ file. file_then a b c file (same.files file) (syncs.rest.files file);
  };
}

pub only_untouched : (name : List ℕ) (a b : Names) → IsUntouched a b → OnlySyncs name a b
only_untouched name a b same = record { leads = (same.names name).leads; rest = record { names = λ other apart. same.names other; files = same.files } }

pub name_stays : {E : Type 0} (name : List ℕ) (a b c : Names) (done : Unit {0}) → IsUntouched a b → SyncsName {E = E} name (Ok done) b c → NameStays name a c
name_stays name a b c done same syncs = λ sound link left may.
    syncs.durable ((same.names name).sound ∙ sound) ((same.names name).link ∙ link) left may ∙ sym syncs.leads

pub name_stays_since : (name : List ℕ) (a b c : Names) → KeepsFolder name a b → NameStays name b c → NameStays name a c
name_stays_since name a b c folder stays = λ sound link left may. stays (folder.sound ∙ sound) (folder.link link) left may

-- the file is served

pub served : {S : Type 0} (numbered : S → ℕ) (locked : S → Type 0) (disk : S → Disk) (name : List ℕ) (file : S) (identity : Identity) (now : Disk) (done : Unit {0})
    (a b c : Names) → IsOpenAt numbered disk name file a → (disk file).sound ≡ true → IsUntouched a b → file_number identity ≡ numbered file → IsUntouched b c
    → locked file → Syncs (Ok done) (disk file) now → IsServed numbered locked name identity now c
served numbered locked disk name file identity now done a b c opened sound first is second held syncs = record {
  file = file;
  leads = (second.names name).leads ∙ (first.names name).leads ∙ opened.leads;
  locked_is = held;
  identity_is = is;
  seen = syncs.seen ∙ opened.seen ∙ sym (first.files (numbered file)).bytes ∙ sym (second.files (numbered file)).bytes;
  settled = record { kept = λ x left. syncs.durable sound x left ∙ sym syncs.seen; sound = syncs.sound ∙ sound };
}

pub served_named : {S E : Type 0} (numbered : S → ℕ) (locked : S → Type 0) (name : List ℕ) (identity : Identity) (now : Disk) (result : Result (Unit {0}) E)
    (b c : Names) → IsServed numbered locked name identity now b → SyncsName name result b c → IsServed numbered locked name identity now c
served_named numbered locked name identity now result b c is syncs = record {
  file = is.file;
  leads = syncs.leads ∙ is.leads;
  locked_is = is.locked_is;
  identity_is = is.identity_is;
  seen = is.seen ∙ sym (syncs.rest.files (numbered is.file)).bytes;
  settled = is.settled;
}

-- calls that only read

pub there_still : (a b : Disk) → IsLookedAt a b → IsStillThere a b
there_still a b looks = record { seen = looks.seen; crash = looks.crash; sound = looks.sound }

pub there_after : (a b c : Disk) → IsLookedAt a b → IsLookedAt b c → IsStillThere a c
there_after a b c first second = record {
  seen = second.seen ∙ first.seen;
  crash = λ x left. first.crash x (second.crash x left);
  sound = second.sound ∙ first.sound;
}

pub served_still : {S : Type 0} (numbered : S → ℕ) (locked : S → Type 0) (name : List ℕ) (identity : Identity) (now later : Disk) (b : Names)
    → IsServed numbered locked name identity now b → IsStillThere now later → IsServed numbered locked name identity later b
served_still numbered locked name identity now later b is still = record {
  file = is.file;
  leads = is.leads;
  locked_is = is.locked_is;
  identity_is = is.identity_is;
  seen = still.seen ∙ is.seen;
  settled = record { kept = λ x left. is.settled.kept x (still.crash x left) ∙ sym still.seen; sound = still.sound ∙ is.settled.sound };
}

serves_then : {S D : Type 0} (numbered : S → ℕ) (locked : S → Type 0) (disk : D → Disk) (name : List ℕ) (answer : Result D OpeningFault) (before after : Names)
    (identity : Identity) (now : Disk) → IsServed numbered locked name identity now after → IfOk answer (λ device. IsStillThere now (disk device))
    → Serves numbered locked disk name answer before after
serves_then numbered locked disk name (Ok device) before after identity now is still =
    (identity, served_still numbered locked name identity now (disk device) after is still)
serves_then numbered locked disk name (Err fault) before after identity now is still = tt

of_ok : {D : Type 0} (answer : Result D OpeningFault) (P : Type 0) → P → IfOk answer (λ device. P)
of_ok (Ok device) P p = p
of_ok (Err fault) P p = tt

pub takes_served : {S D : Type 0} (numbered : S → ℕ) (locked : S → Type 0) (disk : D → Disk) (name : List ℕ) (answer : Result D OpeningFault) (before after : Names)
    (identity : Identity) (now : Disk) → IsUntouched before after → IsServed numbered locked name identity now after
    → IfOk answer (λ device. IsStillThere now (disk device)) → TakesServed numbered locked disk name answer before after
takes_served numbered locked disk name answer before after identity now same is still =
    record { same = same; serves = serves_then numbered locked disk name answer before after identity now is still }

pub takes_none : {S D : Type 0} (numbered : S → ℕ) (locked : S → Type 0) (disk : D → Disk) (name : List ℕ) (fault : OpeningFault) (before after : Names)
    → IsUntouched before after → TakesServed numbered locked disk name (Err fault) before after
takes_none numbered locked disk name fault before after same = record { same = same; serves = tt }

pub makes_served : {S D : Type 0} (numbered : S → ℕ) (locked : S → Type 0) (disk : D → Disk) (name : List ℕ) (answer : Result D OpeningFault) (before after : Names)
    (identity : Identity) (now : Disk) → MakesOnly name before after → NameStays name before after → IsServed numbered locked name identity now after
    → IfOk answer (λ device. IsStillThere now (disk device)) → MakesServed numbered locked disk name answer before after
makes_served numbered locked disk name answer before after identity now makes stays is still = record {
  makes = makes;
  serves = serves_then numbered locked disk name answer before after identity now is still;
  durable = of_ok answer (NameStays name before after) stays;
}

pub makes_none : {S D : Type 0} (numbered : S → ℕ) (locked : S → Type 0) (disk : D → Disk) (name : List ℕ) (fault : OpeningFault) (before after : Names)
    → MakesOnly name before after → MakesServed numbered locked disk name (Err fault) before after
makes_none numbered locked disk name fault before after makes = record { makes = makes; serves = tt; durable = tt }

-- what is read

pub opens_read : {E : Type 0} (name : List ℕ) (answer : Result E OpeningFault) (identity : Identity) (before after : Names) → IsUntouched before after
    → before.leads name ≡ Some (file_number identity) → OpensRead name answer (Some identity) before after
opens_read {E} name answer identity before after same leads = record {
  same = same;
  noted = of_ok answer ((file : Identity) × (Some identity ≡ Some file) × (before.leads name ≡ Some (file_number file))) (identity, refl, leads);
}

pub opens_none : {E : Type 0} (name : List ℕ) (fault : OpeningFault) (reading : Option Identity) (before after : Names) → IsUntouched before after
    → OpensRead {E = E} name (Err fault) reading before after
opens_none name fault reading before after same = record { same = same; noted = tt }
