-- A copy that is written and synced, and whose name is synced.
use Rattle.std.proofs.Common.{◌≡◌, ◌≢◌, ℕ, Bool, true, false, List, [], Option, None, Some, Result, Ok, Err, OnOk, sym, ◌∙◌, ap, subst, refl}
use Rattle.std.specs.declared.io.Error.{Error}
use Rattle.tb_edge_file.specs.declared.asides.Uncopied.{Uncopied}
use Rattle.tb_file_journal.specs.Device.{Only}
use Rattle.tb_edge_file.specs.CutCopies.{IsKept, IsSoundAt}
use Rattle.tb_edge_file.specs.private.CopySteps.{Has, IsFilled, IsPlain, IsWritten}
use Rattle.tb_edge_file.specs.Names.{ChangesFile, IsEmptied, IsNew, IsUntouched, KeepsFile, KeepsName, Names, SyncsFile, SyncsName, WritesAll}

-- one call after the other

pub name_then : (a b c : Names) (name : List ℕ) → KeepsName a b name → KeepsName b c name → KeepsName a c name
name_then a b c name first second = record {
  leads = second.leads ∙ first.leads;
  link = second.link ∙ first.link;
  crash = λ x left. first.crash x (second.crash x left);
  sound = second.sound ∙ first.sound;
}

pub file_then : (a b c : Names) (file : ℕ) → KeepsFile a b file → KeepsFile b c file → KeepsFile a c file
file_then a b c file first second = record {
  bytes = second.bytes ∙ first.bytes;
  crash = λ x left. first.crash x (second.crash x left);
  sound = second.sound ∙ first.sound;
}

pub untouched_then : (a b c : Names) → IsUntouched a b → IsUntouched b c → IsUntouched a c
untouched_then a b c first second = record {
  names = λ name. name_then a b c name (first.names name) (second.names name);
  files = λ file. file_then a b c file (first.files file) (second.files file);
}

changes_then : (file : ℕ) (a b c : Names) → ChangesFile file a b → ChangesFile file b c → ChangesFile file a c
changes_then file a b c first second = record {
  names = λ name. name_then a b c name (first.names name) (second.names name);
  files = λ other apart. file_then a b c other (first.files other apart) (second.files other apart);
}

-- what holds still holds where nothing was touched

pub has_still : (a b : Names) (name bytes : List ℕ) → IsUntouched a b → Has a name bytes → Has b name bytes
has_still a b name bytes same has = record {
  file = has.file;
  leads = (same.names name).leads ∙ has.leads;
  link = (same.names name).link ∙ has.link;
  seen = (same.files has.file).bytes ∙ has.seen;
}

pub sound_still : (a b : Names) (name : List ℕ) → IsUntouched a b → IsSoundAt a name → IsSoundAt b name
sound_still a b name same sound = record {
  folder = (same.names name).sound ∙ sound.folder;
  file = λ file leads. (same.files file).sound ∙ sound.file file (sym (same.names name).leads ∙ leads);
}

pub plain_still : (a b : Names) (name : List ℕ) → IsUntouched a b → IsPlain a name → IsPlain b name
plain_still a b name same plain = (same.names name).link ∙ plain

pub written_since : (a b c : Names) (name bytes : List ℕ) → IsUntouched a b → IsWritten b c name bytes → IsWritten a c name bytes
written_since a b c name bytes same written = record {
  file = written.file;
  leads = written.leads;
  link = written.link;
  seen = written.seen;
  bytes_stay = written.bytes_stay;
  sound_name = written.sound_name ∙ (same.names name).sound;
}

pub written_since_ok : (a b c : Names) (name bytes : List ℕ) (result : Result (Unit {0}) Uncopied) → IsUntouched a b → OnOk result (IsWritten b c name bytes)
    → OnOk result (IsWritten a c name bytes)
written_since_ok a b c name bytes (Ok done) same written = written_since a b c name bytes same written
written_since_ok a b c name bytes (Err why) same written = tt

-- a file is filled

pub filled_by : (file same_file : ℕ) (bytes : List ℕ) (a b c : Names) (written synced : Unit {0}) → same_file ≡ file → WritesAll file bytes (Ok written) a b
    → SyncsFile same_file (Ok synced) b c → (done : Unit {0}) → IsFilled file bytes (Ok done) a c
filled_by file same_file bytes a b c written synced same writes own done =
    let syncs = subst (λ (f : ℕ). SyncsFile f (Ok synced) b c) same own in
    record {
      seen = λ empty. syncs.bytes ∙ writes.written empty;
      stay = λ empty sound x left. syncs.durable (writes.sound ∙ sound) x left ∙ writes.written empty;
      rest = changes_then file a b c writes.rest syncs.rest;
    }

pub unsynced_by : (file same_file : ℕ) (bytes : List ℕ) (a b c : Names) (written : Unit {0}) (error : Error) → same_file ≡ file
    → WritesAll file bytes (Ok written) a b → SyncsFile same_file (Err error) b c → (why : Uncopied) → IsFilled file bytes (Err why) a c
unsynced_by file same_file bytes a b c written error same writes own why =
    let syncs = subst (λ (f : ℕ). SyncsFile f (Err error) b c) same own in
    record { seen = tt; stay = tt; rest = changes_then file a b c writes.rest syncs.rest }

pub unwritten_by : (file : ℕ) (bytes : List ℕ) (a b : Names) (error : Error) → WritesAll file bytes (Err error) a b
    → (why : Uncopied) → IsFilled file bytes (Err why) a b
unwritten_by file bytes a b error writes why = record { seen = tt; stay = tt; rest = writes.rest }

-- a name leads to a file that was filled

pub written_new : (name bytes : List ℕ) (file : ℕ) (a b c : Names) (done : Unit {0}) → IsNew name file a b → IsFilled file bytes (Ok done) b c
    → IsWritten a c name bytes
written_new name bytes file a b c done new filled = record {
  file = file;
  leads = (filled.rest.names name).leads ∙ new.leads;
  link = (filled.rest.names name).link ∙ new.link;
  seen = filled.seen new.empty;
  bytes_stay = filled.stay new.empty new.sound;
  sound_name = (filled.rest.names name).sound ∙ new.sound_name;
}

pub written_again : (name bytes : List ℕ) (file : ℕ) (a b c : Names) (done : Unit {0}) → IsSoundAt a name → IsPlain a name
    → IsEmptied name file a b → IsFilled file bytes (Ok done) b c → IsWritten a c name bytes
written_again name bytes file a b c done sound plain emptied filled = record {
  file = file;
  leads = (filled.rest.names name).leads ∙ (emptied.rest.names name).leads ∙ emptied.leads;
  link = (filled.rest.names name).link ∙ (emptied.rest.names name).link ∙ plain;
  seen = filled.seen emptied.empty;
  bytes_stay = filled.stay emptied.empty (emptied.sound ∙ sound.file file emptied.leads);
  sound_name = (filled.rest.names name).sound ∙ (emptied.rest.names name).sound;
}

abbrev number_in : Option ℕ → ℕ
number_in (Some file) = file
number_in None = 0

pub written_synced : (name bytes : List ℕ) (file : ℕ) (a b c : Names) (done : Unit {0}) → IsSoundAt a name → Has a name bytes
    → a.leads name ≡ Some file → IsUntouched a b → SyncsFile file (Ok done) b c → IsWritten a c name bytes
written_synced name bytes file a b c done sound has opened same syncs =
    let one : has.file ≡ file = ap number_in (sym has.leads ∙ opened) in
    let seen : b.bytes file ≡ bytes = (same.files file).bytes ∙ subst (λ (f : ℕ). a.bytes f ≡ bytes) one has.seen in
    record {
      file = file;
      leads = (syncs.rest.names name).leads ∙ (same.names name).leads ∙ opened;
      link = (syncs.rest.names name).link ∙ (same.names name).link ∙ has.link;
      seen = syncs.bytes ∙ seen;
      bytes_stay = λ x left. syncs.durable ((same.files file).sound ∙ sound.file file opened) x left ∙ seen;
      sound_name = (syncs.rest.names name).sound ∙ (same.names name).sound;
    }

-- and its name is synced

pub kept_by : {E : Type 0} (name bytes : List ℕ) (a b c : Names) (done : Unit {0}) → IsSoundAt a name → IsWritten a b name bytes → SyncsName {E = E} name (Ok done) b c
    → IsKept c name bytes
kept_by name bytes a b c done sound written syncs = record {
  file = written.file;
  leads = syncs.leads ∙ written.leads;
  seen = (syncs.rest.files written.file).bytes ∙ written.seen;
  name_stays = λ left may. syncs.durable (written.sound_name ∙ sound.folder) written.link left may ∙ written.leads;
  bytes_stay = λ x left. written.bytes_stay x ((syncs.rest.files written.file).crash x left);
}
