-- A new file that has the name of its part first, and then its own.
use Rattle.std.proofs.Common.{◌≡◌, ◌≢◌, ℕ, ◌+◌, true, false, List, codes, length, None, Some, Option, Result, Ok, Err, IfOk, OnOk, sym, ◌∙◌, ap, subst, refl, arith}
use Rattle.std.proofs.lemmas.List.{length-append}
use Rattle.std.specs.IoError.{error_kind}
use Rattle.std.specs.declared.io.Error.{Error}
use Rattle.std.specs.declared.io.ErrorKind.TheVariants as kinds
use Rattle.tb_file_journal.specs.Device.{Disk}
use Rattle.tb_file_journal.specs.declared.real.FileFault.{FileFault}
use Rattle.tb_edge_file.specs.Names.{ChangesName, Finds, IsUntouched, Names, SyncsName}
use Rattle.tb_edge_file.specs.declared.openers.OpeningFault.{OpeningFault}
use Rattle.tb_edge_names.specs.declared.served.Identity.{Identity}
use Rattle.tb_edge_names.specs.Parts.{CreatesPart, GivesName, NamesPart, RemakesOnly, SettlesName, part_name}
use Rattle.tb_edge_names.specs.Served.{IsLinked, IsServed, IsStillThere, MakesOnly, file_number}
use Rattle.tb_edge_names.proofs.Openings.{file_then, name_then, served_still}

same : (names : Names) → IsUntouched names names
same names = record {
  names = λ name. record { leads = refl; link = refl; crash = λ x left. left; sound = refl };
  files = λ file. record { bytes = refl; crash = λ x left. left; sound = refl };
}

on_ok : {T E : Type 0} (answer : Result T E) (P : Type 0) → P → OnOk answer P
on_ok (Ok value) P p = p
on_ok (Err fault) P p = tt

-- the part is made

pub none_found : (name : List ℕ) (error : Error) (before after : Names) → Finds name (Err error) before after → error_kind error ≡ kinds.NotFound → before.leads name ≡ None
none_found name error before after finds kind = finds.missing kind

pub only_untouched : (name : List ℕ) (a b : Names) → IsUntouched a b → ChangesName name a b
only_untouched name a b same = record { names = λ other apart. same.names other; files = same.files }

pub only_removed : (name : List ℕ) (a b c : Names) → IsUntouched a b → ChangesName name b c → ChangesName name a c
only_removed name a b c same changes = record {
  names = λ other apart. name_then a b c other (same.names other) (changes.names other apart);
  files = λ file. file_then a b c file (same.files file) (changes.files file);
}

pub remakes_none : (name : List ℕ) (a b : Names) → ChangesName name a b → RemakesOnly name a b
remakes_none name a b changes = record { names = changes.names; files = λ file other apart leads. changes.files file }

pub remakes : (name : List ℕ) (a b c : Names) → ChangesName name a b → MakesOnly name b c → RemakesOnly name a c
remakes name a b c changes makes = record {
  names = λ other apart. name_then a b c other (changes.names other apart) (makes.names other apart);
  files = λ file other apart leads. file_then a b c file (changes.files file) (makes.files file other ((changes.names other apart).leads ∙ leads));
}

pub same_remakes : (name : List ℕ) (a b c : Names) → IsUntouched a b → RemakesOnly name b c → RemakesOnly name a c
same_remakes name a b c same makes = record {
  names = λ other apart. name_then a b c other (same.names other) (makes.names other apart);
  files = λ file other apart leads. file_then a b c file (same.files file) (makes.files file other apart ((same.names other).leads ∙ leads));
}

pub remakes_same : (name : List ℕ) (a b c : Names) → RemakesOnly name a b → IsUntouched b c → RemakesOnly name a c
remakes_same name a b c makes same = record {
  names = λ other apart. name_then a b c other (makes.names other apart) (same.names other);
  files = λ file other apart leads. file_then a b c file (makes.files file other apart leads) (same.files file);
}

pub remakes_untouched : (name : List ℕ) (a b : Names) → IsUntouched a b → RemakesOnly name a b
remakes_untouched name a b same = record { names = λ other apart. same.names other; files = λ file other apart leads. same.files file }

of_identity : {S : Type 0} (numbered : S → ℕ) (locked : S → Type 0) (name : List ℕ) (it other : Identity) (now : Disk) (names : Names) → other ≡ it
    → IsServed numbered locked name it now names → IsServed numbered locked name other now names
of_identity numbered locked name it other now names is served =
    subst (λ (found : Identity). IsServed numbered locked name found now names) (sym is) served

pub creates_part : {S D : Type 0} (numbered : S → ℕ) (locked : S → Type 0) (identity : D → Identity) (disk : D → Disk) (part name : List ℕ) (answer : Result D OpeningFault)
    (it : Identity) (now : Disk) (before after : Names) → RemakesOnly part before after → before.leads name ≡ None → IsServed numbered locked part it now after
    → IfOk answer (λ device. IsStillThere now (disk device)) → IfOk answer (λ device. identity device ≡ it)
    → CreatesPart numbered locked identity disk part name answer before after
creates_part numbered locked identity disk part name (Ok device) it now before after makes none is still same = record {
  none = none;
  makes = makes;
  serves = of_identity numbered locked part it (identity device) (disk device) after same (served_still numbered locked part it now (disk device) after is still);
}
creates_part numbered locked identity disk part name (Err fault) it now before after makes none is still same = record { none = tt; makes = makes; serves = tt }

pub creates_none : {S D : Type 0} (numbered : S → ℕ) (locked : S → Type 0) (identity : D → Identity) (disk : D → Disk) (part name : List ℕ) (fault : OpeningFault)
    (before after : Names) → RemakesOnly part before after → CreatesPart numbered locked identity disk part name (Err fault) before after
creates_none numbered locked identity disk part name fault before after makes = record { none = tt; makes = makes; serves = tt }

pub part_created : {S D : Type 0} (numbered : S → ℕ) (locked : S → Type 0) (identity : D → Identity) (disk : D → Disk) (shown text name : List ℕ) (answer : Result D OpeningFault)
    (before after : Names) → shown ≡ text → text ≡ part_name name → CreatesPart numbered locked identity disk shown name answer before after
    → CreatesPart numbered locked identity disk (part_name name) name answer before after
part_created numbered locked identity disk shown text name answer before after is named creates =
    subst (λ (part : List ℕ). CreatesPart numbered locked identity disk part name answer before after) (is ∙ named) creates

pub part_untouched : {S D : Type 0} (numbered : S → ℕ) (locked : S → Type 0) (identity : D → Identity) (disk : D → Disk) (part name : List ℕ) (fault : OpeningFault)
    (names : Names) → CreatesPart numbered locked identity disk part name (Err fault) names names
part_untouched numbered locked identity disk part name fault names =
    creates_none numbered locked identity disk part name fault names names (remakes_untouched part names names (same names))

-- it gets its own name

pub settles : (part name : List ℕ) (a b c : Names) → name ≢ part → ChangesName part a b → SyncsName {E = FileFault} name (Ok tt) b c
    → SettlesName {E = OpeningFault} part name (Ok tt) a c
settles part name a b c apart changes syncs = let kept = changes.names name apart in record {
  leads = syncs.leads ∙ kept.leads;
  names = λ other from_name from_part. name_then a b c other (changes.names other from_part) (syncs.rest.names other from_name);
  files = λ file. file_then a b c file (changes.files file) (syncs.rest.files file);
  stays = λ sound link left may. syncs.durable (kept.sound ∙ sound) (kept.link ∙ link) left may ∙ kept.leads;
}

pub settles_not : (part name : List ℕ) (why : FileFault) (fault : OpeningFault) (a b c : Names) → name ≢ part → ChangesName part a b → SyncsName name (Err why) b c
    → SettlesName part name (Err fault) a c
settles_not part name why fault a b c apart changes syncs = record {
  leads = syncs.leads ∙ (changes.names name apart).leads;
  names = λ other from_name from_part. name_then a b c other (changes.names other from_part) (syncs.rest.names other from_name);
  files = λ file. file_then a b c file (changes.files file) (syncs.rest.files file);
  stays = tt;
}

stays_so : (part name : List ℕ) (identity : Identity) (answer : Result (Unit {0}) OpeningFault) (a b c d : Names) → IsUntouched a b → a.leads part ≡ Some (file_number identity)
    → IsLinked part name b c → SettlesName part name answer c d
    → OnOk answer (a.sound_name name ≡ true → a.is_link part ≡ false → (left : Option ℕ) → d.may_lead name left → left ≡ Some (file_number identity))
stays_so part name identity (Ok done) a b c d same led linked settles = λ sound link left may.
    settles.stays (linked.sound_name ∙ (same.names name).sound ∙ sound) (linked.link ∙ (same.names part).link ∙ link) left may
    ∙ linked.leads ∙ (same.names part).leads ∙ led
stays_so part name identity (Err fault) a b c d same led linked settles = tt

pub gives : (part name : List ℕ) (identity : Identity) (answer : Result (Unit {0}) OpeningFault) (a b c d : Names) → IsUntouched a b → a.leads part ≡ Some (file_number identity)
    → IsLinked part name b c → ChangesName name b c → SettlesName part name answer c d → GivesName part name identity answer a d
gives part name identity answer a b c d same led linked rest settles = record {
  led = on_ok answer _ led;
  none = on_ok answer _ (sym (same.names name).leads ∙ linked.none);
  leads = on_ok answer _ (settles.leads ∙ linked.leads ∙ (same.names part).leads ∙ led);
  names = λ other from_name from_part.
      name_then a b d other (same.names other) (name_then b c d other (rest.names other from_name) (settles.names other from_name from_part));
  files = λ file. file_then a b d file (same.files file) (file_then b c d file (rest.files file) (settles.files file));
  stays = stays_so part name identity answer a b c d same led linked settles;
}

pub gives_not : (part name : List ℕ) (identity : Identity) (fault : OpeningFault) (a b : Names) → IsUntouched a b → GivesName part name identity (Err fault) a b
gives_not part name identity fault a b same =
    record { led = tt; none = tt; leads = tt; names = λ other from_name from_part. same.names other; files = same.files; stays = tt }

pub gives_none : (part name : List ℕ) (identity : Identity) (fault : OpeningFault) (a b c : Names) → IsUntouched a b → ChangesName name b c
    → GivesName part name identity (Err fault) a c
gives_none part name identity fault a b c same rest = record {
  led = tt;
  none = tt;
  leads = tt;
  names = λ other from_name from_part. name_then a b c other (same.names other) (rest.names other from_name);
  files = λ file. file_then a b c file (same.files file) (rest.files file);
  stays = tt;
}

pub since : {F : Type 0} (names : F → Names) (part name : List ℕ) (identity : Identity) (answer : Result (Unit {0}) OpeningFault) (moment : F) (after : Names)
    → GivesName part name identity answer (names moment) after → NamesPart names part name identity answer after
since names part name identity answer moment after gives = record { moment = moment; gives = gives }

pub part_named : {F : Type 0} (names : F → Names) (shown text name : List ℕ) (found identity : Identity) (answer : Result (Unit {0}) OpeningFault) (after : Names)
    → shown ≡ text → text ≡ part_name name → found ≡ identity → NamesPart names shown name found answer after → NamesPart names (part_name name) name identity answer after
part_named names shown text name found identity answer after is named same gives =
    subst (λ (part : List ℕ). NamesPart names part name identity answer after) (is ∙ named)
    (subst (λ (it : Identity). NamesPart names shown name it answer after) same gives)

pub part_unnamed : {F : Type 0} (names : F → Names) (part name : List ℕ) (identity : Identity) (fault : OpeningFault) (moment : F)
    → NamesPart names part name identity (Err fault) (names moment)
part_unnamed names part name identity fault moment =
    record { moment = moment; gives = gives_not part name identity fault (names moment) (names moment) (same (names moment)) }

pub apart : (shown text name : List ℕ) → shown ≡ text → text ≡ part_name name → name ≢ shown
apart shown text name is named clash =
    let long : length name ≡ length name + 5 = ap length (clash ∙ is ∙ named) ∙ length-append name (codes ".part") in
    omega (long, arith)
