-- Files in memory do what the system's calls are trusted to do.
use Rattle.std.proofs.Common.{◌≡◌, ◌≢◌, ◌==◌, ℕ, Bool, true, false, List, [], Option, None, Some, if◌then◌else◌, ◌∙◌, refl}
use Rattle.std.specs.Str.{bytes_eq}
use Rattle.std.proofs.lemmas.Bool.Decides.{Decides-eqb}
use Rattle.std.proofs.lemmas.Slice.Eq.{bytes_eq-Decides}
use Rattle.tb_edge_file.specs.Names.{ChangesFile, IsUntouched}
use Rattle.tb_edge_names.specs.Folder.{CanBeMet, Folder, names_in, with_file, with_name}

not_true : (b : Bool) → (b ≡ true → ⊥) → b ≡ false
not_true true never = absurd (never refl)
not_true false never = refl

if_true : {A : Type 0} (b : Bool) (x y : A) → b ≡ true → (if b then x else y) ≡ x
if_true b x y is = rw is refl

if_false : {A : Type 0} (b : Bool) (x y : A) → b ≡ false → (if b then x else y) ≡ y
if_false b x y is = rw is refl

same : (folder : Folder) → IsUntouched (names_in folder) (names_in folder)
same folder = record {
  names = λ name. record { leads = refl; link = refl; crash = λ x left. left; sound = refl };
  files = λ file. record { bytes = refl; crash = λ x left. left; sound = refl };
}

named : (folder : Folder) (name : List ℕ) (target : Option ℕ) → (with_name folder name target).leads name ≡ target
named folder name target = if_true (bytes_eq name name) target (folder.leads name) ((bytes_eq-Decides name name).1 refl)

other_named : (folder : Folder) (name : List ℕ) (target : Option ℕ) (other : List ℕ) → other ≢ name → (with_name folder name target).leads other ≡ folder.leads other
other_named folder name target other apart =
    if_false (bytes_eq other name) target (folder.leads other) (not_true (bytes_eq other name) (λ is. apart ((bytes_eq-Decides other name).0 is)))

filled : (folder : Folder) (file : ℕ) (bytes : List ℕ) → (with_file folder file bytes).bytes file ≡ bytes
filled folder file bytes = if_true (file == file) bytes (folder.bytes file) ((Decides-eqb file file).1 refl)

other_filled : (folder : Folder) (file : ℕ) (bytes : List ℕ) (other : ℕ) → other ≢ file → (with_file folder file bytes).bytes other ≡ folder.bytes other
other_filled folder file bytes other apart =
    if_false (other == file) bytes (folder.bytes other) (not_true (other == file) (λ is. apart ((Decides-eqb other file).0 is)))

changes : (folder : Folder) (file : ℕ) (bytes : List ℕ) → ChangesFile file (names_in folder) (names_in (with_file folder file bytes))
changes folder file bytes = record {
  names = λ name. record { leads = refl; link = refl; crash = λ x left. left; sound = refl };
  files = λ other apart. let kept = other_filled folder file bytes other apart in
      record { bytes = kept; crash = λ x left. left ∙ kept; sound = refl };
}

pub can_be_met : CanBeMet
can_be_met = record {
  same = same;
  finds_none = λ folder name error none. record { found = tt; missing = λ kind. none; same = same folder };
  follows = λ folder name status leads len. record { leads = leads; len = len; missed = tt; same = same folder };
  misses = λ folder name error none is. record { leads = tt; len = tt; missed = rw is none; same = same folder };
  identifies = λ folder status. record { is = refl; same = same folder };
  opens = λ folder name file leads. record { opened = leads; same = same folder };
  creates = λ folder name file none fresh. record {
    created = record {
      none = none;
      fresh = fresh;
      leads = named folder name (Some file);
      link = refl;
      sound_name = refl;
      empty = filled folder file [];
      sound = refl;
      names = λ other apart. let kept = other_named folder name (Some file) other apart in
          record { leads = kept; link = refl; crash = λ x left. left ∙ kept; sound = refl };
      files = λ other apart. let kept = other_filled folder file [] other apart in
          record { bytes = kept; crash = λ x left. left ∙ kept; sound = refl };
    };
    same = tt;
  };
  empties = λ folder name file leads. record {
    emptied = record { leads = leads; empty = filled folder file []; sound = refl; rest = changes folder file [] };
    same = tt;
  };
  reads = λ folder file into. record { read = refl; same = same folder };
  writes = λ folder file bytes. record { written = λ empty. filled folder file bytes; sound = refl; rest = changes folder file bytes };
  syncs = λ folder file. record {
    durable = λ sound x left. left;
    sound = refl;
    bytes = refl;
    rest = record { names = (same folder).names; files = λ other apart. (same folder).files other };
  };
  syncs_name = λ folder name. record {
    durable = λ sound link x left. left;
    leads = refl;
    rest = record { names = λ other apart. (same folder).names other; files = (same folder).files };
  };
  links = λ folder name new none. record {
    linked = record { none = none; leads = named folder new (folder.leads name); link = refl; sound_name = refl };
    rest = record {
      names = λ other apart. let kept = other_named folder new (folder.leads name) other apart in
          record { leads = kept; link = refl; crash = λ x left. left ∙ kept; sound = refl };
      files = λ file. record { bytes = refl; crash = λ x left. left; sound = refl };
    };
  };
  removes = λ folder name. record {
    names = λ other apart. let kept = other_named folder name None other apart in
        record { leads = kept; link = refl; crash = λ x left. left ∙ kept; sound = refl };
    files = λ file. record { bytes = refl; crash = λ x left. left; sound = refl };
  };
}
