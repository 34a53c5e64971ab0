-- A look at a name.
use Rattle.std.proofs.Common.{◌≡◌, ◌≢◌, ℕ, true, false, List, length, Option, None, Some, Result, Ok, Err, refl, sym, ◌∙◌, ap}
use Rattle.std.specs.declared.io.Error.{Error}
use Rattle.std.specs.IoError.{error_kind}
use Rattle.tb_edge_file.specs.declared.asides.Reason.TheVariants.{Gone, Unseen}
use Rattle.tb_edge_file.specs.Names.{IsUntouched, Names}
use Rattle.tb_edge_file.specs.declared.asides.Reason.{Reason}
use Rattle.tb_edge_file.specs.declared.openers.Waited.TheVariants.{More, Parted}
use Rattle.tb_edge_names.specs.declared.served.Identity.{Identity}
use Rattle.tb_edge_names.specs.declared.served.Status.{Status}
use Rattle.tb_edge_names.specs.Named.{Pauses}
use Rattle.tb_edge_names.specs.Served.{Follows, IsLed, LooksFor, file_number, is_absence}

module _ (Failed : Type 0) (name : List ℕ) (file : ℕ) (a b : Names) where
  pub found : (status : Status) → Follows Failed name (Ok status) a b → file_number status.identity ≡ file → LooksFor Failed name file (Ok status) a b
  found status follows is = record {
    leads = follows.leads ∙ ap (λ f. Some f) is;
    len = follows.len ∙ ap (λ f. length (a.bytes f)) is;
    parts = tt;
    same = follows.same;
  }

  pub other : (status : Status) → Follows Failed name (Ok status) a b → file_number status.identity ≢ file → LooksFor Failed name file (Err Gone) a b
  other status follows apart = record {
    leads = tt;
    len = tt;
    parts = λ leads. let same : Some (file_number status.identity) ≡ Some file = sym follows.leads ∙ sym (follows.same.names name).leads ∙ leads in apart (cc);
    same = follows.same;
  }

  pub absent : (error : Error) → Follows Failed name (Err error) a b → is_absence (error_kind error) ≡ true → LooksFor Failed name file (Err Gone) a b
  absent error follows is = record {
    leads = tt;
    len = tt;
    parts = λ leads.
        let none : a.leads name ≡ None = rw is at follows.missed in
        let same : None ≡ Some file = sym none ∙ sym (follows.same.names name).leads ∙ leads in cc;
    same = follows.same;
  }

  pub failed : (error : Error) → Follows Failed name (Err error) a b → is_absence (error_kind error) ≡ false → LooksFor Failed name file (Err Unseen) a b
  failed error follows is = record { leads = tt; len = tt; parts = rw is at follows.missed; same = follows.same }

-- what a look at the name of an open file says

pub led : {F : Type 0} (Failed : Type 0) (names : F → Names) (name : List ℕ) (status : Status) (opened : Identity) (len : ℕ) (before after : F)
    → LooksFor Failed name (file_number opened) (Ok status) (names before) (names after) → status.len ≡ len → IsLed names name opened len
led Failed names name status opened len before after looks long = record { moment = before; leads = looks.leads; len_is = sym looks.len ∙ long }

module _ (Failed : Type 0) (file : Identity) (name : List ℕ) (a b : Names) where
  pub more : (status : Status) → LooksFor Failed name (file_number file) (Ok status) a b → Pauses Failed (Some file) (Some file) name More b
  more status looks = record { same = refl; waits = (looks.same.names name).leads ∙ looks.leads }

  pub parted : (reason : Reason) → LooksFor Failed name (file_number file) (Err reason) a b → Pauses Failed (Some file) (Some file) name (Parted reason) b
  parted reason looks = record { same = refl; waits = looks.parts }
