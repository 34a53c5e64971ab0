-- The torn bytes of a file, counted, and a start that refuses it for them.
use Rattle.std.proofs.Common.{◌≡◌, inl, ℕ, ◌-◌, ◌<◌, ◌^◌, List, length, Ok, Err, sym, ap, ◌∙◌, subst}
use Rattle.tb_records.specs.declared.limits.Profile.{Profile}
use Rattle.tb_file_journal.specs.declared.reading.Extent.{Extent}
use Rattle.tb_file_journal.specs.Device.{Disk}
use Rattle.tb_file_journal.specs.Contents.{contents}
use Rattle.tb_file_journal.specs.Reading.{extent_of}
use Rattle.tb_file_journal.proofs.Opened.{is_told}
use Rattle.tb_file.specs.declared.faults.StartFault.{StartFault}
use Rattle.tb_file.specs.declared.recovering.Rules.{Rules}
use Rattle.tb_file.specs.declared.torn.TornFault.{TornFault}
use Rattle.tb_file.specs.declared.torn.TornFault.TheVariants as torn_faults
use Rattle.tb_file.specs.Creating.{IsDiskUntouched, IsOpenRefused}
use Rattle.tb_file.specs.Quick.{IsNotInOrder}
use Rattle.tb_file.specs.Reading.{HasRules, IsNoHistory}
use Rattle.tb_file.specs.Recovering.{HasStartCause, IsStartCause, IsTornLonger, StopsOpening, torn_bytes}
use Rattle.tb_file.specs.Torn.{CountsTorn, IsTornCause, torn_start}

pub torn_counted : (file : List ℕ) (extent : Extent) (len behind torn : ℕ) → extent_of (contents file) ≡ Ok extent → len ≡ length file → behind ≡ len - extent.end → torn ≡ behind - 4
    → torn ≡ torn_bytes file
torn_counted file extent len behind torn found all rest is =
    is ∙ ap (λ (n : ℕ). n - 4) (rest ∙ ap (λ (n : ℕ). n - extent.end) all ∙ ap (λ (n : ℕ). length file - n) (is_told (contents file) extent found).end)

pub torn_told : (most : ℕ) (file : List ℕ) (extent : Extent) (torn : ℕ) → extent_of (contents file) ≡ Ok extent → torn ≡ torn_bytes file → most < torn → IsTornLonger most extent.end torn file
torn_told most file extent torn found is many =
    let told = is_told (contents file) extent found in
    record { reads = told.reads; place = told.end; torn = is; many = many }

-- the cause of that fault

torn_cause : (before after : Disk) (fault : TornFault) → IsTornCause before after fault → IsStartCause before after (torn_start fault)
torn_cause before after (torn_faults.TooLong at bytes) none = none
torn_cause before after (torn_faults.Device fault) failed = inl (inl failed)

pub has_torn_start : {T : Type 0} (before after : Disk) (fault : TornFault) (why : StartFault) → why ≡ torn_start fault → IsTornCause before after fault → HasStartCause {T = T} (Err why) before after
has_torn_start before after fault why is cause = record {
  ok = tt;
  cause = subst (IsStartCause before after) (sym is) (torn_cause before after fault cause);
}

-- a file is refused for its torn bytes alone

module _ (fault : TornFault) (why : StartFault) (is : why ≡ torn_start fault) where
  pub history_torn : (rules : Rules) (file : List ℕ) → HasRules rules file → CountsTorn (Err fault) (2 ^ 22) file → IsNoHistory why file
  history_torn rules file has torn = subst (λ (w : StartFault). IsNoHistory w file) (sym is) (by fault torn)
    where
      by : (f : TornFault) → CountsTorn (Err f) (2 ^ 22) file → IsNoHistory (torn_start f) file
      by (torn_faults.TooLong at bytes) long = (rules, has, long)
      by (torn_faults.Device other) long = tt

  pub order_torn : (file : List ℕ) → CountsTorn (Err fault) (2 ^ 22) file → IsNotInOrder why file
  order_torn file torn = subst (λ (w : StartFault). IsNotInOrder w file) (sym is) (by fault torn)
    where
      by : (f : TornFault) → CountsTorn (Err f) (2 ^ 22) file → IsNotInOrder (torn_start f) file
      by (torn_faults.TooLong at bytes) long = long
      by (torn_faults.Device other) long = tt

  pub opens_torn : (profile : Profile) (clients_max : ℕ) (file : List ℕ) → CountsTorn (Err fault) (2 ^ 22) file → StopsOpening why profile clients_max file
  opens_torn profile clients_max file torn = subst (λ (w : StartFault). StopsOpening w profile clients_max file) (sym is) (by fault torn)
    where
      by : (f : TornFault) → CountsTorn (Err f) (2 ^ 22) file → StopsOpening (torn_start f) profile clients_max file
      by (torn_faults.TooLong at bytes) long = long
      by (torn_faults.Device other) long = tt

  pub refused_torn : (profile : Profile) (clients_max : ℕ) (before after : Disk) → CountsTorn (Err fault) (2 ^ 22) before.seen → IsDiskUntouched before after
      → IsOpenRefused profile clients_max why before after
  refused_torn profile clients_max before after torn same = subst (λ (w : StartFault). IsOpenRefused profile clients_max w before after) (sym is) (by fault torn)
    where
      by : (f : TornFault) → CountsTorn (Err f) (2 ^ 22) before.seen → IsOpenRefused profile clients_max (torn_start f) before after
      by (torn_faults.TooLong at bytes) long = (long, same)
      by (torn_faults.Device other) long = tt
