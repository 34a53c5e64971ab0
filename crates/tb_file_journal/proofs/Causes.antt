-- A failure since a later moment is one since an earlier moment, if no call failed between them.
use Rattle.std.proofs.Common.{◌≡◌, inl, inr, ⊎_elim, ℕ, ◌<◌, ◌+◌, ◌^◌, List, length, refl, ◌∙◌, subst, Result, Ok, Err}
use Rattle.tb_file_journal.specs.declared.faults.JournalFault.{JournalFault}
use Rattle.tb_file_journal.specs.declared.opening.OpenFault.{OpenFault}
use Rattle.tb_file_journal.specs.declared.opening.OpenFault.TheVariants as open_faults
use Rattle.tb_file_journal.specs.Device.{Disk, Rises, FailsNone, HasFailed, HasCause, IsCause, HasOwnCause}
use Rattle.tb_file_journal.specs.Contents.{contents}
use Rattle.tb_file_journal.specs.Opening.{HasOpenCause, refused_as}

pub none_at_once : (disk : Disk) → FailsNone disk disk
none_at_once disk fault = refl

pub none_since : (before mid after : Disk) → FailsNone before mid → FailsNone mid after → FailsNone before after
none_since before mid after first second fault = second fault ∙ first fault

pub failed_since : (before mid after : Disk) (fault : JournalFault) → FailsNone before mid → HasFailed mid after fault
    → HasFailed before after fault
failed_since before mid after fault none failed = record {
  named = failed.named;
  counted = subst (λ (n : ℕ). Rises n (after.failures fault)) (none fault) failed.counted;
  others = λ other. ⊎_elim (λ is. inl is) (λ same. inr (same ∙ none other)) (failed.others other);
}

pub cause_since : (before mid after : Disk) (fault : JournalFault) → FailsNone before mid → IsCause mid after fault
    → IsCause before after fault
cause_since before mid after fault none cause = ⊎_elim
    (λ failed. inl (failed_since before mid after fault none failed))
    (λ own. inr (own.0, none_since before mid after none own.1)) cause

module _ {T : Type 0} (before mid after : Disk) where
  pub has_cause_since : (result : Result T JournalFault) → FailsNone before mid → HasCause result mid after
      → HasCause result before after
  has_cause_since (Ok x) none has = record { ok = none_since before mid after none has.ok; cause = tt }
  has_cause_since (Err fault) none has = record { ok = tt; cause = failed_since before mid after fault none has.cause }

  pub has_own_cause_since : (result : Result T JournalFault) → FailsNone before mid → HasOwnCause result mid after
      → HasOwnCause result before after
  has_own_cause_since (Ok x) none has = record { ok = none_since before mid after none has.ok; cause = tt }
  has_own_cause_since (Err fault) none has = record { ok = tt; cause = cause_since before mid after fault none has.cause }

  pub has_open_cause_since : (result : Result T OpenFault) → FailsNone before mid → mid.seen ≡ before.seen
      → HasOpenCause result mid after → HasOpenCause result before after
  has_open_cause_since (Ok x) none same has = record { ok = none_since before mid after none has.ok; cause = tt }
  has_open_cause_since (Err (open_faults.Refused why)) none same has = record {
    ok = tt;
    cause = (subst (λ (file : List ℕ). contents file ≡ refused_as why) same has.cause.0, none_since before mid after none has.cause.1);
  }
  has_open_cause_since (Err (open_faults.Device fault)) none same has = record {
    ok = tt;
    cause = ⊎_elim
        (λ cause. inl (cause_since before mid after fault none cause))
        (λ full. inr (full.0, subst (λ (file : List ℕ). 2 ^ 62 < length file + 4) same full.1, none_since before mid after none full.2)) has.cause;
  }
