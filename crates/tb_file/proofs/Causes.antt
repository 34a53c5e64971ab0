-- The cause of a fault, if no call failed before.
use Rattle.std.proofs.Common.{arith, ◌≡◌, ◌⊎◌, inl, inr, ℕ, List, true, Result, Ok, Err, IfErr, refl, sym, ◌∙◌, subst}
use Rattle.std.proofs.lemmas.Grind.{common_steps}
use Rattle.std.proofs.lemmas.Bool.{false≢true}
use Rattle.tb_file_journal.specs.declared.faults.JournalFault.{JournalFault}
use Rattle.tb_file_journal.specs.declared.faults.JournalFault.TheVariants as faults
use Rattle.tb_file_journal.specs.declared.opening.OpenFault.{OpenFault}
use Rattle.tb_file_journal.specs.declared.opening.OpenFault.TheVariants as open_faults
use Rattle.tb_file_journal.specs.Device.{Disk, FailsNone, IsCause, IsOfCall, IsOfSync}
use Rattle.tb_file_journal.specs.Creating.{is_blank, IsCreateCause, IsOwnCreateCause}
use Rattle.tb_file_journal.specs.Opening.{IsOpenCause}
use Rattle.tb_file_journal.proofs.Causes.{none_since, failed_since, cause_since, has_open_cause_since}
use Rattle.tb_records.specs.declared.limits.Profile.{Profile}
use Rattle.tb_file.specs.declared.faults.StartFault.{StartFault}
use Rattle.tb_file.specs.declared.faults.StartFault.TheVariants as start
use Rattle.tb_file.specs.declared.faults.DumpFault.{DumpFault}
use Rattle.tb_file.specs.declared.faults.DumpFault.TheVariants as dump
use Rattle.tb_file.specs.Recovering.{HeadRecordAnswers, IsStartCause, HasStartCause}
use Rattle.tb_file.specs.Creating.{IsCreateStartCause, HasCreateStartCause, IsEitherCause, HasEitherCause}
use Rattle.tb_file.specs.Reading.{RulesIn, IsDumpCause, HasDumpCause}
use Rattle.tb_file.specs.declared.recovering.Rules.{Rules}
use Rattle.tb_file.specs.private.Headed.{IsOfFailedDevice, IsDeviceCause, HasDeviceCause}

-- after calls that did not fail

module _ (before mid after : Disk) (first : FailsNone before mid) (seen : mid.seen ≡ before.seen) where
  open_cause_then : (fault : OpenFault) → IsOpenCause mid after fault → IsOpenCause before after fault
  open_cause_then fault cause = (has_open_cause_since {T = Unit {0}} before mid after (Err fault) first seen (record { ok = tt; cause = cause })).cause

  start_cause_then : (fault : StartFault) → IsStartCause mid after fault → IsStartCause before after fault
  start_cause_then (start.Journal fault) cause = open_cause_then fault cause
  start_cause_then start.Head none = none_since before mid after first none
  start_cause_then start.OtherRules none = none_since before mid after first none
  start_cause_then (start.Record place fault) none = none_since before mid after first none
  start_cause_then (start.Entry fault) none = none_since before mid after first none
  start_cause_then start.NoMemory none = none_since before mid after first none
  start_cause_then (start.TornTooLong at bytes) none = none_since before mid after first none

  pub has_start_then : {T : Type 0} (result : Result T StartFault) → HasStartCause result mid after → HasStartCause result before after
  has_start_then {T} (Ok value) has = record { ok = none_since before mid after first has.ok; cause = tt }
  has_start_then {T} (Err fault) has = record { ok = tt; cause = start_cause_then fault has.cause }

  dump_cause_then : (fault : DumpFault) → IsDumpCause mid after fault → IsDumpCause before after fault
  dump_cause_then (dump.Journal fault) cause = open_cause_then fault cause
  dump_cause_then (dump.Writer fault) none = none_since before mid after first none

  pub has_dump_then : {T : Type 0} (result : Result T DumpFault) → HasDumpCause result mid after → HasDumpCause result before after
  has_dump_then {T} (Ok value) has = record { ok = none_since before mid after first has.ok; cause = tt }
  has_dump_then {T} (Err fault) has = record { ok = tt; cause = dump_cause_then fault has.cause }

-- a head that is not committed

pub device_cause : (before after : Disk) (fault : JournalFault) → IsOfFailedDevice (start.Journal (open_faults.Device fault)) → IsCause before after fault
    → IsDeviceCause before after (start.Journal (open_faults.Device fault))
device_cause before after faults.NotEmpty named cause = absurd named
device_cause before after faults.Memory named cause = cause
device_cause before after faults.Failed named cause = cause
device_cause before after faults.Full named cause = cause
device_cause before after faults.TooLong named cause = cause
device_cause before after faults.SyncFailed named cause = cause

module _ (before mid after : Disk) (first : FailsNone before mid) where
  -- of a file that was opened
  start_of_device : (fault : StartFault) → IsDeviceCause mid after fault → IsStartCause before after fault
  start_of_device (start.Journal (open_faults.Device faults.Memory)) cause = inl (cause_since before mid after faults.Memory first cause)
  start_of_device (start.Journal (open_faults.Device faults.Failed)) cause = inl (cause_since before mid after faults.Failed first cause)
  start_of_device (start.Journal (open_faults.Device faults.Full)) cause = inl (cause_since before mid after faults.Full first cause)
  start_of_device (start.Journal (open_faults.Device faults.TooLong)) cause = inl (cause_since before mid after faults.TooLong first cause)
  start_of_device (start.Journal (open_faults.Device faults.NotEmpty)) cause = absurd cause
  start_of_device (start.Journal (open_faults.Device faults.SyncFailed)) cause = inl (cause_since before mid after faults.SyncFailed first cause)
  start_of_device (start.Journal (open_faults.Refused why)) cause = absurd cause
  start_of_device start.Head cause = absurd cause
  start_of_device start.OtherRules cause = absurd cause
  start_of_device (start.Record place fault) cause = absurd cause
  start_of_device (start.Entry fault) cause = absurd cause
  start_of_device start.NoMemory cause = absurd cause
  start_of_device (start.TornTooLong at bytes) cause = absurd cause

  pub has_start_of_device : {T : Type 0} (result : Result T StartFault) → HasDeviceCause result mid after → HasStartCause result before after
  has_start_of_device {T} (Ok value) has = record { ok = none_since before mid after first has.ok; cause = tt }
  has_start_of_device {T} (Err fault) has = record { ok = tt; cause = start_of_device fault has.cause }

  -- of one that was created in a blank one
  module _ (blank : is_blank before.seen ≡ true) where
    made : (fault : JournalFault) → IsCause before after fault → IsCreateCause before after (open_faults.Device fault)
    made fault (inl failed) = inl failed
    made fault (inr (is, none)) = inr (inr (is, blank), none)

    create_of_device : (fault : StartFault) → IsDeviceCause mid after fault → IsCreateStartCause before after fault
    create_of_device (start.Journal (open_faults.Device faults.Memory)) cause = made faults.Memory (cause_since before mid after faults.Memory first cause)
    create_of_device (start.Journal (open_faults.Device faults.Failed)) cause = made faults.Failed (cause_since before mid after faults.Failed first cause)
    create_of_device (start.Journal (open_faults.Device faults.Full)) cause = made faults.Full (cause_since before mid after faults.Full first cause)
    create_of_device (start.Journal (open_faults.Device faults.TooLong)) cause = made faults.TooLong (cause_since before mid after faults.TooLong first cause)
    create_of_device (start.Journal (open_faults.Device faults.NotEmpty)) cause = absurd cause
    create_of_device (start.Journal (open_faults.Device faults.SyncFailed)) cause = made faults.SyncFailed (cause_since before mid after faults.SyncFailed first cause)
    create_of_device (start.Journal (open_faults.Refused why)) cause = absurd cause
    create_of_device start.Head cause = absurd cause
    create_of_device start.OtherRules cause = absurd cause
    create_of_device (start.Record place fault) cause = absurd cause
    create_of_device (start.Entry fault) cause = absurd cause
    create_of_device start.NoMemory cause = absurd cause
    create_of_device (start.TornTooLong at bytes) cause = absurd cause

    pub has_create_of_device : {T : Type 0} (result : Result T StartFault) → HasDeviceCause result mid after → HasCreateStartCause result before after
    has_create_of_device {T} (Ok value) has = record { ok = none_since before mid after first has.ok; cause = tt }
    has_create_of_device {T} (Err fault) has = record { ok = tt; cause = create_of_device fault has.cause }

-- a start

-- in a file that is blank a creation is never refused for what is there
not_empty : (before after : Disk) → is_blank before.seen ≡ true → IsCreateStartCause before after (start.Journal (open_faults.Device faults.NotEmpty)) → ⊥
not_empty before after blank (inl failed) = absurd (other failed.named)
  where
    other : IsOfCall faults.NotEmpty ⊎ IsOfSync faults.NotEmpty → ⊥
    other named = grind (arith, common_steps)
not_empty before after blank (inr (inl (is, some), none)) = absurd (false≢true (sym some ∙ blank))
not_empty before after blank (inr (inr (is, some), none)) = absurd (cc)

either_of_create : (before after : Disk) (fault : StartFault) → (fault ≡ start.Journal (open_faults.Device faults.NotEmpty) → ⊥) → IsCreateStartCause before after fault → IsEitherCause before after fault
either_of_create before after (start.Journal (open_faults.Device faults.NotEmpty)) other cause = absurd (other refl)
either_of_create before after (start.Journal (open_faults.Device faults.Memory)) other cause = inl cause
either_of_create before after (start.Journal (open_faults.Device faults.Failed)) other cause = inl cause
either_of_create before after (start.Journal (open_faults.Device faults.Full)) other cause = inl cause
either_of_create before after (start.Journal (open_faults.Device faults.TooLong)) other cause = inl cause
either_of_create before after (start.Journal (open_faults.Device faults.SyncFailed)) other cause = inl cause
either_of_create before after (start.Journal (open_faults.Refused why)) other cause = inl cause
either_of_create before after start.Head other cause = inl cause
either_of_create before after start.OtherRules other cause = inl cause
either_of_create before after (start.Record place fault) other cause = inl cause
either_of_create before after (start.Entry fault) other cause = inl cause
either_of_create before after start.NoMemory other cause = inl cause
either_of_create before after (start.TornTooLong at bytes) other cause = inl cause

module _ (before mid after : Disk) (first : FailsNone before mid) (seen : mid.seen ≡ before.seen) (blank : is_blank mid.seen ≡ true) where
  create_cause_then : (fault : StartFault) → IsCreateStartCause mid after fault → IsCreateStartCause before after fault
  create_cause_then (start.Journal (open_faults.Refused why)) cause = absurd cause
  create_cause_then (start.Journal (open_faults.Device fault)) (inl failed) = inl (failed_since before mid after fault first failed)
  create_cause_then (start.Journal (open_faults.Device fault)) (inr (own, none)) =
      inr (subst (λ (file : List ℕ). IsOwnCreateCause file fault) seen own, none_since before mid after first none)
  create_cause_then start.Head none = none_since before mid after first none
  create_cause_then start.OtherRules none = none_since before mid after first none
  create_cause_then (start.Record place fault) none = none_since before mid after first none
  create_cause_then (start.Entry fault) none = none_since before mid after first none
  create_cause_then start.NoMemory none = none_since before mid after first none
  create_cause_then (start.TornTooLong at bytes) none = none_since before mid after first none

  pub has_either_of_created : {T : Type 0} (result : Result T StartFault) → HasCreateStartCause result mid after → HasEitherCause result before after
  has_either_of_created {T} (Ok value) has = record { ok = none_since before mid after first has.ok; cause = tt }
  has_either_of_created {T} (Err fault) has = record {
    ok = tt;
    cause = either_of_create before after fault (λ is. not_empty mid after blank (subst (IsCreateStartCause mid after) is has.cause)) (create_cause_then fault has.cause);
  }

pub has_either_of_create : (before after : Disk) (fault : StartFault) → (fault ≡ start.Journal (open_faults.Device faults.NotEmpty) → ⊥) → IsCreateStartCause before after fault
    → HasEitherCause {T = Unit {0}} (Err fault) before after
has_either_of_create before after fault other cause = record { ok = tt; cause = either_of_create before after fault other cause }

module _ (before after : Disk) where
  not_start : IsStartCause before after (start.Journal (open_faults.Device faults.NotEmpty)) → ⊥
  not_start (inl (inl failed)) = absurd (never failed.named)
    where
      never : IsOfCall faults.NotEmpty ⊎ IsOfSync faults.NotEmpty → ⊥
      never named = grind (arith, common_steps)
  not_start (inl (inr (is, none))) = absurd (cc)
  not_start (inr (is, long, none)) = absurd (cc)

  either_of_start : (fault : StartFault) → IsStartCause before after fault → IsEitherCause before after fault
  either_of_start (start.Journal (open_faults.Device faults.NotEmpty)) cause = absurd (not_start cause)
  either_of_start (start.Journal (open_faults.Device faults.Memory)) cause = inr cause
  either_of_start (start.Journal (open_faults.Device faults.Failed)) cause = inr cause
  either_of_start (start.Journal (open_faults.Device faults.Full)) cause = inr cause
  either_of_start (start.Journal (open_faults.Device faults.TooLong)) cause = inr cause
  either_of_start (start.Journal (open_faults.Device faults.SyncFailed)) cause = inr cause
  either_of_start (start.Journal (open_faults.Refused why)) cause = inr cause
  either_of_start start.Head cause = inr cause
  either_of_start start.OtherRules cause = inr cause
  either_of_start (start.Record place fault) cause = inr cause
  either_of_start (start.Entry fault) cause = inr cause
  either_of_start start.NoMemory cause = inr cause
  either_of_start (start.TornTooLong at bytes) cause = inr cause

  pub has_either_of_start : {T : Type 0} (result : Result T StartFault) → HasStartCause result before after → HasEitherCause result before after
  has_either_of_start {T} (Ok value) has = record { ok = has.ok; cause = tt }
  has_either_of_start {T} (Err fault) has = record { ok = tt; cause = either_of_start fault has.cause }

-- a fault of the file, or of memory

module _ (before after : Disk) where
  pub head_cause : (fault : StartFault) (head : List ℕ) (profile : Profile) (clients_max : ℕ) → HeadRecordAnswers (Err fault) head profile clients_max → FailsNone before after → IsStartCause before after fault
  head_cause (start.Journal fault) head profile clients_max why none = absurd why
  head_cause start.Head head profile clients_max why none = none
  head_cause start.OtherRules head profile clients_max why none = none
  head_cause (start.Record place fault) head profile clients_max why none = none
  head_cause (start.Entry fault) head profile clients_max why none = none
  head_cause start.NoMemory head profile clients_max why none = none
  head_cause (start.TornTooLong at bytes) head profile clients_max why none = none

  pub rules_cause : (head : List ℕ) (result : Result Rules StartFault) → RulesIn result head → FailsNone before after → HasStartCause result before after
  rules_cause head (Ok rules) found none = record { ok = none; cause = tt }
  rules_cause head (Err (start.Journal fault)) found none = absurd found
  rules_cause head (Err start.Head) found none = record { ok = tt; cause = none }
  rules_cause head (Err start.OtherRules) found none = record { ok = tt; cause = none }
  rules_cause head (Err (start.Record place fault)) found none = record { ok = tt; cause = none }
  rules_cause head (Err (start.Entry fault)) found none = record { ok = tt; cause = none }
  rules_cause head (Err start.NoMemory) found none = record { ok = tt; cause = none }
  rules_cause head (Err (start.TornTooLong at bytes)) found none = record { ok = tt; cause = none }

  pub memory_cause : {T : Type 0} (result : Result T StartFault) → IfErr result (λ fault. fault ≡ start.NoMemory) → FailsNone before after → HasStartCause result before after
  memory_cause {T} (Ok value) is none = record { ok = none; cause = tt }
  memory_cause {T} (Err fault) is none = record { ok = tt; cause = subst (λ (f : StartFault). IsStartCause before after f) (sym is) none }
