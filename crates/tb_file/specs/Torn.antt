-- How the torn bytes of a file are counted.
use Rattle.std.specs.Prelude.{ℕ, ◌≡◌, ◌≤◌, List, Result, Ok, Err, OnOk, IfErr}
use Rattle.tb_file_journal.specs.declared.opening.OpenFault.TheVariants as open_faults
use Rattle.tb_file_journal.specs.Device.{Disk, FailsNone, HasFailed, IsOfCall}
use Rattle.tb_file.specs.declared.faults.StartFault.{StartFault}
use Rattle.tb_file.specs.declared.faults.StartFault.TheVariants as start
use Rattle.tb_file.specs.declared.torn.TornFault.{TornFault}
use Rattle.tb_file.specs.declared.torn.TornFault.TheVariants as torn_faults
use Rattle.tb_file.specs.Recovering.{IsTornLonger, torn_bytes}

-- the torn bytes of a file, no more than so many; or from which place on there are how many more
abbrev pub CountsTorn : Result ℕ TornFault → ℕ → List ℕ → Type 0
CountsTorn (Ok torn) most file = (torn ≡ torn_bytes file) × (torn ≤ most)
CountsTorn (Err (torn_faults.TooLong at bytes)) most file = IsTornLonger most at bytes file
CountsTorn (Err (torn_faults.Device fault)) most file = Unit {0}

-- a fault of the device is one of a call that is no sync
abbrev pub IsNamedTorn : TornFault → Type 0
IsNamedTorn (torn_faults.Device fault) = IsOfCall fault
IsNamedTorn (torn_faults.TooLong at bytes) = Unit {0}

-- the cause of a fault: the device failed with it, or no call has failed
abbrev pub IsTornCause : Disk → Disk → TornFault → Type 0
IsTornCause before after (torn_faults.Device fault) = HasFailed before after fault
IsTornCause before after (torn_faults.TooLong at bytes) = FailsNone before after

pub record HasTornCause {T : Type 0} (result : Result T TornFault) (before after : Disk) : Type 0 where
  pub ok : OnOk result (FailsNone before after)
  pub cause : IfErr result (IsTornCause before after)

-- the same fault, as that of a start
abbrev pub torn_start : TornFault → StartFault
torn_start (torn_faults.Device fault) = start.Journal (open_faults.Device fault)
torn_start (torn_faults.TooLong at bytes) = start.TornTooLong at bytes
