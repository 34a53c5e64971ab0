-- How a dump that follows a file waits for more commits, and what ends it.
use Rattle.std.specs.Prelude.{◌≡◌, Bool, true, false, Option, None, Some, Result, Ok, Err}
use Rattle.tb_edge_file.specs.declared.asides.Reason.{Reason}
use Rattle.tb_edge_file.specs.declared.faults.KeepCommandFault.{KeepCommandFault}
use Rattle.tb_edge_file.specs.declared.openers.Waited.{Waited}
use Rattle.tb_edge_file.specs.declared.openers.Waited.TheVariants.{Enough, More, Parted}
use Rattle.tb_edge_file.specs.ExitStatuses.{reason_fault}

-- a part of a dump ended: all was written, and maybe it is known why the file is not followed any more; or a fault ended it
abbrev pub Followed : Type 0
Followed = Result (Option Reason) KeepCommandFault

-- whether all was written until then
abbrev pub written_by : Followed → Result (Unit {0}) KeepCommandFault
written_by (Ok parted) = Ok tt
written_by (Err fault) = Err fault

-- the outcome: if it is known why the file is not followed any more, that is the fault
abbrev pub ended_by : Followed → Result (Unit {0}) KeepCommandFault
ended_by (Ok None) = Ok tt
ended_by (Ok (Some reason)) = Err (reason_fault reason)
ended_by (Err fault) = Err fault

-- waits one after the other, after each of which there may be more
pub data Waits {O : Type 0} (pauses : O → Waited → O → Type 0) : O → O → Type 0 where
  Begun : {first : O} → Waits pauses first first
  Again : {first between last : O} → Waits pauses first between → pauses between More last → Waits pauses first last

module _ {O : Type 0} (pauses : O → Waited → O → Type 0) where
  -- and then one that ended so
  pub record WaitsUntil (answer : Waited) (first last : O) : Type 0 where
    pub between : O
    pub waits : Waits pauses first between
    pub ends : pauses between answer last

  -- more was waited for until nobody waited, until the file was not followed any more, or until a fault
  abbrev pub EndsWaiting : Followed → O → O → Type 0
  EndsWaiting (Ok None) first last = WaitsUntil Enough first last
  EndsWaiting (Ok (Some reason)) first last = WaitsUntil (Parted reason) first last
  EndsWaiting (Err fault) first last = Waits pauses first last

  -- if nothing was to be waited for, nothing was, and no reason is known
  abbrev pub EndsIf : Bool → Followed → O → O → Type 0
  EndsIf true followed first last = EndsWaiting followed first last
  EndsIf false (Ok (Some reason)) first last = ⊥
  EndsIf false followed first last = last ≡ first
