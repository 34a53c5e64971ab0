-- What a phase says of a call, whatever the numbers of its request are.
use Rattle.std.specs.Prelude.{ℕ, Bool, ◌==◌, ◌-◌, ◌^◌, Option, Some, None, if◌then◌else◌}
use Rattle.tb_caller.specs.declared.callers.Phase.{Phase}
use Rattle.tb_caller.specs.declared.callers.Phase.TheVariants.{Unregistered, Open, Idle, Ended}
use Rattle.tb_caller.specs.declared.faults.CallFault.{CallFault}
use Rattle.tb_caller.specs.declared.faults.CallFault.TheVariants as fault

-- why a call makes no request after the request with this number; register says that it is a register
abbrev pub phase_fault : Phase → ℕ → Bool → Option CallFault
phase_fault Unregistered last register = if register then None else Some fault.NotRegistered
phase_fault (Open s) last register = Some fault.Unanswered
phase_fault Idle last register =
    if register then Some fault.Registered
    else if last == 2 ^ 32 - 1 then Some fault.NoNumber
    else None
phase_fault (Ended s) last register = Some fault.Ended
