-- How a machine is restored from the entries of a journal.
use Rattle.std.specs.Prelude.{ℕ, Bool, not, ◌&&◌, ◌==◌, ◌≡◌, ◌+◌, nat_le, IsTrue, List, [], ◌∷◌, ◌++◌, length, codes, Option, Some, None, Result, Ok, Err, if◌then◌else◌}
use Rattle.tb_records.specs.declared.limits.Profile.{Profile}
use Rattle.tb_records.specs.declared.limits.TheConstants.{LAST_MOMENT}
use Rattle.tb_sessions.specs.Judged.{class_of}
use Rattle.tb_machine.specs.declared.entries.Entry.{Entry}
use Rattle.tb_machine.specs.declared.restoring.RestoreFault.{RestoreFault}
use Rattle.tb_machine.specs.declared.restoring.Unfit.{Unfit}
use Rattle.tb_machine.specs.declared.restoring.Unfit.TheVariants.{Commit, Time, NotNew, NoMemory}
use Rattle.tb_machine.specs.Histories.{State, least_time, is_new, is_lawful, fits, step}
use Rattle.tb_machine.specs.Dumps.{IsPlace, after_with, IsLegalWith}

abbrev pub unfit_name : Unfit → List ℕ
unfit_name Commit = codes "Commit"
unfit_name Time = codes "Time"
unfit_name NotNew = codes "NotNew"
unfit_name NoMemory = codes "NoMemory"

-- the time is late enough, and at most the last moment
abbrev pub is_in_time : State → Entry → Bool
is_in_time S e = nat_le (least_time S e.request) e.time && nat_le e.time LAST_MOMENT

-- the first check that an entry fails, if it may not come next
abbrev pub cause_of : State → Entry → Option Unfit
cause_of S e =
    if not (e.commit == S.commit + 1) then Some Commit
    else if not (is_in_time S e) then Some Time
    else if not (is_new (class_of S.rows e.request)) then Some NotNew
    else None

-- out of memory is reported only of an entry that may come next
abbrev pub IsUnfitCause : Unfit → Option Unfit → Type 0
IsUnfitCause NoMemory first = first ≡ None
IsUnfitCause cause first = first ≡ Some cause

-- an entry that may come next is entered; for any other entry its place and the first check that it fails are reported
abbrev pub Restores : Result (Unit {0}) RestoreFault → State → State → Entry → Type 0
Restores (Ok done) S T e = IsTrue (fits S e) × (T ≡ step S e)
Restores (Err fault) S T e = (T ≡ S) × (fault.place ≡ S.commit + 1) × IsUnfitCause fault.cause (cause_of S e)

-- the same in terms of the history that was restored before: it grows by the entry and stays legal, or no legal history continues with it
module _ (profile : Profile) (clients_max : ℕ) (mark : Option ℕ) (h : List Entry) (e : Entry) where
  abbrev pub IsBarred : Unfit → Type 0
  IsBarred NoMemory = IsLegalWith profile clients_max mark (h ++ e ∷ [])
  IsBarred cause = (more : List Entry) → IsLegalWith profile clients_max mark (h ++ e ∷ more) → ⊥

  abbrev pub RestoresNext : Result (Unit {0}) RestoreFault → State → Type 0
  RestoresNext (Ok done) T = IsLegalWith profile clients_max mark (h ++ e ∷ []) × (T ≡ after_with profile clients_max mark (h ++ e ∷ []))
  RestoresNext (Err fault) T = (T ≡ after_with profile clients_max mark h) × (fault.place ≡ length h + 1) × IsBarred fault.cause

-- entries restored one after another, from a machine that is in the state after a legal history
abbrev pub RestoresHistory : Type 0
RestoresHistory = (profile : Profile) (clients_max : ℕ) (mark : Option ℕ) (h : List Entry) (e : Entry) (result : Result (Unit {0}) RestoreFault) (T : State)
    → IsPlace profile mark h → IsLegalWith profile clients_max mark h → IsTrue (is_lawful e.request)
    → Restores result (after_with profile clients_max mark h) T e → RestoresNext profile clients_max mark h e result T
