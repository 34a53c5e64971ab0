-- What becomes of a request that is taken.
use Rattle.std.specs.Prelude.{ℕ, true, false, ◌≡◌, ◌≢◌, ◌⊎◌, ◌+◌, ◌<◌, List, [], ◌∷◌, ◌++◌, length, Result, Ok, Err}
use Rattle.tb_records.specs.Messages.{Message}
use Rattle.tb_sessions.specs.declared.classes.Class.{Class}
use Rattle.tb_sessions.specs.declared.classes.Class.TheVariants.{New, Repeat}
use Rattle.tb_sessions.specs.Judged.{class_of}
use Rattle.tb_machine.specs.declared.entries.Entry.{Entry}
use Rattle.tb_machine.specs.Histories.{status_of}
use Rattle.tb_machine.specs.Scripts.{entry_of, has_time}
use Rattle.tb_published.specs.declared.faults.Taken.{Taken}
use Rattle.tb_published.specs.declared.faults.Taken.TheVariants as taken
use Rattle.tb_published.specs.declared.faults.TakeFault.{TakeFault}
use Rattle.tb_published.specs.declared.faults.TakeFault.TheVariants as fault
use Rattle.tb_published.specs.Openings.{Opening, HoldsIn, after_in}

-- the class of a request after a history
abbrev pub class_in : Opening → List Entry → Message → Class
class_in o h r = class_of (after_in o h).rows r

-- a request that comes at a moment is entered: the history h becomes m
abbrev pub Enters : Opening → List Entry → Message → ℕ → Result Taken TakeFault → List Entry → Type 0
Enters o h r now (Ok (taken.Committed c)) m = (class_in o h r ≡ New) × (has_time (after_in o h) (now, r) ≡ true) × (c ≡ length h + 1) × (m ≡ h ++ entry_of (after_in o h) (now, r) ∷ [])
Enters o h r now (Ok (taken.Repeat c)) m = (class_in o h r ≡ Repeat) × HoldsIn o h r c × (m ≡ h)
Enters o h r now (Ok (taken.Refused s)) m = (class_in o h r ≢ New) × (class_in o h r ≢ Repeat) × (s ≡ status_of (class_in o h r)) × (m ≡ h)
Enters o h r now (Err fault.NoMemory) m = (class_in o h r ≡ New) × (has_time (after_in o h) (now, r) ≡ true) × (m ≡ h)
Enters o h r now (Err fault.TimeExhausted) m = (class_in o h r ≡ New) × (has_time (after_in o h) (now, r) ≡ false) × (m ≡ h)
Enters o h r now (Err (fault.Unpublished c)) m = ⊥

-- it is taken: entered, and shown by the copies, which show s afterwards. It is judged only after they show all of h: if they could not, h stays as
-- it was; if they could not show its entry, they still show all of h
abbrev pub TakesRequest : Opening → List Entry → Message → ℕ → Result Taken TakeFault → List Entry → List Entry → Type 0
TakesRequest o h r now (Ok t) m s = Enters o h r now (Ok t) m × (s ≡ m)
TakesRequest o h r now (Err (fault.Unpublished c)) m s = (c ≡ length m) × (length s < length m) × ((m ≡ h) ⊎ (Enters o h r now (Ok (taken.Committed c)) m × (s ≡ h)))
TakesRequest o h r now (Err fault.NoMemory) m s = Enters o h r now (Err fault.NoMemory) m × (s ≡ m)
TakesRequest o h r now (Err fault.TimeExhausted) m s = Enters o h r now (Err fault.TimeExhausted) m × (s ≡ m)

-- the whole history is shown, or a shorter prefix of it
abbrev pub ShowsHistory : Result ℕ TakeFault → List Entry → List Entry → Type 0
ShowsHistory (Ok c) m s = (c ≡ length m) × (s ≡ m)
ShowsHistory (Err (fault.Unpublished c)) m s = (c ≡ length m) × (length s < length m)
ShowsHistory (Err fault.NoMemory) m s = ⊥
ShowsHistory (Err fault.TimeExhausted) m s = ⊥
