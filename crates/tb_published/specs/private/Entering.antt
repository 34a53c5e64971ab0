-- What becomes of a request that is entered by the state S of a history h, which become T and m.
use Rattle.std.specs.Prelude.{ℕ, true, false, ◌≡◌, ◌≢◌, List, [], ◌∷◌, ◌++◌, Result, Ok, Err, MatchResult}
use Rattle.std.specs.declared.alloc.AllocError.{AllocError}
use Rattle.tb_records.specs.Messages.{Message, IsLawful}
use Rattle.tb_sessions.specs.declared.classes.Class.TheVariants.{New, Repeat}
use Rattle.tb_sessions.specs.Judged.{class_of}
use Rattle.tb_machine.specs.declared.entries.Entry.{Entry}
use Rattle.tb_machine.specs.Histories.{State, status_of, answer_to, step}
use Rattle.tb_machine.specs.Scripts.{entry_of, has_time}
use Rattle.tb_published.specs.declared.faults.Taken.{Taken}
use Rattle.tb_published.specs.declared.faults.Taken.TheVariants as taken
use Rattle.tb_published.specs.declared.faults.TakeFault.{TakeFault}
use Rattle.tb_published.specs.declared.faults.TakeFault.TheVariants as fault

-- an entry is appended to the history and enters the state, and its commit number is returned; if there is no memory, both stay
abbrev pub AddsEntry : State → List Entry → Entry → Result ℕ AllocError → State → List Entry → Type 0
AddsEntry S h e result T m = MatchResult result (λ c. (c ≡ e.commit) × (T ≡ step S e) × (m ≡ h ++ e ∷ [])) (λ _. (T ≡ S) × (m ≡ h))

-- a new request has the next commit number, and the state is the one after its entry; a repeat names the stored reply's entry, and any other is
-- refused by its class
abbrev pub EntersBy : State → List Entry → Message → ℕ → Result Taken TakeFault → State → List Entry → Type 0
EntersBy S h r now (Ok (taken.Committed c)) T m =
    (class_of S.rows r ≡ New) × (has_time S (now, r) ≡ true) × (c ≡ (entry_of S (now, r)).commit) × (T ≡ step S (entry_of S (now, r))) × (m ≡ h ++ entry_of S (now, r) ∷ [])
EntersBy S h r now (Ok (taken.Repeat c)) T m = (class_of S.rows r ≡ Repeat) × (c ≡ (answer_to S r).commit) × IsLawful r × (T ≡ S) × (m ≡ h)
EntersBy S h r now (Ok (taken.Refused s)) T m = (class_of S.rows r ≢ New) × (class_of S.rows r ≢ Repeat) × (s ≡ status_of (class_of S.rows r)) × (T ≡ S) × (m ≡ h)
EntersBy S h r now (Err fault.NoMemory) T m = (class_of S.rows r ≡ New) × (has_time S (now, r) ≡ true) × (T ≡ S) × (m ≡ h)
EntersBy S h r now (Err fault.TimeExhausted) T m = (class_of S.rows r ≡ New) × (has_time S (now, r) ≡ false) × (T ≡ S) × (m ≡ h)
EntersBy S h r now (Err (fault.Unpublished c)) T m = ⊥
