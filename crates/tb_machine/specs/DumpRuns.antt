-- The result of a dump of a script: the pairs that it read, the entries that it wrote, and what ended it.
use Rattle.std.specs.Prelude.{ℕ, Bool, true, false, ◌==◌, ◌≡◌, ◌⊎◌, ◌-◌, ◌^◌, List, [], ◌++◌, length, Option, Some, None, Result, Ok, Err, if◌then◌else◌}
use Rattle.tb_records.specs.declared.faults.FrameFault.TheVariants.{Device}
use Rattle.tb_records.specs.declared.limits.Profile.TheVariants.{One}
use Rattle.tb_records.specs.DumpBytes.{head_bytes, mark_bytes}
use Rattle.tb_records.specs.Transport.{Input, Output, Sent, CutOff}
use Rattle.tb_machine.specs.declared.entries.Entry.{Entry}
use Rattle.tb_machine.specs.declared.serving.RunFault.{RunFault}
use Rattle.tb_machine.specs.declared.serving.RunFault.TheVariants as fault
use Rattle.tb_machine.specs.Histories.{State, step, to_two}
use Rattle.tb_machine.specs.Scripts.{Pair, entry_of, has_time}
use Rattle.tb_machine.specs.Runs.{Reads, is_new_in, PairAnswered, HasTimes}
use Rattle.tb_machine.specs.Worked.{EndsBy, Done, Worked, GoesOn, items_taken}
use Rattle.tb_machine.specs.Dumps.{dumped, DumpSpells, place_in, after_at, accepted_at}

-- one pair

-- the mark is directly before the entry that follows the first n
abbrev pub marks_at : Option ℕ → ℕ → Bool
marks_at None n = false
marks_at (Some at) n = at == n

-- what is written before an entry
abbrev pub mark_before : Bool → List ℕ
mark_before due = if due then mark_bytes else []

-- the state in which that entry is executed
abbrev pub changed_profile : Bool → State → State
changed_profile due S = if due then to_two S else S

-- what the entry of a new pair adds to a dump
abbrev pub added_bytes : Option ℕ → State → Pair → List ℕ
added_bytes at S p = mark_before (marks_at at S.commit) ++ dumped (entry_of S p)

-- a new pair's entry is written, with the mark if that comes before it; for any other pair nothing is written
abbrev pub DumpsPair : Option ℕ → Result (Unit {0}) RunFault → State → State → Pair → Output → Output → Type 0
DumpsPair at (Ok done) S T p before after =
    ((is_new_in S p ≡ false) × (T ≡ S) × (after ≡ before))
    ⊎ ((is_new_in S p ≡ true) × (has_time S p ≡ true) × (T ≡ step (changed_profile (marks_at at S.commit) S) (entry_of S p)) × Sent (added_bytes at S p) before after)
DumpsPair at (Err (fault.Frame f)) S T p before after = (is_new_in S p ≡ true) × (has_time S p ≡ true) × (f ≡ Device) × CutOff (added_bytes at S p) before after
DumpsPair at (Err fault.NoMemory) S T p before after = (is_new_in S p ≡ true) × (has_time S p ≡ true) × (after ≡ before)
DumpsPair at (Err fault.TimeExhausted) S T p before after = (is_new_in S p ≡ true) × (has_time S p ≡ false) × (after ≡ before)
DumpsPair at (Err fault.TooLong) S T p before after = ⊥

-- the next pair is read and dumped, or there is no next pair
abbrev pub DumpsNext : Option ℕ → Result Bool RunFault → State → State → Input → Input → Output → Output → Type 0
DumpsNext at = GoesOn PairAnswered (DumpsPair at)

-- a script

module _ (clients_max : ℕ) (at : Option ℕ) where
  -- the history that pairs make, by profile 1 up to the mark
  abbrev pub history_made : List Pair → List Entry
  history_made ps = accepted_at One clients_max at [] ps

  -- the bytes are the dump of the history of the pairs
  pub record DumpsHistory (ps : List Pair) (bytes : List ℕ) : Type 0 where
    pub times : HasTimes (after_at One clients_max at) [] ps
    pub spelled : DumpSpells bytes One clients_max (history_made ps) (place_in at (history_made ps))

  -- the pairs were read, and exactly the dump of their history was written
  abbrev pub HasDumped : List Pair → Input → Input → Output → Output → Type 0
  HasDumped = Done Reads DumpsHistory

  -- the fault that does not come from a pair: there are too many pairs to count
  abbrev pub DumpHalts : RunFault → List Pair → Type 0
  DumpHalts fault.TooLong ps = length ps ≡ 2 ^ 64 - 1
  DumpHalts f ps = ⊥

  -- no pair was read: there is no memory for the machine, or the head was cut off
  abbrev pub NotBegun : Result ℕ RunFault → Input → Input → Output → Output → Type 0
  NotBegun (Err fault.NoMemory) before after start written = (after ≡ before) × (written ≡ start)
  NotBegun (Err (fault.Frame f)) before after start written = (f ≡ Device) × (after ≡ before) × CutOff (head_bytes One clients_max) start written
  NotBegun result before after start written = ⊥

  -- some pairs were dumped, and then the script ended, or a fault occurred
  abbrev pub Begun : Result ℕ RunFault → Input → Input → Output → Output → Type 0
  Begun = Worked Reads DumpsHistory (EndsBy PairAnswered (DumpsPair at) (items_taken (λ ps. length (history_made ps)) (λ ps. after_at One clients_max at (history_made ps)) DumpHalts))

  -- a whole dump
  abbrev pub DumpRan : Result ℕ RunFault → Input → Input → Output → Output → Type 0
  DumpRan result before after start written = NotBegun result before after start written ⊎ Begun result before after start written
