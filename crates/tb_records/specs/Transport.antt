-- What readers and writers report of their bytes, and how their failures are counted.
use Rattle.std.specs.Prelude.{ℕ, Bool, true, false, ◌≡◌, ◌+◌, ◌-◌, ◌^◌, ◌⊎◌, ◌&&◌, ◌==◌, not, min, List, length, take, Option, None, Some, Result, Ok, Err, MatchResult, if◌then◌else◌}
use Rattle.std.specs.Io.KnownBytes.{Appends}
use Rattle.tb_records.specs.declared.faults.FrameFault.{FrameFault}
use Rattle.tb_records.specs.declared.faults.FrameFault.TheVariants.{Device}

-- a reader: the bytes that are left, if it reports them, the number of its errors, whether its last result was an error, and the bytes that the next
-- reads return without waiting
pub record Input : Type 0 where
  pub left : Option (List ℕ)
  pub failed : ℕ
  pub halted : Bool
  pub at_hand : List ℕ

-- a writer: the bytes written, if it reports them, the number of its errors, and how often it took none of the bytes offered. Then whether its last
-- result was one of these, and whether it took bytes that it has not passed on
pub record Output : Type 0 where
  pub written : Option (List ℕ)
  pub failed : ℕ
  pub stalled : ℕ
  pub halted : Bool
  pub held : Bool

-- a std reader or writer, with its counts
pub record Counted (T : Type 0) : Type 0 where
  pub inner : T
  pub failures : ℕ
  pub stalls : ℕ
  pub halted : Bool
  pub held : Bool

-- nothing was counted yet
abbrev pub uncounted : {T : Type 0} → T → Counted T
uncounted inner = record { inner = inner; failures = 0; stalls = 0; halted = false; held = false }

-- a count that is incremented, and stays at its maximum
abbrev pub risen : ℕ → ℕ
risen n = min (n + 1) (2 ^ 64 - 1)

-- readers

-- what holds of the bytes left before and after, if the reader reports them; otherwise nothing is stated
abbrev pub IsOfBytes : (List ℕ → List ℕ → Type 0) → Option (List ℕ) → Option (List ℕ) → Type 0
IsOfBytes Holds None after = Unit {0}
IsOfBytes Holds (Some before) None = ⊥
IsOfBytes Holds (Some before) (Some after) = Holds before after

-- one error was counted, and the reader was not called again: it is as it was when the count rose
pub record Fails (before after : Input) : Type 0 where
  pub rose : after.failed ≡ risen before.failed
  pub last : after.halted ≡ true

-- one result that is not an error
pub record Gives (before after : Input) : Type 0 where
  pub counted : after.failed ≡ before.failed
  pub last : after.halted ≡ false

-- what a fault means for the reader's errors: for Device there was one, for any other fault there was none
abbrev pub FaultCounts : FrameFault → Input → Input → Type 0
FaultCounts Device before after = Fails before after
FaultCounts fault before after = after.failed ≡ before.failed

-- a result that is not a fault means that there was no error
abbrev pub Counts : {X : Type 0} → Result X FrameFault → Input → Input → Type 0
Counts (Ok x) before after = after.failed ≡ before.failed
Counts (Err fault) before after = FaultCounts fault before after

-- writers

-- a writer that takes none of some bytes
abbrev pub is_stall : ℕ → List ℕ → Bool
is_stall taken bytes = taken == 0 && not (length bytes == 0)

-- one error was counted, or one stall, and the writer was offered nothing more: it is as it was when the count rose
pub record Refuses (before after : Output) : Type 0 where
  pub rose : ((after.failed ≡ risen before.failed) × (after.stalled ≡ before.stalled)) ⊎ ((after.failed ≡ before.failed) × (after.stalled ≡ risen before.stalled))
  pub last : after.halted ≡ true

-- one result: the writer took so many of the bytes, and holds them back until they are passed on
pub record Takes (taken : ℕ) (bytes : List ℕ) (before after : Output) : Type 0 where
  pub counted : after.failed ≡ before.failed
  pub stalls : after.stalled ≡ (if is_stall taken bytes then risen before.stalled else before.stalled)
  pub last : after.halted ≡ is_stall taken bytes
  pub holds : after.held ≡ (if taken == 0 then before.held else true)

-- one result that is an error
pub record Errs (before after : Output) : Type 0 where
  pub rose : after.failed ≡ risen before.failed
  pub flowed : after.stalled ≡ before.stalled
  pub last : after.halted ≡ true
  pub holds : after.held ≡ before.held

-- all bytes were written
pub record Sent (bytes : List ℕ) (before after : Output) : Type 0 where
  pub grown : Appends before.written after.written bytes
  pub counted : after.failed ≡ before.failed
  pub flowed : after.stalled ≡ before.stalled

-- a prefix of the bytes was written, and then the writer failed, or took nothing
pub record CutOff (bytes : List ℕ) (before after : Output) : Type 0 where
  pub count : ℕ
  pub grown : Appends before.written after.written (take count bytes)
  pub refused : Refuses before after

-- the bytes were written, or the device failed and left a prefix of them
abbrev pub IsSent : Result Unit FrameFault → List ℕ → Output → Output → Type 0
IsSent result bytes before after = MatchResult result (λ _. Sent bytes before after) (λ f. (f ≡ Device) × CutOff bytes before after)
