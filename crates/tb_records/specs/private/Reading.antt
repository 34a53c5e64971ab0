-- What is read on the way to the end of a frame. Only private functions use it.
use Rattle.std.specs.Prelude.{ℕ, ◌<◌, ◌≤◌, ◌^◌, List, length, take, flat_map, All, Option, Some, None, Result, Ok, Err, MatchResult, ◌≡◌}
use Rattle.std.specs.Io.KnownBytes.{Consumes, Keeps, IsAtEnd}
use Rattle.tb_records.specs.declared.faults.FrameFault.{FrameFault}
use Rattle.tb_records.specs.declared.faults.FrameFault.TheVariants.{Short, Device, NoMemory}
use Rattle.tb_records.specs.Inputs.{TimedAnswers}
use Rattle.tb_records.specs.Numbers.{le_bytes}
use Rattle.tb_records.specs.Transport.{Input}

-- the first n bytes of a buffer came from the reader: all of it, or all that was left
pub record Filled (n : ℕ) (buf : List ℕ) (before after : Option (List ℕ)) : Type 0 where
  pub within : n ≤ length buf
  pub bytes : Consumes before after (take n buf)
  pub end : n < length buf → IsAtEnd after

-- the reader failed, with at most n bytes consumed
pub record Lost (n : ℕ) (before after : Option (List ℕ)) : Type 0 where
  pub front : List ℕ
  pub short : length front ≤ n
  pub bytes : Consumes before after front

-- fewer than n bytes were left, and now no byte is left
pub record RunsOut (n : ℕ) (before after : Option (List ℕ)) : Type 0 where
  pub rest : List ℕ
  pub short : length rest < n
  pub bytes : Consumes before after rest
  pub end : IsAtEnd after

-- the result of filling a buffer: how many of its bytes came from the reader, or Device
abbrev pub Fills : Result ℕ FrameFault → List ℕ → List ℕ → Input → Input → Type 0
Fills result buf filled before after =
    MatchResult result (λ n. Filled n filled before.left after.left) (λ f. (f ≡ Device) × Lost (length buf) before.left after.left)

-- count items were read, and their numbers fit
pub record ReadsItems {X : Type 0} (spelling : X → List ℕ) (Fits : X → Type 0) (count : ℕ) (items : List X) (before after : Option (List ℕ)) : Type 0 where
  pub long : length items ≡ count
  pub bytes : Consumes before after (flat_map spelling items)
  pub fit : All Fits items

-- what a fault in reading n bytes leaves: there were too few, or the reader failed
abbrev pub ReadFault : FrameFault → ℕ → Option (List ℕ) → Option (List ℕ) → Type 0
ReadFault Short n before after = RunsOut n before after
ReadFault Device n before after = Lost n before after
ReadFault fault n before after = ⊥

-- the result of filling a whole buffer
abbrev pub FillsAll : Result Unit FrameFault → List ℕ → List ℕ → Input → Input → Type 0
FillsAll result buf filled before after =
    MatchResult result (λ _. Consumes before.left after.left filled) (λ f. ReadFault f (length buf) before.left after.left)

-- the same for a body of n bytes, for which there may be no memory: then no byte of it was read
abbrev pub BodyFault : FrameFault → ℕ → Option (List ℕ) → Option (List ℕ) → Type 0
BodyFault NoMemory n before after = Keeps before after
BodyFault fault n before after = ReadFault fault n before after

-- the result of reading a body of n bytes: what was read of it, or a fault
abbrev pub ReadsOr : {X : Type 0} → Result X FrameFault → (X → Option (List ℕ) → Option (List ℕ) → Type 0) → ℕ → Input → Input → Type 0
ReadsOr result Reads n before after =
    MatchResult result (λ x. Reads x before.left after.left) (λ f. BodyFault f n before.left after.left)

-- a moment was read
pub record ReadsMoment (moment : ℕ) (before after : Option (List ℕ)) : Type 0 where
  pub bytes : Consumes before after (le_bytes 8 moment)
  pub fits : moment < 2 ^ 64

-- the result of a stream up to the moment
abbrev pub MomentAnswers : Result (Option ℕ) FrameFault → Option (List ℕ) → Option (List ℕ) → Type 0
MomentAnswers (Ok None) before after = TimedAnswers (Ok None) before after
MomentAnswers (Ok (Some moment)) before after = ReadsMoment moment before after
MomentAnswers (Err fault) before after = TimedAnswers (Err fault) before after
