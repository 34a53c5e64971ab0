-- What is read of an entry after its kind, and why it is refused.
use Rattle.std.specs.Prelude.{ℕ, ◌≡◌, ◌≢◌, ◌⊎◌, ◌+◌, ◌≤◌, ◌<◌, nat_le, nat_lt, List, [], ◌++◌, length, Option, Some, None, if◌then◌else◌, Err, Vec}
use Rattle.std.specs.Io.KnownBytes.{Consumes, IsAtEnd}
use Rattle.std.specs.declared.alloc.Global.{Global}
use Rattle.tb_records.specs.declared.faults.FrameFault.{FrameFault}
use Rattle.tb_records.specs.declared.faults.FrameFault.TheVariants as frame
use Rattle.tb_records.specs.Ordered.{Each}
use Rattle.tb_records.specs.Inputs.{IsTimed, TimedAnswered}
use Rattle.tb_records.specs.Transport.{Input, Fails}
use Rattle.tb_machine.specs.Scripts.{Pair}
use Rattle.tb_log.specs.declared.faults.LogFault.{LogFault}
use Rattle.tb_log.specs.declared.faults.LogFault.TheVariants.{Device, NoMemory, Short, Gap, Repeat, TooLong, Damaged, BadEntry}
use Rattle.tb_log.specs.Format.{content_max, content_of, numbers, checksum_of, summed, number_bytes}

-- the reader failed
abbrev pub ReaderFails : LogFault → Input → Input → Type 0
ReaderFails Device before after = Fails before after
ReaderFails fault before after = ⊥

-- the input ended within the bytes that were requested: only these bytes were left
pub record IsCutShort (fault : LogFault) (bytes : List ℕ) (before after : Input) : Type 0 where
  pub read : Consumes before.left after.left bytes
  pub end : IsAtEnd after.left
  pub fault_is : fault ≡ Short
  pub counted : after.failed ≡ before.failed

-- the numbers of the entry after the last position, and fewer bytes of its content than they say
pub record HasPart (last : ℕ) (bytes : List ℕ) : Type 0 where
  pub long : ℕ
  pub sum : ℕ
  pub part : List ℕ
  pub spelled : bytes ≡ numbers (last + 1) long ++ number_bytes 4 sum ++ part
  pub few : length part < long
  pub fits : long ≤ content_max

-- the input ended within an entry: within its numbers, or within its content
pub record IsShort (fault : LogFault) (last : ℕ) (before after : Input) : Type 0 where
  pub bytes : List ℕ
  pub cut : IsCutShort fault bytes before after
  pub part : (length bytes < 16) ⊎ HasPart last bytes

-- what is wrong with the numbers of an entry after the last position; the first test that holds decides
abbrev pub head_fault : ℕ → ℕ → ℕ → Option LogFault
head_fault last position long =
    if nat_le position last then Some (Repeat position)
    else if nat_lt (last + 1) position then Some (Gap position)
    else if nat_lt content_max long then Some (TooLong position)
    else None

-- an entry was read whole, and its checksum is right
pub record ReadsEntry (content : List ℕ) (last : ℕ) (before after : Input) : Type 0 where
  pub few : length content ≤ content_max
  pub bytes : Consumes before.left after.left (summed (last + 1) (checksum_of (last + 1) content) content)
  pub counted : after.failed ≡ before.failed

-- the same for an entry that is returned with its position
abbrev pub GivesEntry : ℕ → Input → Input → ℕ × Vec ℕ Global → Type 0
GivesEntry last before after entry = ReadsEntry entry.1.items last before after

-- its numbers are wrong: no byte after them was read
pub record IsWrong (fault : LogFault) (last : ℕ) (before after : Input) : Type 0 where
  pub position : ℕ
  pub long : ℕ
  pub sum : ℕ
  pub bytes : Consumes before.left after.left (numbers position long ++ number_bytes 4 sum)
  pub fault_is : head_fault last position long ≡ Some fault
  pub counted : after.failed ≡ before.failed

-- there was no memory for its content: no byte after its numbers was read
pub record LacksEntryMemory (fault : LogFault) (last : ℕ) (before after : Input) : Type 0 where
  pub long : ℕ
  pub sum : ℕ
  pub fits : long ≤ content_max
  pub bytes : Consumes before.left after.left (numbers (last + 1) long ++ number_bytes 4 sum)
  pub fault_is : fault ≡ NoMemory
  pub counted : after.failed ≡ before.failed

-- its checksum is wrong
pub record IsDamaged (fault : LogFault) (last : ℕ) (before after : Input) : Type 0 where
  pub content : List ℕ
  pub sum : ℕ
  pub bytes : Consumes before.left after.left (summed (last + 1) sum content)
  pub wrong : sum ≢ checksum_of (last + 1) content
  pub fault_is : fault ≡ Damaged (last + 1)
  pub counted : after.failed ≡ before.failed

-- the fault of bytes that are not a pair, in the entry at a position: what is wrong with them, or that there is no memory. The bytes are in memory
-- when they are checked, so that no reader fails
abbrev pub pair_fault : ℕ → FrameFault → LogFault
pair_fault position frame.NoMemory = NoMemory
pair_fault position frame.Device = NoMemory
pair_fault position fault = BadEntry position fault

-- the content begins with these pairs
pub record BeginsWithPairs (ps : List Pair) (content left : List ℕ) : Type 0 where
  pub spelled : content ≡ content_of ps ++ left
  pub fit : Each IsTimed ps

-- the content is pairs
abbrev pub IsPairs : List ℕ → Type 0
IsPairs content = (ps : List Pair) × BeginsWithPairs ps content []

-- after pairs with which the content begins come bytes that are not a pair
pub record IsNoPairs (fault : LogFault) (position : ℕ) (content : List ℕ) : Type 0 where
  pub pairs : List Pair
  pub left : List ℕ
  pub front : BeginsWithPairs pairs content left
  pub cause : FrameFault
  pub rest : List ℕ
  pub read : TimedAnswered (Err cause) left rest
  pub fault_is : fault ≡ pair_fault position cause

pub record IsBad (fault : LogFault) (last : ℕ) (before after : Input) : Type 0 where
  pub content : List ℕ
  pub entry : ReadsEntry content last before after
  pub bad : IsNoPairs fault (last + 1) content

abbrev pub RefusesEntry : LogFault → ℕ → Input → Input → Type 0
RefusesEntry fault last before after =
    ReaderFails fault before after ⊎ IsWrong fault last before after ⊎ IsDamaged fault last before after ⊎ IsBad fault last before after ⊎ IsShort fault last before after ⊎ LacksEntryMemory fault last before after
