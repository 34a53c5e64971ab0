-- The bytes of a dump: a head of 16 bytes, and after it entries and at most one mark, one after another.
use Rattle.std.specs.Prelude.{ℕ, ◌≡◌, ◌≢◌, ◌⊎◌, ◌+◌, ◌^◌, ◌<◌, ◌≤◌, List, [], ◌++◌, length, drop, codes, Option, Some, None, Result, Ok, Err}
use Rattle.tb_records.specs.declared.dumps.DumpFault.{DumpFault}
use Rattle.tb_records.specs.declared.dumps.DumpFault.TheVariants.{Head, Mark, Frame}
use Rattle.tb_records.specs.declared.dumps.DumpHead.{DumpHead}
use Rattle.tb_records.specs.declared.dumps.DumpItem.{DumpItem}
use Rattle.tb_records.specs.declared.dumps.DumpItem.TheVariants as item
use Rattle.tb_records.specs.declared.faults.FrameFault.{FrameFault}
use Rattle.tb_records.specs.declared.faults.FrameFault.TheVariants.{Short, Device}
use Rattle.tb_records.specs.declared.limits.Profile.{Profile}
use Rattle.tb_records.specs.declared.limits.Profile.TheVariants.{One, Two}
use Rattle.tb_records.specs.Frames.{request_bytes, request_fault, length_at, IsRequest}
use Rattle.tb_records.specs.Inputs.{Faulted}
pub use Rattle.tb_records.specs.Limits.{IsClients}
use Rattle.tb_records.specs.Messages.{Message}
use Rattle.tb_records.specs.Numbers.{le_bytes}
use Rattle.tb_records.specs.Transport.{Input, IsOfBytes, Fails, FaultCounts}

-- what a dump begins with
abbrev pub signature : List ℕ
signature = codes "TBSDUMP1"

abbrev pub profile_number : Profile → ℕ
profile_number One = 1
profile_number Two = 2

-- the head: the signature, the profile, and the number of clients that can have a session at one time
unfoldable pub head_bytes : Profile → ℕ → List ℕ
head_bytes profile clients_max = signature ++ le_bytes 4 (profile_number profile) ++ le_bytes 4 clients_max

-- two numbers of 8 bytes: those of an entry, or a mark's
unfoldable pub numbers_bytes : ℕ → ℕ → List ℕ
numbers_bytes first second = le_bytes 8 first ++ le_bytes 8 second

-- after a mark profile 2 executes the entries
abbrev pub mark_bytes : List ℕ
mark_bytes = numbers_bytes 0 2

-- an entry: its commit number, its time, and the frame of its request
abbrev pub entry_bytes : ℕ → ℕ → Message → List ℕ
entry_bytes commit time r = numbers_bytes commit time ++ request_bytes r

-- what the bytes of an entry can hold: commit number 0 means a mark
pub record IsDumped (commit time : ℕ) (r : Message) : Type 0 where
  pub entry : 0 < commit
  pub commit_fits : commit < 2 ^ 64
  pub time_fits : time < 2 ^ 64
  pub request : IsRequest r

-- what is read

-- the bytes do not begin with a head
abbrev pub HasNoHead : List ℕ → Type 0
HasNoHead b = (profile : Profile) (clients_max : ℕ) (rest : List ℕ) → IsClients clients_max → b ≡ head_bytes profile clients_max ++ rest → ⊥

abbrev pub HeadAnswered : Result DumpHead DumpFault → List ℕ → List ℕ → Type 0
HeadAnswered (Ok head) before after = (before ≡ head_bytes head.profile head.clients_max ++ after) × IsClients head.clients_max
HeadAnswered (Err Head) before after = HasNoHead before × (after ≡ drop 16 before)
HeadAnswered (Err (Frame Device)) before after = (front : List ℕ) × (length front ≤ 16) × (before ≡ front ++ after)
HeadAnswered (Err fault) before after = ⊥

-- the same for a reader that may not report its bytes
abbrev pub HeadAnswers : Result DumpHead DumpFault → Option (List ℕ) → Option (List ℕ) → Type 0
HeadAnswers result before after = IsOfBytes (HeadAnswered result) before after

-- the first 16 bytes are those of an entry
pub record Begins (before rest : List ℕ) : Type 0 where
  pub commit : ℕ
  pub time : ℕ
  pub entry : 0 < commit
  pub bytes : before ≡ numbers_bytes commit time ++ rest

-- there is at least one byte, but too few for two numbers
abbrev pub IsCut : List ℕ → Type 0
IsCut b = (0 < length b) × (length b < 16)

-- after an entry's numbers: no frame, or a frame with a fault
abbrev pub FrameFaulted : FrameFault → List ℕ → List ℕ → Type 0
FrameFaulted Short rest after = (request_fault rest ≡ Some Short) × (after ≡ [])
FrameFaulted fault rest after = Faulted fault rest after

-- the bytes that are left before and after a fault; if the reader failed, at most an entry's bytes are consumed
abbrev pub ItemFaulted : DumpFault → List ℕ → List ℕ → Type 0
ItemFaulted Mark before after = (number : ℕ) × (before ≡ numbers_bytes 0 number ++ after) × (number < 2 ^ 64) × (number ≢ 2)
ItemFaulted (Frame Device) before after = (front : List ℕ) × (length front ≤ 64 + length_at (drop 16 before)) × (before ≡ front ++ after)
ItemFaulted (Frame Short) before after = (IsCut before × (after ≡ [])) ⊎ ((rest : List ℕ) × Begins before rest × FrameFaulted Short rest after)
ItemFaulted (Frame fault) before after = (rest : List ℕ) × Begins before rest × FrameFaulted fault rest after
ItemFaulted fault before after = ⊥

-- the next item of a dump: nothing at its end, otherwise a mark or an entry, of which exactly the bytes are read, or a fault
abbrev pub ItemAnswered : Result (Option DumpItem) DumpFault → List ℕ → List ℕ → Type 0
ItemAnswered (Ok None) before after = (before ≡ []) × (after ≡ [])
ItemAnswered (Ok (Some item.Mark)) before after = before ≡ mark_bytes ++ after
ItemAnswered (Ok (Some (item.Entry commit time request))) before after = (before ≡ entry_bytes commit time request ++ after) × IsDumped commit time request
ItemAnswered (Err fault) before after = ItemFaulted fault before after

-- the same for a reader that may not report its bytes
abbrev pub ItemAnswers : Result (Option DumpItem) DumpFault → Option (List ℕ) → Option (List ℕ) → Type 0
ItemAnswers result before after = IsOfBytes (ItemAnswered result) before after

-- what a result means for the reader's errors, and which faults it can be

abbrev pub HeadCounts : Result DumpHead DumpFault → Input → Input → Type 0
HeadCounts (Ok head) before after = after.failed ≡ before.failed
HeadCounts (Err Head) before after = after.failed ≡ before.failed
HeadCounts (Err (Frame Device)) before after = Fails before after
HeadCounts (Err fault) before after = ⊥

abbrev pub ItemCounts : Result (Option DumpItem) DumpFault → Input → Input → Type 0
ItemCounts (Ok item) before after = after.failed ≡ before.failed
ItemCounts (Err Mark) before after = after.failed ≡ before.failed
ItemCounts (Err (Frame fault)) before after = FaultCounts fault before after
ItemCounts (Err fault) before after = ⊥
