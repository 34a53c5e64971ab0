-- What is read from bytes: a frame of a slice, and the frames of a stream one by one.
use Rattle.std.specs.Prelude.{ℕ, ◌≡◌, ◌+◌, ◌<◌, ◌≤◌, ◌^◌, List, [], ◌++◌, length, take, drop, Option, Some, None, Result, Ok, Err}
use Rattle.tb_records.specs.declared.faults.FrameFault.{FrameFault}
use Rattle.tb_records.specs.declared.faults.FrameFault.TheVariants.{Short, Device, NoMemory}
use Rattle.tb_records.specs.Frames.{Spells, IsRequest, request_bytes, request_fault, header_fault, length_at}
use Rattle.tb_records.specs.Messages.{Message}
use Rattle.tb_records.specs.Numbers.{le_bytes}
use Rattle.tb_records.specs.Transport.{IsOfBytes}

-- the result for a slice: the request that its first n bytes encode, or the first fault; out of memory only if there is no fault
abbrev pub Found : Result (Message × ℕ) FrameFault → List ℕ → Type 0
Found (Ok (r, n)) bytes = (n ≤ length bytes) × Spells (take n bytes) r
Found (Err NoMemory) bytes = request_fault bytes ≡ None
Found (Err fault) bytes = request_fault bytes ≡ Some fault

-- the only result is the request of n bytes, unless memory runs out
abbrev pub OnlyThis : Result (Message × ℕ) FrameFault → Message → ℕ → Type 0
OnlyThis (Ok (found, k)) r n = (found ≡ r) × (k ≡ n)
OnlyThis (Err NoMemory) r n = Unit {0}
OnlyThis (Err fault) r n = ⊥

-- a stream: its reader, and the fault that ended it
pub record Stream (R : Type 0) : Type 0 where
  pub source : R
  pub fault : Option FrameFault

-- a stream that has returned no fault
abbrev pub opened : {R : Type 0} → R → Stream R
opened source = record { source = source; fault = None }

-- the fault of a result
abbrev pub fault_in : {X : Type 0} → Result X FrameFault → Option FrameFault
fault_in (Ok x) = None
fault_in (Err fault) = Some fault

-- the bytes that are left before and after a frame's fault. Device: a read failed, and at most the frame is consumed. NoMemory: the number of items
-- was checked, and only the header is consumed. Short: the header or the body is cut, and what there is of it is consumed. Any other fault is one of
-- the header, and only the header is consumed
abbrev pub Faulted : FrameFault → List ℕ → List ℕ → Type 0
Faulted Device before after = (front : List ℕ) × (length front ≤ 48 + length_at before) × (before ≡ front ++ after)
Faulted NoMemory before after = (48 ≤ length before) × (header_fault before ≡ None) × (after ≡ drop 48 before)
Faulted Short before after = (0 < length before) × (request_fault before ≡ Some Short) × (after ≡ [])
Faulted fault before after = (request_fault before ≡ Some fault) × (after ≡ drop 48 before)

-- the result of a stream: nothing at its end, otherwise a request, of which exactly the bytes are read, or a fault
abbrev pub Answered : Result (Option Message) FrameFault → List ℕ → List ℕ → Type 0
Answered (Ok None) before after = (before ≡ []) × (after ≡ [])
Answered (Ok (Some r)) before after = (before ≡ request_bytes r ++ after) × IsRequest r
Answered (Err fault) before after = Faulted fault before after

-- the same for a reader that may not report its bytes
abbrev pub Answers : Result (Option Message) FrameFault → Option (List ℕ) → Option (List ℕ) → Type 0
Answers result before after = IsOfBytes (Answered result) before after

-- a fault of a moment of 8 bytes and a frame after it
abbrev pub TimedFaulted : FrameFault → List ℕ → List ℕ → Type 0
TimedFaulted Device before after = (front : List ℕ) × (length front ≤ 56 + length_at (drop 8 before)) × (before ≡ front ++ after)
TimedFaulted Short before after = (0 < length before) × (request_fault (drop 8 before) ≡ Some Short) × (after ≡ [])
TimedFaulted fault before after = Faulted fault (drop 8 before) after

-- the bytes of a moment and a request
abbrev pub timed_bytes : ℕ × Message → List ℕ
timed_bytes pair = le_bytes 8 pair.0 ++ request_bytes pair.1

-- the numbers of a moment and a request fit their fields, and keep the rules
abbrev pub IsTimed : ℕ × Message → Type 0
IsTimed pair = (pair.0 < 2 ^ 64) × IsRequest pair.1

-- the result of a stream of moments and requests
abbrev pub TimedAnswered : Result (Option (ℕ × Message)) FrameFault → List ℕ → List ℕ → Type 0
TimedAnswered (Ok None) before after = (before ≡ []) × (after ≡ [])
TimedAnswered (Ok (Some pair)) before after = (before ≡ timed_bytes pair ++ after) × (pair.0 < 2 ^ 64) × IsRequest pair.1
TimedAnswered (Err fault) before after = TimedFaulted fault before after

-- the same for a reader that may not report its bytes
abbrev pub TimedAnswers : Result (Option (ℕ × Message)) FrameFault → Option (List ℕ) → Option (List ℕ) → Type 0
TimedAnswers result before after = IsOfBytes (TimedAnswered result) before after
