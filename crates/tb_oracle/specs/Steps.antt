-- A step of a client's session as bytes, what the session makes of it, and the bytes of its answer.
use Rattle.std.specs.Prelude.{ℕ, ◌≡◌, ◌⊎◌, ◌<◌, ◌≤◌, List, [], ◌∷◌, ◌++◌, length, take, drop, slice_index, Some, None, Result, Ok, Err}
use Rattle.byteorder.specs.Endian.{little_bytes, little_number}
use Rattle.tb_records.specs.declared.faults.FrameFault.{FrameFault}
use Rattle.tb_records.specs.declared.faults.FrameFault.TheVariants as frame
use Rattle.tb_records.specs.Messages.{Message, Answer}
use Rattle.tb_records.specs.Frames.{Spells, IsRequest, request_bytes, request_fault}
use Rattle.tb_records.specs.ReplyFrames.{FoundReply, reply_fault}
use Rattle.tb_caller.specs.declared.callers.Heard.TheVariants as hearing
use Rattle.tb_caller.specs.declared.callers.Phase.{Phase}
use Rattle.tb_caller.specs.declared.callers.Phase.TheVariants.{Unregistered, Open, Idle, Ended}
use Rattle.tb_caller.specs.declared.faults.CallFault.{CallFault}
use Rattle.tb_caller.specs.declared.faults.CallFault.TheVariants as call
use Rattle.tb_caller.specs.Clients.{Client, field_fault, made, call_fault, called, heard, received}
use Rattle.tb_oracle.specs.declared.faults.OracleFault.{OracleFault}
use Rattle.tb_oracle.specs.declared.faults.OracleFault.TheVariants as fault
use Rattle.tb_oracle.specs.declared.steps.Outcome.{Outcome}
use Rattle.tb_oracle.specs.declared.steps.Outcome.TheVariants.{Made, NoCall, Reply, NoReply}

-- a client's fields

abbrev pub phase_code : Phase → ℕ
phase_code Unregistered = 0
phase_code (Open r) = 1
phase_code Idle = 2
phase_code (Ended r) = 3

-- the frame of the request that waits, or was left in doubt
abbrev pub phase_frame : Phase → List ℕ
phase_frame Unregistered = []
phase_frame (Open r) = request_bytes r
phase_frame Idle = []
phase_frame (Ended r) = request_bytes r

-- that request has a frame
abbrev pub HasRequest : Phase → Type 0
HasRequest Unregistered = Unit {0}
HasRequest (Open r) = IsRequest r
HasRequest Idle = Unit {0}
HasRequest (Ended r) = IsRequest r

-- a step: a head of 38 bytes, and the rest: the frame of the client's request, and what is given

abbrev pub id_at : List ℕ → ℕ
id_at head = little_number 16 head

abbrev pub step_session : List ℕ → ℕ
step_session head = little_number 8 (drop 16 head)

abbrev pub last_at : List ℕ → ℕ
last_at head = little_number 4 (drop 24 head)

abbrev pub phase_at : List ℕ → ℕ
phase_at head = slice_index head 28

-- what is done: 0 a call of the body of the given frame, 1 the given bytes came
abbrev pub kind_at : List ℕ → ℕ
kind_at head = slice_index head 29

-- the length of the rest
abbrev pub rest_length : List ℕ → ℕ
rest_length head = little_number 8 (drop 30 head)

pub record HasFields (c : Client) (given head rest : List ℕ) : Type 0 where
  pub id : c.id ≡ id_at head
  pub session : c.session ≡ step_session head
  pub last : c.last ≡ last_at head
  pub phase : phase_code c.phase ≡ phase_at head
  pub rest_is : rest ≡ phase_frame c.phase ++ given
  pub request : HasRequest c.phase

-- what a call makes of a client
abbrev pub Calls : Outcome → Client → Client → List ℕ → Type 0
Calls Made c d given = (r : Message) × Spells given r × (call_fault c r.body ≡ None) × (d ≡ called c (made c r.body))
Calls (NoCall f) c d given = (r : Message) × Spells given r × (call_fault c r.body ≡ Some f) × (d ≡ c)
Calls other c d given = ⊥

-- what bytes that came make of a client
abbrev pub ReceivesBytes : Outcome → Client → Client → List ℕ → Type 0
ReceivesBytes (Reply h n) c d given = (a : Answer) × FoundReply (Ok (a, n)) given × (h ≡ heard c a) × (d ≡ received c a)
ReceivesBytes (NoReply f) c d given = (reply_fault given ≡ Some f) × (d ≡ c)
ReceivesBytes other c d given = ⊥

abbrev pub Steps : ℕ → Outcome → Client → Client → List ℕ → Type 0
Steps kind o c d given = ((kind ≡ 0) × Calls o c d given) ⊎ ((kind ≡ 1) × ReceivesBytes o c d given)

-- an answer

abbrev pub call_fault_code : CallFault → ℕ
call_fault_code call.NotRegistered = 6
call_fault_code call.Registered = 7
call_fault_code call.Unanswered = 8
call_fault_code call.Ended = 9
call_fault_code call.NoNumber = 10
call_fault_code (call.Frame f) = 11
call_fault_code call.NoMemory = 12

abbrev pub outcome_code : Outcome → ℕ
outcome_code Made = 0
outcome_code (Reply hearing.Returned n) = 1
outcome_code (Reply hearing.Ended n) = 2
outcome_code (Reply hearing.Refused n) = 3
outcome_code (Reply hearing.Other n) = 4
outcome_code (NoReply f) = 5
outcome_code (NoCall f) = call_fault_code f

-- the length of the reply's frame
abbrev pub reply_length : Outcome → ℕ
reply_length Made = 0
reply_length (NoCall f) = 0
reply_length (Reply h n) = n
reply_length (NoReply f) = 0

-- the outcome with the client's fields after it: a head of 46 bytes, and the frame of the client's request
abbrev pub step_answer_bytes : Outcome → Client → List ℕ
step_answer_bytes o d =
    little_bytes 16 d.id
    ++ little_bytes 8 d.session
    ++ little_bytes 4 d.last
    ++ phase_code d.phase
    ∷ outcome_code o
    ∷ little_bytes 8 (length (phase_frame d.phase))
    ++ little_bytes 8 (reply_length o)
    ++ phase_frame d.phase

pub record IsStepAnswer (head rest answer : List ℕ) : Type 0 where
  pub before : Client
  pub after : Client
  pub given : List ℕ
  pub outcome : Outcome
  pub fields : HasFields before given head rest
  pub right : field_fault before ≡ None
  pub is : Steps (kind_at head) outcome before after given
  pub answer_is : answer ≡ step_answer_bytes outcome after

-- why a step has no answer

-- the bytes are not one frame of a request: they have this fault, or more bytes follow a frame
abbrev pub IsNoRequest : FrameFault → List ℕ → Type 0
IsNoRequest f bytes = (request_fault bytes ≡ Some f) ⊎ ((f ≡ frame.BadLength) × ((n : ℕ) × (r : Message) × (n < length bytes) × Spells (take n bytes) r))

abbrev pub IsFault : OracleFault → List ℕ → List ℕ → Type 0
IsFault fault.UnknownPhase head rest = 3 < phase_at head
IsFault fault.UnknownStep head rest = 1 < kind_at head
IsFault (fault.Field f) head rest = (c : Client) × (given : List ℕ) × HasFields c given head rest × (field_fault c ≡ Some f)
IsFault (fault.Frame frame.NoMemory) head rest = Unit {0}
IsFault (fault.Frame f) head rest =
    (request_fault rest ≡ Some f) ⊎ ((c : Client) × (given : List ℕ) × HasFields c given head rest × (kind_at head ≡ 0) × IsNoRequest f given)

-- the parts of an answer

abbrev pub ReadsPhaseFields : Result (Phase × ℕ) OracleFault → ℕ → List ℕ → Type 0
ReadsPhaseFields (Ok (p, n)) number rest = (phase_code p ≡ number) × (n ≤ length rest) × (take n rest ≡ phase_frame p) × HasRequest p
ReadsPhaseFields (Err fault.UnknownPhase) number rest = 3 < number
ReadsPhaseFields (Err (fault.Frame frame.NoMemory)) number rest = Unit {0}
ReadsPhaseFields (Err (fault.Frame f)) number rest = request_fault rest ≡ Some f
ReadsPhaseFields (Err other) number rest = ⊥

abbrev pub ReadsClientFields : Result (Client × ℕ) OracleFault → List ℕ → List ℕ → Type 0
ReadsClientFields (Ok (c, n)) head rest = (n ≤ length rest) × HasFields c (drop n rest) head rest × (field_fault c ≡ None)
ReadsClientFields (Err f) head rest = IsFault f head rest

abbrev pub TakesCall : Result Outcome OracleFault → Client → Client → List ℕ → Type 0
TakesCall (Ok o) c d given = Calls o c d given
TakesCall (Err (fault.Frame frame.NoMemory)) c d given = Unit {0}
TakesCall (Err (fault.Frame f)) c d given = IsNoRequest f given
TakesCall (Err other) c d given = ⊥

abbrev pub TakesReply : Result Outcome OracleFault → Client → Client → List ℕ → Type 0
TakesReply (Ok o) c d given = ReceivesBytes o c d given
TakesReply (Err f) c d given = f ≡ fault.Frame frame.NoMemory
