-- A client's session as data, and what each call and each reply makes of it.
use Rattle.std.specs.Prelude.{ℕ, Bool, true, false, not, ◌&&◌, ◌||◌, ◌==◌, ◌≡◌, ◌⊎◌, ◌+◌, ◌-◌, ◌^◌, List, ◌++◌, Option, Some, None, if◌then◌else◌, Result, Ok, Err}
use Rattle.std.specs.Option.{option_map}
use Rattle.tb_records.specs.declared.bodies.Body.{Body}
use Rattle.tb_records.specs.declared.faults.FrameFault.{FrameFault}
use Rattle.tb_records.specs.declared.operations.Operation.TheVariants as op
use Rattle.tb_records.specs.declared.replies.Status.{Status}
use Rattle.tb_records.specs.declared.replies.Status.TheVariants as status
use Rattle.tb_records.specs.Frames.{request_bytes, IsRequest}
use Rattle.tb_records.specs.Messages.{Message, Answer, asked, operation, is_register, number_fault}
use Rattle.tb_records.specs.Operations.{operation_code}
use Rattle.tb_records.specs.ReplyFrames.{FoundReply}
use Rattle.tb_caller.specs.declared.callers.Phase.{Phase}
use Rattle.tb_caller.specs.declared.callers.Phase.TheVariants.{Unregistered, Open, Idle, Ended}
use Rattle.tb_caller.specs.declared.faults.CallFault.{CallFault}
use Rattle.tb_caller.specs.declared.faults.CallFault.TheVariants as fault
use Rattle.tb_caller.specs.declared.faults.FieldFault.{FieldFault}
use Rattle.tb_caller.specs.declared.faults.FieldFault.TheVariants as field
use Rattle.tb_caller.specs.declared.callers.Heard.{Heard}
use Rattle.tb_caller.specs.declared.callers.Heard.TheVariants as hearing

pub record Client : Type 0 where
  pub id : ℕ
  pub session : ℕ  -- 0 before it has one
  pub last : ℕ  -- the number of the last request that was made, 0 before
  pub phase : Phase

abbrev pub client_with : ℕ → ℕ → ℕ → Phase → Client
client_with id session last phase = record { id = id; session = session; last = last; phase = phase }

abbrev pub fresh : ℕ → Client
fresh id = client_with id 0 0 Unregistered

-- the request that waits for its reply: it may be sent, again and again
abbrev pub open_request : Phase → Option Message
open_request Unregistered = None
open_request (Open r) = Some r
open_request Idle = None
open_request (Ended r) = None

-- a stored state

-- the request is the client's, of its session, and has its last number
abbrev pub stored_request_fault : Client → Message → Option FieldFault
stored_request_fault c r =
    if not (r.client == c.id) then Some field.OtherClient
    else if not (r.session == c.session) then Some field.OtherSession
    else if not (r.request == c.last) then Some field.OtherNumber
    else None

-- what the fields of a client may have wrong
abbrev pub field_fault_in : Phase → Client → Option FieldFault
field_fault_in Unregistered c = if c.session == 0 && c.last == 0 then None else Some field.RegisterNumbers
field_fault_in (Open r) c = stored_request_fault c r
field_fault_in Idle c = None
field_fault_in (Ended r) c = stored_request_fault c r

abbrev pub field_fault : Client → Option FieldFault
field_fault c = field_fault_in c.phase c

-- a call

-- the request that it makes
abbrev pub made : Client → Body → Message
made c body = if is_register body then asked c.id 0 0 body else asked c.id c.session (c.last + 1) body

-- why it makes no request: a client registers first, and once; it has one request at a time; a number has 32 bits
abbrev pub refused_in : Phase → ℕ → Message → Option CallFault
refused_in Unregistered last r = if is_register r.body then option_map fault.Frame (number_fault r) else Some fault.NotRegistered
refused_in (Open s) last r = Some fault.Unanswered
refused_in Idle last r =
    if is_register r.body then Some fault.Registered
    else if last == 2 ^ 32 - 1 then Some fault.NoNumber
    else option_map fault.Frame (number_fault r)
refused_in (Ended s) last r = Some fault.Ended

abbrev pub call_fault : Client → Body → Option CallFault
call_fault c body = refused_in c.phase c.last (made c body)

abbrev pub called : Client → Message → Client
called c r = record { id = c.id; session = c.session; last = r.request; phase = Open r }

-- the next request, or the fault of the call
abbrev pub IsMade : Result Message CallFault → Client → Body → Type 0
IsMade (Ok r) c body = (call_fault c body ≡ None) × (r ≡ made c body)
IsMade (Err f) c body = call_fault c body ≡ Some f

-- the request waits for its reply; a fault changes nothing
abbrev pub Makes : Result (Unit {0}) CallFault → Client → Client → Body → Type 0
Makes (Ok done) c d body = (call_fault c body ≡ None) × (d ≡ called c (made c body))
Makes (Err f) c d body = (call_fault c body ≡ Some f) × (d ≡ c)

-- a reply

-- it is for the request: client, number, operation and session are the same, except a register's session, which is new
abbrev pub names : Message → Answer → Bool
names r a = a.client == r.client && a.request == r.request && a.operation == operation r.body && (is_register r.body || a.session == r.session)

abbrev pub heard_by : Status → Heard
heard_by status.Reply = hearing.Returned
heard_by status.NoSession = hearing.Ended
heard_by status.SessionTooLow = hearing.Ended
heard_by status.NewerSession = hearing.Ended
heard_by status.Older = hearing.Refused
heard_by status.Collision = hearing.Refused
heard_by status.NewerRequest = hearing.Refused
heard_by status.NotYet = hearing.Refused

abbrev pub heard_of : Option Message → Answer → Heard
heard_of None a = hearing.Other
heard_of (Some r) a = if names r a then heard_by a.status else hearing.Other

abbrev pub heard : Client → Answer → Heard
heard c a = heard_of (open_request c.phase) a

-- the session that is known after a reply that is taken
abbrev pub session_with : ℕ → Answer → ℕ
session_with session a = if a.operation == operation_code op.Register then a.session else session

abbrev pub ended_in : Phase → Phase
ended_in Unregistered = Unregistered
ended_in (Open r) = Ended r
ended_in Idle = Idle
ended_in (Ended r) = Ended r

abbrev pub moved : Heard → Client → Answer → Client
moved hearing.Returned c a = record { id = c.id; session = session_with c.session a; last = c.last; phase = Idle }
moved hearing.Ended c a = record { id = c.id; session = c.session; last = c.last; phase = ended_in c.phase }
moved hearing.Refused c a = c
moved hearing.Other c a = c

abbrev pub received : Client → Answer → Client
received c a = moved (heard c a) c a

-- frames

-- the fault of the call; or memory runs out, and the call has no fault
abbrev pub HasFault : Client → Body → CallFault → Type 0
HasFault c body f = (call_fault c body ≡ Some f) ⊎ ((call_fault c body ≡ None) × (f ≡ fault.NoMemory))

-- the request is made, and its frame is written after what was there; a fault changes nothing
abbrev pub WritesCall : Result (Unit {0}) CallFault → Client → Client → Body → List ℕ → List ℕ → Type 0
WritesCall (Ok done) c d body before after =
    (call_fault c body ≡ None) × (d ≡ called c (made c body)) × (after ≡ before ++ request_bytes (made c body)) × IsRequest (made c body)
WritesCall (Err f) c d body before after = HasFault c body f × (d ≡ c) × (after ≡ before)

-- the frame of the request that waits is written, and the result is true; without memory for it nothing is written
abbrev pub WritesAgain : {E : Type 0} → Result Bool E → Option Message → List ℕ → List ℕ → Type 0
WritesAgain (Ok true) (Some r) before after = (after ≡ before ++ request_bytes r) × IsRequest r
WritesAgain (Ok false) None before after = after ≡ before
WritesAgain (Err e) (Some r) before after = after ≡ before
WritesAgain result o before after = ⊥

-- the reply whose frame the bytes begin with is taken, and the length of the frame is known; bytes that begin with no frame change nothing, and their
-- first fault is named
abbrev pub ReadsReply : Result (Heard × Answer × ℕ) FrameFault → Client → Client → List ℕ → Type 0
ReadsReply (Ok (h, a, n)) c d bytes = FoundReply (Ok (a, n)) bytes × (h ≡ heard c a) × (d ≡ received c a)
ReadsReply (Err f) c d bytes = FoundReply (Err f) bytes × (d ≡ c)
