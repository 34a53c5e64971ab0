-- A client's session as numbers and a frame that a caller in C keeps, and what each call makes of it.
use Rattle.std.specs.Prelude.{ℕ, ◌≡◌, ◌⊎◌, ◌<◌, ◌≤◌, List, length, take, Some, None, Result, Ok, Err}
use Rattle.tb_records.specs.declared.bodies.Body.{Body}
use Rattle.tb_records.specs.declared.faults.FrameFault.{FrameFault}
use Rattle.tb_records.specs.Messages.{Message, Answer}
use Rattle.tb_records.specs.Frames.{Spells, request_bytes}
use Rattle.tb_records.specs.ReplyFrames.{FoundReply, reply_fault}
use Rattle.tb_caller.specs.declared.callers.Heard.{Heard}
use Rattle.tb_caller.specs.declared.callers.Heard.TheVariants as hearing
use Rattle.tb_caller.specs.declared.callers.Phase.{Phase}
use Rattle.tb_caller.specs.declared.callers.Phase.TheVariants.{Unregistered, Open, Idle, Ended}
use Rattle.tb_caller.specs.declared.faults.CallFault.{CallFault}
use Rattle.tb_caller.specs.declared.faults.CallFault.TheVariants as call
use Rattle.tb_caller.specs.declared.faults.FieldFault.{FieldFault}
use Rattle.tb_caller.specs.declared.faults.FieldFault.TheVariants as field
use Rattle.tb_caller.specs.Clients.{Client, field_fault, made, call_fault, called, HasFault, heard, received}
use Rattle.tb_embed.specs.Calls.{IsMalformed, id_of_halves}
use Rattle.tb_embed.specs.declared.steps.Step.{Step}
use Rattle.tb_embed.specs.declared.steps.Step.TheVariants as step
use Rattle.tb_embed.specs.declared.steps.TbCaller.{TbCaller}

-- the number of a phase
abbrev pub phase_number : Phase → ℕ
phase_number Unregistered = 0
phase_number (Open r) = 1
phase_number Idle = 2
phase_number (Ended r) = 3

-- the numbers are those of a client
pub record HasNumbers (kept : TbCaller) (c : Client) : Type 0 where
  pub id : c.id ≡ id_of_halves kept.id_low kept.id_high
  pub session : c.session ≡ kept.session
  pub last : c.last ≡ kept.last
  pub phase : kept.phase ≡ phase_number c.phase

-- the frame is that of the request that waits, or was left in doubt
abbrev pub HasFrame : List ℕ → Phase → Type 0
HasFrame frame Unregistered = Unit {0}
HasFrame frame (Open r) = Spells frame r
HasFrame frame Idle = Unit {0}
HasFrame frame (Ended r) = Spells frame r

abbrev pub IsClient : TbCaller → List ℕ → Client → Type 0
IsClient kept frame c = HasNumbers kept c × HasFrame frame c.phase

-- no phase has this number, or the frame of its request is malformed
abbrev pub IsNoClient : TbCaller → List ℕ → Type 0
IsNoClient kept frame = (3 < kept.phase) ⊎ IsMalformed frame

-- a status for each step
abbrev pub call_code : CallFault → ℕ
call_code call.NotRegistered = 1
call_code call.Registered = 2
call_code call.Unanswered = 3
call_code call.Ended = 4
call_code call.NoNumber = 5
call_code (call.Frame f) = 6
call_code call.NoMemory = 8

abbrev pub field_code : FieldFault → ℕ
field_code field.RegisterNumbers = 9
field_code field.OtherClient = 10
field_code field.OtherSession = 11
field_code field.OtherNumber = 12

abbrev pub step_code : Step → ℕ
step_code (step.Done n) = 0
step_code (step.NoCall f) = call_code f
step_code step.Malformed = 6
step_code (step.TooSmall n) = 7
step_code step.NoMemory = 8
step_code (step.Wrong f) = field_code f
step_code step.NoClient = 13

abbrev pub step_length : Step → ℕ
step_length (step.Done n) = n
step_length (step.TooSmall n) = n
step_length other = 0

abbrev pub heard_code : Heard → ℕ
heard_code hearing.Returned = 0
heard_code hearing.Ended = 1
heard_code hearing.Refused = 2
heard_code hearing.Other = 3

-- a call of a body: its request is made, its frame fills the first n bytes of the room, and the client's numbers are kept; or the call says why not,
-- and nothing changes
abbrev pub CallsBody : Step → TbCaller → TbCaller → Body → List ℕ → Type 0
CallsBody (step.Done n) before after body room = (c : Client)
    × HasNumbers before c
    × (call_fault c body ≡ None)
    × (n ≤ length room)
    × IsClient after (take n room) (called c (made c body))
CallsBody (step.TooSmall n) before after body room = (c : Client)
    × HasNumbers before c
    × (call_fault c body ≡ None)
    × (n ≡ length (request_bytes (made c body)))
    × (length room < n)
    × (after ≡ before)
CallsBody (step.NoCall f) before after body room = (c : Client) × HasNumbers before c × HasFault c body f × (after ≡ before)
CallsBody (step.Wrong f) before after body room = (c : Client) × HasNumbers before c × (field_fault c ≡ Some f) × (after ≡ before)
CallsBody step.NoClient before after body room = (3 < before.phase) × (after ≡ before)
CallsBody step.NoMemory before after body room = ⊥
CallsBody step.Malformed before after body room = ⊥

-- the body is that of the frame of a request, whose numbers are ignored
abbrev pub CallsFrame : Step → TbCaller → TbCaller → List ℕ → List ℕ → Type 0
CallsFrame step.Malformed before after request room = IsMalformed request × (after ≡ before)
CallsFrame step.NoMemory before after request room = after ≡ before
CallsFrame other before after request room = (r : Message) × Spells request r × CallsBody other before after r.body room

-- whether the numbers and the frame are those of a client
abbrev pub Checks : Step → TbCaller → List ℕ → Type 0
Checks (step.Done n) kept frame = (n ≡ 0) × ((c : Client) × IsClient kept frame c × (field_fault c ≡ None))
Checks (step.Wrong f) kept frame = (c : Client) × IsClient kept frame c × (field_fault c ≡ Some f)
Checks step.NoClient kept frame = IsNoClient kept frame
Checks step.NoMemory kept frame = Unit {0}
Checks other kept frame = ⊥

-- the reply whose frame the bytes begin with is taken; or the call says why not, and nothing changes
abbrev pub Receives : Result (Heard × ℕ) Step → TbCaller → TbCaller → List ℕ → List ℕ → Type 0
Receives (Ok (h, n)) before after frame bytes = (c : Client)
    × (a : Answer)
    × IsClient before frame c
    × (field_fault c ≡ None)
    × FoundReply (Ok (a, n)) bytes
    × (h ≡ heard c a)
    × IsClient after frame (received c a)
Receives (Err step.Malformed) before after frame bytes = (f : FrameFault) × (reply_fault bytes ≡ Some f) × (after ≡ before)
Receives (Err step.NoMemory) before after frame bytes = after ≡ before
Receives (Err other) before after frame bytes = Checks other before frame × (after ≡ before)

-- the status, the length of the reply, and what it is for the request that waits: nothing, if it was not taken
abbrev pub step_of : Result (Heard × ℕ) Step → Step
step_of (Ok (h, n)) = step.Done n
step_of (Err other) = other

abbrev pub heard_status : Result (Heard × ℕ) Step → ℕ
heard_status (Ok (h, n)) = heard_code h
heard_status (Err other) = 3

pub record ReportsHeard (status length hearing : ℕ) (IsRight : Result (Heard × ℕ) Step → Type 0) : Type 0 where
  pub outcome : Result (Heard × ℕ) Step
  pub status_is : status ≡ step_code (step_of outcome)
  pub length_is : length ≡ step_length (step_of outcome)
  pub heard_is : hearing ≡ heard_status outcome
  pub right : IsRight outcome

-- the status and the length are those of a step that is right
pub record ReportsStep (status length : ℕ) (IsRight : Step → Type 0) : Type 0 where
  pub taken : Step
  pub status_is : status ≡ step_code taken
  pub length_is : length ≡ step_length taken
  pub right : IsRight taken
