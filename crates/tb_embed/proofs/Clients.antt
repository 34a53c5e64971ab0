-- Clients that are kept as numbers and a frame.
use Rattle.std.proofs.Common.{◌≡◌, ℕ, ◌≤◌, List, [], ◌++◌, length, take, Option, Some, None, Result, Ok, Err, MatchOption, inl, inr, refl, sym, ap, ◌∙◌, subst, arith}
use Rattle.std.proofs.lemmas.List.{length-append}
use Rattle.std.proofs.Math.Seq.{take-append_seam}
use Rattle.tb_records.specs.Frames.{Spells, request_bytes, IsRequest}
use Rattle.tb_records.specs.declared.bodies.Body.{Body}
use Rattle.tb_records.specs.Messages.{Message, Answer, asked}
use Rattle.tb_caller.specs.declared.callers.Heard.{Heard}
use Rattle.tb_caller.specs.declared.callers.Heard.TheVariants as hearing
use Rattle.tb_caller.specs.declared.callers.Phase.{Phase}
use Rattle.tb_caller.specs.declared.callers.Phase.TheVariants.{Unregistered, Open, Idle, Ended}
use Rattle.tb_caller.specs.declared.faults.CallFault.TheVariants as call
use Rattle.tb_caller.specs.declared.faults.FieldFault.{FieldFault}
use Rattle.tb_caller.specs.Clients.{Client, client_with, field_fault, heard, ended_in, moved, received}
use Rattle.tb_embed.specs.Calls.{id_of_halves}
use Rattle.tb_embed.specs.Callers.{HasNumbers, HasFrame, IsClient, CallsBody, CallsFrame, Checks, phase_number, step_length}
use Rattle.tb_embed.specs.private.Calling.{IsResting, stored}
use Rattle.tb_embed.specs.declared.steps.Step.{Step}
use Rattle.tb_embed.specs.declared.steps.Step.TheVariants as step
use Rattle.tb_embed.specs.declared.steps.TbCaller.{TbCaller}

-- what was read is a client of the numbers that are kept
pub record IsRead (kept : TbCaller) (phase : Phase) (c : Client) : Type 0 where
  pub numbers : HasNumbers kept c
  pub phase_is : phase ≡ c.phase
  pub right : field_fault c ≡ None

abbrev read : Client → Result Client FieldFault
read c = Ok c

-- what fields are read as
abbrev IsOf : Client → Client → Option FieldFault → Type 0
IsOf made c fault = MatchOption fault (read c ≡ read made) (λ f. read c ≡ Err f)

pub numbers_read : (kept : TbCaller) (id : ℕ) (phase : Phase) (c : Client)
    → id ≡ id_of_halves kept.id_low kept.id_high
    → kept.phase ≡ phase_number phase
    → IsOf (client_with id kept.session kept.last phase) c (field_fault (client_with id kept.session kept.last phase))
    → IsRead kept phase c
numbers_read kept id phase c id_is number fields = by (field_fault (client_with id kept.session kept.last phase)) refl fields
  where
    made : Client
    made = client_with id kept.session kept.last phase

    by : (o : Option FieldFault) → field_fault made ≡ o → IsOf made c o → IsRead kept phase c
    by None right e = subst (λ (d : Client). IsRead kept phase d) (sym cc) (record { numbers = record { id = id_is; session = refl; last = refl; phase = number }; phase_is = refl; right = right })
    by (Some f) right e = absurd cc

pub client_read : (kept : TbCaller) (frame : List ℕ) (id : ℕ) (phase : Phase) (c : Client)
    → id ≡ id_of_halves kept.id_low kept.id_high
    → (kept.phase ≡ phase_number phase) × HasFrame frame phase
    → IsOf (client_with id kept.session kept.last phase) c (field_fault (client_with id kept.session kept.last phase))
    → IsClient kept frame c × (field_fault c ≡ None)
client_read kept frame id phase c id_is read fields =
    let is = numbers_read kept id phase c id_is read.0 fields in
    ((is.numbers, subst (λ (p : Phase). HasFrame frame p) is.phase_is read.1), is.right)

-- a client whose request waits makes no other, whatever the request is
waiting : (kept : TbCaller) (phase : Phase) → kept.phase ≡ phase_number phase → HasNumbers kept (client_with (id_of_halves kept.id_low kept.id_high) kept.session kept.last phase)
waiting kept phase number = record { id = refl; session = refl; last = refl; phase = number }

pub not_resting : (s : Step) (kept : TbCaller) (body : Body) (room : List ℕ) → IsResting (Err s) kept.phase → CallsBody s kept kept body room
not_resting (step.NoCall call.Unanswered) kept body room is =
    (client_with (id_of_halves kept.id_low kept.id_high) kept.session kept.last (Open (asked 0 0 0 body)), waiting kept (Open (asked 0 0 0 body)) is, inl refl, refl)
not_resting (step.NoCall call.Ended) kept body room is =
    (client_with (id_of_halves kept.id_low kept.id_high) kept.session kept.last (Ended (asked 0 0 0 body)), waiting kept (Ended (asked 0 0 0 body)) is, inl refl, refl)
not_resting (step.NoCall call.NotRegistered) kept body room is = absurd is
not_resting (step.NoCall call.Registered) kept body room is = absurd is
not_resting (step.NoCall call.NoNumber) kept body room is = absurd is
not_resting (step.NoCall (call.Frame f)) kept body room is = absurd is
not_resting (step.NoCall call.NoMemory) kept body room is = absurd is
not_resting step.NoClient kept body room is = (is, refl)
not_resting (step.Done n) kept body room is = absurd is
not_resting step.Malformed kept body room is = absurd is
not_resting (step.TooSmall n) kept body room is = absurd is
not_resting step.NoMemory kept body room is = absurd is
not_resting (step.Wrong f) kept body room is = absurd is

-- a reply changes neither the id nor the request

same_id : (h : Heard) (c : Client) (a : Answer) → (moved h c a).id ≡ c.id
same_id hearing.Returned c a = refl
same_id hearing.Ended c a = refl
same_id hearing.Refused c a = refl
same_id hearing.Other c a = refl

frame_ended : (frame : List ℕ) (p : Phase) → HasFrame frame p → HasFrame frame (ended_in p)
frame_ended frame Unregistered has = has
frame_ended frame (Open r) has = has
frame_ended frame Idle has = has
frame_ended frame (Ended r) has = has

frame_moved : (frame : List ℕ) (h : Heard) (c : Client) (a : Answer) → HasFrame frame c.phase → HasFrame frame (moved h c a).phase
frame_moved frame hearing.Returned c a has = tt
frame_moved frame hearing.Ended c a has = frame_ended frame c.phase has
frame_moved frame hearing.Refused c a has = has
frame_moved frame hearing.Other c a has = has

pub numbers_stored : (kept : TbCaller) (c d : Client) → d.id ≡ c.id → HasNumbers kept c → HasNumbers (stored kept d) d
numbers_stored kept c d same has = record { id = same ∙ has.id; session = refl; last = refl; phase = refl }

client_stored : (kept : TbCaller) (frame : List ℕ) (c d : Client) → d.id ≡ c.id → HasNumbers kept c → HasFrame frame d.phase → IsClient (stored kept d) frame d
client_stored kept frame c d same has frame_has = (numbers_stored kept c d same has, frame_has)

pub client_moved : (kept : TbCaller) (frame : List ℕ) (c : Client) (a : Answer) → IsClient kept frame c → IsClient (stored kept (received c a)) frame (received c a)
client_moved kept frame c a is = client_stored kept frame c (received c a) (same_id (heard c a) c a) is.0 (frame_moved frame (heard c a) c a is.1)

-- a frame at the beginning of a room
pub frame_filled : (n : ℕ) (front frame rest : List ℕ) (r : Message) → front ≡ frame → n ≡ length frame → frame ≡ request_bytes r → IsRequest r → (n ≤ length (front ++ rest)) × Spells (take n (front ++ rest)) r
frame_filled n front frame rest r same long is request =
    let size : n ≡ length front = long ∙ ap length (sym same) in (
      omega (arith, size, length-append front rest),
      record { bytes_are = ap (λ (k : ℕ). take k (front ++ rest)) size ∙ (take-append_seam front rest ∙ (same ∙ is)); is = request },
    )

-- what a body is called for, its frame is
pub frame_called : (s : Step) (before after : TbCaller) (request room : List ℕ) (r : Message) → Spells request r → CallsBody s before after r.body room → CallsFrame s before after request room
frame_called (step.Done n) before after request room r spells calls = (r, spells, calls)
frame_called (step.NoCall f) before after request room r spells calls = (r, spells, calls)
frame_called step.Malformed before after request room r spells calls = absurd calls
frame_called (step.TooSmall n) before after request room r spells calls = (r, spells, calls)
frame_called step.NoMemory before after request room r spells calls = absurd calls
frame_called (step.Wrong f) before after request room r spells calls = (r, spells, calls)
frame_called step.NoClient before after request room r spells calls = (r, spells, calls)

-- a check writes nothing
pub checked_length : (s : Step) (kept : TbCaller) (frame : List ℕ) → Checks s kept frame → 0 ≡ step_length s
checked_length (step.Done n) kept frame checks = sym checks.0
checked_length (step.NoCall f) kept frame checks = absurd checks
checked_length step.Malformed kept frame checks = absurd checks
checked_length (step.TooSmall n) kept frame checks = absurd checks
checked_length step.NoMemory kept frame checks = refl
checked_length (step.Wrong f) kept frame checks = refl
checked_length step.NoClient kept frame checks = refl
