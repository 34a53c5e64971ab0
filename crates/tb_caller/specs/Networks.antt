-- Clients, a network that carries frames, and a server.
use Rattle.std.specs.Prelude.{ℕ, Bool, true, false, ◌≡◌, ◌⊎◌, ◌==◌, List, [], ◌∷◌, ◌++◌, map, Some, if◌then◌else◌}
use mathlib.Core.List.{IsPrefix}
use Rattle.tb_records.specs.Frames.{request_bytes, IsRequest}
use Rattle.tb_records.specs.Messages.{Message, Answer}
use Rattle.tb_records.specs.Ordered.{Each}
use Rattle.tb_records.specs.ReplyFrames.{reply_bytes, SpellsReply}
use Rattle.tb_machine.specs.declared.entries.Entry.{Entry}
use Rattle.tb_machine.specs.Histories.{State, answer_to}
use Rattle.tb_machine.specs.ReplyLaws.{HoldRequests}
use Rattle.tb_sessions.specs.declared.classes.Class.TheVariants.{New, Repeat}
use Rattle.tb_sessions.specs.Judged.{class_of}
use Rattle.tb_machine.specs.HistoryLaws.{HasSession}
use Rattle.tb_caller.specs.Clients.{open_request}
use Rattle.tb_caller.specs.Endpoints.{Endpoint, Act, MayAct, acted, started, IsAmong}
use Rattle.tb_caller.specs.Endpoints.Act.{Call, Send, Hear, Store, Restart}
use Rattle.tb_caller.specs.Calls.{IsCall, CallsHold}
use Rattle.tb_caller.specs.CallLaws.{Sends}

pub record World : Type 0 where
  pub clients : ℕ → Endpoint  -- each client, by its id
  pub history : List Entry
  pub given : List (List ℕ)  -- the frame of each answer that was given, to any client

-- a loss is a frame that never comes
pub data Event : Type 0 where
  Client : (id : ℕ) → (act : Act) → Event
  Enter : (entry : Entry) → Event  -- a frame comes, and its request is entered
  Answer_by : (seen : List Entry) → (request : Message) → Event  -- a frame comes, and its request is answered after a prefix of the history

-- the frames that a client sent
abbrev pub frames_of : Endpoint → List (List ℕ)
frames_of d = map request_bytes d.sent

-- a reply that is heard was read from a frame that was given
pub record IsReadFrom (given : List (List ℕ)) (a : Answer) : Type 0 where
  pub frame : List ℕ
  pub was_given : IsAmong frame given
  pub spells : SpellsReply frame a

abbrev pub WasGiven : Act → List (List ℕ) → Type 0
WasGiven (Hear a) given = IsReadFrom given a
WasGiven (Call body) given = Unit {0}
WasGiven (Send r) given = Unit {0}
WasGiven Store given = Unit {0}
WasGiven Restart given = Unit {0}

abbrev pub with_client : (ℕ → Endpoint) → ℕ → Endpoint → ℕ → Endpoint
with_client clients id d k = if k == id then d else clients k

-- the clients that keep the rules, by their ids; any other sender uses other ids
module _ (legal : List Entry → Type 0) (state : List Entry → State) (ours : ℕ → Bool) where
  -- a frame that was sent may come any number of times, or never, at any time
  abbrev pub MayHappen : World → Event → Type 0
  MayHappen w (Client id act) = MayAct (w.clients id) act × WasGiven act w.given
  MayHappen w (Enter e) =
      legal (w.history ++ e ∷ []) × IsRequest e.request
      × (ours e.request.client ≡ true → IsAmong (request_bytes e.request) (frames_of (w.clients e.request.client)))
  MayHappen w (Answer_by seen r) = IsPrefix seen w.history × IsRequest r

  abbrev pub happens : World → Event → World
  happens w (Client id act) = record w { clients = with_client w.clients id (acted (w.clients id) act) }
  happens w (Enter e) = record w { history = w.history ++ e ∷ [] }
  happens w (Answer_by seen r) = record w { given = reply_bytes (answer_to (state seen) r) ∷ w.given }

  abbrev pub Runs : World → List Event → Type 0
  Runs w [] = Unit {0}
  Runs w (event ∷ events) = MayHappen w event × Runs (happens w event) events

  abbrev pub run : World → List Event → World
  run w [] = w
  run w (event ∷ events) = run (happens w event) events

-- each client is new
abbrev pub begun : List Entry → World
begun h = record { clients = started; history = h; given = [] }

-- a history to begin with, of requests of others
pub record BeginsWithOthers (legal : List Entry → Type 0) (ours : ℕ → Bool) (h : List Entry) : Type 0 where
  pub is_legal : legal h
  pub requests : HoldRequests h
  pub others : Each (λ (e : Entry). ours e.request.client ≡ false) h

module _ (legal : List Entry → Type 0) (state : List Entry → State) where
  -- any clients and any schedule, from any such history
  abbrev pub CallsOnce : Type 0
  CallsOnce = (ours : ℕ → Bool) (h : List Entry) (events : List Event)
      → BeginsWithOthers legal ours h
      → Runs legal state ours (begun h) events
      → (id : ℕ) → ours id ≡ true
      → let w = run legal state ours (begun h) events in
      Sends id (w.clients id) × CallsHold state id w.history (w.clients id).sent (w.clients id).returned

  -- while the session is in the server's table, the request that a client waits for is entered next or has its reply: it is never refused
  abbrev pub NeverRefused : Type 0
  NeverRefused = (ours : ℕ → Bool) (h : List Entry) (events : List Event)
      → BeginsWithOthers legal ours h
      → Runs legal state ours (begun h) events
      → (id : ℕ) (r : Message) → ours id ≡ true → IsCall r
      → let w = run legal state ours (begun h) events in
      let now = state w.history in
      open_request (w.clients id).live.phase ≡ Some r
      → HasSession now id r.session
      → (class_of now.rows r ≡ New) ⊎ (class_of now.rows r ≡ Repeat)
