-- One client over time: its state, what it keeps outside its process, all that it sent, and what its calls returned.
use Rattle.std.specs.Prelude.{ℕ, ◌≡◌, ◌⊎◌, List, [], ◌∷◌, Option, Some, None, IfSome}
use Rattle.tb_records.specs.declared.bodies.Body.{Body}
use Rattle.tb_records.specs.Frames.{IsRequest}
use Rattle.tb_records.specs.Messages.{Message, Answer}
use Rattle.tb_caller.specs.declared.callers.Heard.{Heard}
use Rattle.tb_caller.specs.declared.callers.Heard.TheVariants as hearing
use Rattle.tb_caller.specs.Clients.{Client, fresh, open_request, made, call_fault, called, heard, received}

pub record Endpoint : Type 0 where
  pub live : Client
  pub stored : Option Client
  pub sent : List Message
  pub returned : List (Message × Answer)  -- a request, and the reply that was taken for it

pub data Act : Type 0 where
  Call : (body : Body) → Act
  Send : (request : Message) → Act
  Hear : (reply : Answer) → Act
  Store : Act
  Restart : Act  -- the process ends, and another one goes on with what is stored

abbrev pub IsAmong : {X : Type 0} → X → List X → Type 0
IsAmong x [] = ⊥
IsAmong x (y ∷ ys) = (x ≡ y) ⊎ IsAmong x ys

-- what the client's program has to keep. A call is made only if it has no fault. The request that waits is sent, by its frame; if a state is stored,
-- only once that state has it too. A reply is read after the request was sent.
abbrev pub MayAct : Endpoint → Act → Type 0
MayAct d (Call body) = call_fault d.live body ≡ None
MayAct d (Send r) = (open_request d.live.phase ≡ Some r) × IfSome d.stored (λ s. open_request s.phase ≡ Some r) × IsRequest r
MayAct d (Hear a) = IfSome (open_request d.live.phase) (λ r. IsAmong r d.sent)
MayAct d Store = Unit {0}
MayAct d Restart = Unit {0}

abbrev pub returned_by : Heard → Option Message → Answer → List (Message × Answer) → List (Message × Answer)
returned_by hearing.Returned (Some r) a pairs = (r, a) ∷ pairs
returned_by hearing.Returned None a pairs = pairs
returned_by hearing.Ended o a pairs = pairs
returned_by hearing.Refused o a pairs = pairs
returned_by hearing.Other o a pairs = pairs

-- if nothing is stored, no other process goes on
abbrev pub restarted : Option Client → Client → Client
restarted None c = c
restarted (Some s) c = s

abbrev pub acted : Endpoint → Act → Endpoint
acted d (Call body) = record d { live = called d.live (made d.live body) }
acted d (Send r) = record d { sent = r ∷ d.sent }
acted d (Hear a) = record d { live = received d.live a; returned = returned_by (heard d.live a) (open_request d.live.phase) a d.returned }
acted d Store = record d { stored = Some d.live }
acted d Restart = record d { live = restarted d.stored d.live }

-- a client that is new
abbrev pub started : ℕ → Endpoint
started id = record { live = fresh id; stored = None; sent = []; returned = [] }
