-- The laws of a client without a server, and of a history without a schedule.
use Rattle.std.specs.Prelude.{ℕ, true, ◌≡◌, ◌≢◌, ◌≤◌, List, [], ◌∷◌, ◌++◌, None}
use mathlib.Core.List.{IsPrefix}
use Rattle.tb_records.specs.declared.limits.Profile.{Profile}
use Rattle.tb_records.specs.Frames.{IsRequest}
use Rattle.tb_records.specs.Messages.{Message, Answer, is_register}
use Rattle.tb_records.specs.Ordered.{Each}
use Rattle.tb_machine.specs.declared.entries.Entry.{Entry}
use Rattle.tb_machine.specs.Histories.{State, IsLegal, after, answer_to}
use Rattle.tb_machine.specs.Scripts.{Pair, accepted, replies_from}
use Rattle.tb_machine.specs.ScriptLaws.{AreLawful}
use Rattle.tb_caller.specs.declared.callers.Heard.TheVariants as hearing
use Rattle.tb_caller.specs.Clients.{heard_by, field_fault}
use Rattle.tb_caller.specs.Endpoints.{Endpoint, Act, MayAct, acted, started, IsAmong}
use Rattle.tb_caller.specs.Calls.{IsCall, IsRegistered, AreOfOne, IsTaken, NoneInvented, IsAnswered, CallsHold}

-- the client, whatever replies it hears

abbrev pub Acts : Endpoint → List Act → Type 0
Acts d [] = Unit {0}
Acts d (act ∷ acts) = MayAct d act × Acts (acted d act) acts

abbrev pub after_acts : Endpoint → List Act → Endpoint
after_acts d [] = d
after_acts d (act ∷ acts) = after_acts (acted d act) acts

-- in what was sent, the newest first, no call has a greater number than one that was sent later
abbrev pub AreInTurn : List Message → Type 0
AreInTurn [] = Unit {0}
AreInTurn (r ∷ older) = (IsCall r → Each (λ (s : Message). IsCall s → s.request ≤ r.request) older) × AreInTurn older

pub record Sends (id : ℕ) (d : Endpoint) : Type 0 where
  pub sent : AreOfOne id d.sent
  pub frames : Each IsRequest d.sent
  pub returned : Each (IsTaken d.sent) d.returned
  pub in_turn : AreInTurn d.sent
  pub sessions : Each (λ (r : Message). IsCall r → IsRegistered d.returned r.session) d.sent

abbrev pub OneClient : Type 0
OneClient = (id : ℕ) (acts : List Act) → Acts (started id) acts → Sends id (after_acts (started id) acts)

-- the fields of a client's state always read back as a client
abbrev pub FieldsAreRight : Type 0
FieldsAreRight = (id : ℕ) (acts : List Act) → Acts (started id) acts → field_fault (after_acts (started id) acts).live ≡ None

-- a history that is legal for a server: nothing of the client was invented, and each reply that was taken was given after a prefix of it

module _ (legal : List Entry → Type 0) (state : List Entry → State) where
  abbrev pub InHistory : Type 0
  InHistory = (id : ℕ) (h : List Entry) (sent : List Message) (returned : List (Message × Answer))
      → legal h
      → AreOfOne id sent
      → NoneInvented id sent h
      → Each (IsTaken sent) returned
      → Each (λ (p : Message × Answer). IsAnswered state h p.1) returned
      → CallsHold state id h sent returned

  -- a session that was said to be over, after a prefix of the history that has its register: no call under it is entered later, so what is in the
  -- history by then is all that ever will be
  abbrev pub OverForGood : Type 0
  OverForGood = (front : List Entry) (register : Entry) (m rest : List Entry) (r : Message)
      → legal ((front ++ register ∷ []) ++ (m ++ rest))
      → register.request.client ≡ r.client
      → is_register register.request.body ≡ true
      → register.commit ≡ r.session
      → IsCall r
      → heard_by (answer_to (state ((front ++ register ∷ []) ++ m)) r).status ≡ hearing.Ended
      → Each (λ (e : Entry). e.request.client ≡ r.client → IsCall e.request → e.request.session ≢ r.session) rest

-- a server that reads a script after a legal history: each request of the client in both was sent

abbrev pub InScript : Type 0
InScript = (profile : Profile) (clients_max id : ℕ) (h : List Entry) (ps : List Pair) (sent : List Message) (returned : List (Message × Answer))
    → IsLegal profile clients_max h
    → AreLawful ps
    → AreOfOne id sent
    → NoneInvented id sent h
    → Each (λ (p : Pair). p.1.client ≡ id → IsAmong p.1 sent) ps
    → Each (IsTaken sent) returned
    → Each (λ (p : Message × Answer). IsAmong p.1 (replies_from profile clients_max h ps)) returned
    → CallsHold (after profile clients_max) id (accepted profile clients_max h ps) sent returned

-- several machines that each read one log up to its own place: the reply that a machine gave is one to what it had read
pub record IsFromLog (profile : Profile) (clients_max : ℕ) (h : List Entry) (log : List Pair) (a : Answer) : Type 0 where
  pub read : List Pair
  pub prefix : IsPrefix read log
  pub among : IsAmong a (replies_from profile clients_max h read)

abbrev pub InLog : Type 0
InLog = (profile : Profile) (clients_max id : ℕ) (h : List Entry) (log : List Pair) (sent : List Message) (returned : List (Message × Answer))
    → IsLegal profile clients_max h
    → AreLawful log
    → AreOfOne id sent
    → NoneInvented id sent h
    → Each (λ (p : Pair). p.1.client ≡ id → IsAmong p.1 sent) log
    → Each (IsTaken sent) returned
    → Each (λ (p : Message × Answer). IsFromLog profile clients_max h log p.1) returned
    → CallsHold (after profile clients_max) id (accepted profile clients_max h log) sent returned
