-- What holds among the requests of one client, and what a history then says of them.
use Rattle.std.specs.Prelude.{ℕ, ◌≡◌, ◌≢◌, ◌+◌, ◌<◌, false, true, IsTrue, List, ◌∷◌, ◌++◌, length}
use mathlib.Core.List.{IsPrefix}
use Rattle.tb_records.specs.declared.replies.Status.TheVariants as status
use Rattle.tb_records.specs.Messages.{Message, Answer, is_register}
use Rattle.tb_records.specs.Ordered.{Each}
use Rattle.tb_machine.specs.declared.entries.Entry.{Entry}
use Rattle.tb_machine.specs.Histories.{State, is_lawful, reply_at, key_of, answer_to}
use Rattle.tb_machine.specs.HistoryLaws.{KeysDiffer}
use Rattle.tb_caller.specs.Endpoints.{IsAmong}

-- a request that is no register
abbrev pub IsCall : Message → Type 0
IsCall r = is_register r.body ≡ false

-- registers, and calls of one session, no two with the same number
pub record AreOfOne (id : ℕ) (sent : List Message) : Type 0 where
  pub client : Each (λ (r : Message). r.client ≡ id) sent
  pub lawful : Each (λ (r : Message). IsTrue (is_lawful r)) sent
  pub session : (r s : Message) → IsAmong r sent → IsAmong s sent → IsCall r → IsCall s → r.session ≡ s.session
  pub number : (r s : Message) → IsAmong r sent → IsAmong s sent → IsCall r → IsCall s → r.request ≡ s.request → r ≡ s

-- a reply with its client and its number was taken for the request, which was sent
pub record IsTaken (sent : List Message) (p : Message × Answer) : Type 0 where
  pub sent_it : IsAmong p.0 sent
  pub client : p.1.client ≡ p.0.client
  pub number : p.1.request ≡ p.0.request
  pub reply : p.1.status ≡ status.Reply

-- the session is that of a register's reply
pub record IsRegistered (returned : List (Message × Answer)) (session : ℕ) : Type 0 where
  pub request : Message
  pub answer : Answer
  pub taken : IsAmong (request, answer) returned
  pub register : is_register request.body ≡ true
  pub session_is : answer.session ≡ session

-- each request of the client in the history was sent
abbrev pub NoneInvented : ℕ → List Message → List Entry → Type 0
NoneInvented id sent h = Each (λ (e : Entry). e.request.client ≡ id → IsAmong e.request sent) h

-- a server, by its state after each history
module _ (state : List Entry → State) where
  -- the answer to some request after a prefix of the history
  pub record IsAnswered (h : List Entry) (a : Answer) : Type 0 where
    pub seen : List Entry
    pub request : Message
    pub prefix : IsPrefix seen h
    pub answer : a ≡ answer_to (state seen) request

  -- one entry of the history, which the reply names, holds the request, and gave this reply. No other entry holds a call. A register's session is
  -- that of this entry; after an eviction another entry may hold it too
  pub record IsOnce (h : List Entry) (r : Message) (a : Answer) : Type 0 where
    pub front : List Entry
    pub entry : Entry
    pub rest : List Entry
    pub whole : h ≡ front ++ entry ∷ rest
    pub request : entry.request ≡ r
    pub reply : a ≡ reply_at (state front) entry
    pub place : a.commit ≡ length front + 1
    pub register : is_register r.body ≡ true → a.session ≡ a.commit
    pub only : IsCall r → Each (λ (other : Entry). other.request ≢ r) (front ++ rest)

-- an entry with the call's key holds the call
abbrev pub HoldsCall : Message → Entry → Type 0
HoldsCall r e = key_of e ≡ (r.client, r.session, r.request) → e.request ≡ r

-- the client's calls before an entry have smaller numbers
abbrev pub InOrder : ℕ → List Entry → Type 0
InOrder id h = (front : List Entry) (e : Entry) (rest : List Entry) → h ≡ front ++ e ∷ rest → e.request.client ≡ id → IsCall e.request
    → Each (λ (x : Entry). x.request.client ≡ id → IsCall x.request → x.request.request < e.request.request) front

pub record CallsHold (state : List Entry → State) (id : ℕ) (h : List Entry) (sent : List Message) (returned : List (Message × Answer)) : Type 0 where
  -- a call that returned a reply is in the history once, a register in the entry of its session, and this entry gave the reply
  pub once : Each (λ (p : Message × Answer). IsOnce state h p.0 p.1) returned
  -- no two entries have one client, session and number: a call that was sent is in the history at most once, whatever became of it
  pub keys : KeysDiffer h
  pub at_most : Each (λ (r : Message). IsCall r → Each (HoldsCall r) h) sent
  -- the calls are there in their order
  pub order : InOrder id h
