-- Clients, a network that carries frames, and a server over a file, or machines on an agreed log. All of them crash and come back.
use Rattle.std.specs.Prelude.{ℕ, Bool, true, false, ◌≡◌, ◌≢◌, ◌⊎◌, ◌<◌, List, [], ◌∷◌, ◌++◌, length, Some}
use mathlib.Core.List.{IsPrefix}
use Rattle.tb_records.specs.declared.replies.Status.TheVariants as status
use Rattle.tb_records.specs.Frames.{request_bytes, IsRequest}
use Rattle.tb_records.specs.Messages.{Message, Answer}
use Rattle.tb_records.specs.Ordered.{Each}
use Rattle.tb_machine.specs.declared.entries.Entry.{Entry}
use Rattle.tb_machine.specs.Histories.{after}
use Rattle.tb_machine.specs.Scripts.{Pair}
use Rattle.tb_file.specs.Keeping.{History, history_state, longer, IsKeepable, IsLedger}
use Rattle.tb_file.specs.Rounds.{state_from, entries_from, reply_bytes_from, IsServed}
use Rattle.tb_file.specs.Moments.{AtAMoment}
use Rattle.tb_caller.specs.declared.callers.Phase.TheVariants.{Ended}
use Rattle.tb_caller.specs.Clients.{open_request, names}
use Rattle.tb_caller.specs.Endpoints.{Endpoint, Act, MayAct, acted, started, IsAmong}
use Rattle.tb_caller.specs.Endpoints.Act.{Hear}
use Rattle.tb_caller.specs.Streams.{IsReadIn}
use Rattle.tb_caller.specs.Calls.{IsCall, CallsHold}
use Rattle.tb_caller.specs.CallLaws.{Sends}
use Rattle.tb_caller.specs.Networks.{with_client, frames_of}

-- the server: over a file, down or up; or machines that read one log, each up to its own place
pub data Server : Type 0 where
  Down : (file : List ℕ) → Server
  Up : (first : History) (read : List Pair) (sent : List ℕ) → Server  -- the history at its start, the pairs read since, and the bytes sent since
  Logged : (first : History) (log : List Pair) → Server

pub data Step : Type 0 where
  Start : (h : History) → Step
  Read : (pair : Pair) → Step
  Reply : (bytes : List ℕ) → Step
  Stop : (file : List ℕ) → Step  -- by a kill, a power loss, a fault, or the end of its input
  Replay : (read : List Pair) (bytes : List ℕ) → Step  -- a machine has read the log up to here, and sent these bytes until it stopped

-- a start opens the history of the file. The server reads a pair that can be served. It sends bytes only if a file that a crash may leave then has the
-- entries of the pairs that they reply to, and it stops with such a file. A log takes a pair that can be served. A machine sends a prefix of the
-- replies to what it has read of the log
abbrev pub MayStep : Server → Step → Type 0
MayStep (Down file) (Start h) = IsLedger h file
MayStep (Up first read sent) (Read pair) = IsServed (state_from (history_state first) read) pair
MayStep (Up first read sent) (Reply bytes) = (file : List ℕ) × AtAMoment first read file (sent ++ bytes)
MayStep (Up first read sent) (Stop file) = AtAMoment first read file sent
MayStep (Logged first log) (Read pair) = IsServed (state_from (history_state first) log) pair
MayStep (Logged first log) (Replay read bytes) = IsPrefix read log × ((unsent : List ℕ) × (reply_bytes_from (history_state first) read ≡ bytes ++ unsent))
MayStep server step = ⊥

abbrev pub stepped : Server → Step → Server
stepped (Down file) (Start h) = Up h [] []
stepped (Up first read sent) (Read pair) = Up first (read ++ pair ∷ []) sent
stepped (Up first read sent) (Reply bytes) = Up first read (sent ++ bytes)
stepped (Up first read sent) (Stop file) = Down file
stepped (Logged first log) (Read pair) = Logged first (log ++ pair ∷ [])
stepped server step = server

-- the history that the server has: while it is up, with the entries of all pairs that it has read
abbrev pub HasHistory : Server → History → Type 0
HasHistory (Down file) h = IsLedger h file
HasHistory (Up first read sent) h = h ≡ longer first (entries_from (history_state first) read)
HasHistory (Logged first log) h = h ≡ longer first (entries_from (history_state first) log)

-- clients, the network, and the server

pub record World : Type 0 where
  pub clients : ℕ → Endpoint  -- each client, by its id
  pub server : Server
  pub earlier : List (List ℕ)  -- the bytes that each run before this one, or each machine, had sent

pub data Event : Type 0 where
  Client : (id : ℕ) → (act : Act) → Event
  Server_does : (step : Step) → Event

abbrev pub sent_now : Server → List ℕ
sent_now (Down file) = []
sent_now (Up first read sent) = sent
sent_now (Logged first log) = []

-- the reply is read from one of these
abbrev pub IsReadInOne : List (List ℕ) → Answer → Type 0
IsReadInOne [] a = ⊥
IsReadInOne (bytes ∷ more) a = IsReadIn bytes a ⊎ IsReadInOne more a

-- a client hears a reply only if it is read from what a run sent: any number of times, at any time, or never
abbrev pub CanHear : World → Act → Type 0
CanHear w (Hear a) = IsReadInOne (sent_now w.server ∷ w.earlier) a
CanHear w act = Unit {0}

abbrev pub earlier_after : Server → Step → List (List ℕ) → List (List ℕ)
earlier_after server (Stop file) earlier = sent_now server ∷ earlier
earlier_after server (Replay read bytes) earlier = bytes ∷ earlier
earlier_after server step earlier = earlier

-- the clients that keep the rules, by their ids; any other sender uses other ids
module _ (ours : ℕ → Bool) where
  -- of these clients the server reads only frames that they sent: any number of times, in any order, or never
  abbrev pub CanRead : World → Step → Type 0
  CanRead w (Read pair) = IsRequest pair.1 × (ours pair.1.client ≡ true → IsAmong (request_bytes pair.1) (frames_of (w.clients pair.1.client)))
  CanRead w step = Unit {0}

  abbrev pub MayHappen : World → Event → Type 0
  MayHappen w (Client id act) = MayAct (w.clients id) act × CanHear w act
  MayHappen w (Server_does step) = MayStep w.server step × CanRead w step

  abbrev pub happens : World → Event → World
  happens w (Client id act) = record w { clients = with_client w.clients id (acted (w.clients id) act) }
  happens w (Server_does step) = record w { server = stepped w.server step; earlier = earlier_after w.server step w.earlier }

  abbrev pub Runs : World → List Event → Type 0
  Runs w [] = Unit {0}
  Runs w (event ∷ events) = MayHappen w event × Runs (happens w event) events

  abbrev pub run : World → List Event → World
  run w [] = w
  run w (event ∷ events) = run (happens w event) events

-- each client is new
abbrev pub begun : Server → World
begun server = record { clients = started; server = server; earlier = [] }

-- a file with this history, or a log that is empty after it
abbrev pub IsNew : Server → History → Type 0
IsNew (Down file) h = IsLedger h file
IsNew (Logged first log) h = IsKeepable first × (h ≡ first) × (log ≡ [])
IsNew (Up first read sent) h = ⊥

-- a history of others to begin with, as that of a new ledger, which is empty
pub record BeginsWith (ours : ℕ → Bool) (h : History) (server : Server) : Type 0 where
  pub new : IsNew server h
  pub others : Each (λ (e : Entry). ours e.request.client ≡ false) h.entries

-- the laws: any clients, and any schedule

-- what a client called is in the history as CallsHold says: at the end of any schedule, so now and after each later start
abbrev pub EachCallOnce : Type 0
EachCallOnce = (ours : ℕ → Bool) (first h : History) (server : Server) (events : List Event)
    → BeginsWith ours first server → Runs ours (begun server) events
    → let w = run ours (begun server) events in
    HasHistory w.server h
    → (id : ℕ) → ours id ≡ true
    → Sends id (w.clients id) × CallsHold (after h.profile h.clients_max) id h.entries (w.clients id).sent (w.clients id).returned

-- two histories begin with the same entries, and have no call of the session after these. A reply that was taken by v, to a request that was not sent
-- by w, is that of an entry after these
pub record IsDecided (ours : ℕ → Bool) (id session : ℕ) (w v : World) (now later : List Entry) : Type 0 where
  pub entries : List Entry
  pub since : List Entry
  pub others : List Entry
  pub now_is : now ≡ entries ++ since
  pub later_is : later ≡ entries ++ others
  pub none : Each (λ (e : Entry). e.request.client ≡ id → IsCall e.request → e.request.session ≢ session) (since ++ others)
  pub after : (other : ℕ) → ours other ≡ true
      → Each (λ (p : Message × Answer). IsAmong p.0 (w.clients other).sent ⊎ (length entries < p.1.commit)) (v.clients other).returned

-- once a client has heard that its session is over, each call of it was executed by then or never will be. A lookup that any of these clients first
-- sends later is executed after it: what the lookup does not show was not done
abbrev pub EndedIsFinal : Type 0
EndedIsFinal = (ours : ℕ → Bool) (first h k : History) (server : Server) (events more : List Event)
    → BeginsWith ours first server → Runs ours (begun server) events
    → let w = run ours (begun server) events in
    Runs ours w more
    → let v = run ours w more in
    HasHistory w.server h → HasHistory v.server k
    → (id : ℕ) (r : Message) → ours id ≡ true → IsCall r
    → (w.clients id).live.phase ≡ Ended r
    → IsDecided ours id r.session w v h.entries k.entries

-- no reply to a call that waits has status 3
abbrev pub NeverNewer : Type 0
NeverNewer = (ours : ℕ → Bool) (first h : History) (server : Server) (events : List Event)
    → BeginsWith ours first server → Runs ours (begun server) events
    → let w = run ours (begun server) events in
    HasHistory w.server h
    → (id : ℕ) (r : Message) (a : Answer) → ours id ≡ true → IsCall r
    → open_request (w.clients id).live.phase ≡ Some r
    → IsReadInOne (sent_now w.server ∷ w.earlier) a → names r a ≡ true
    → a.status ≢ status.NewerSession
