-- A schedule that meets the premises of the laws. The server has one session at a time. Power is lost while the entry of client 7's lookup is
-- committed, and its process ends too. The lookup is sent again and executed, and its reply is lost. Sent once more, it gets that reply. Then client
-- 8 registers, which evicts client 7: its next lookup ends its session, and a lookup of client 8 decides.
use Rattle.std.specs.Prelude.{ℕ, true, ◌≡◌, List, [], ◌∷◌, ◌++◌, length, drop, take}
use Rattle.tb_records.specs.declared.bodies.Body.TheVariants.{Register, LookupAccounts}
use Rattle.tb_records.specs.declared.limits.Profile.TheVariants.{One}
use Rattle.tb_records.specs.Messages.{Message, Answer, asked}
use Rattle.tb_file_journal.specs.Contents.{block, journal_of}
use Rattle.tb_machine.specs.Dumps.{dumped}
use Rattle.tb_machine.specs.Histories.{State, answer_to}
use Rattle.tb_machine.specs.Scripts.{Pair, entry_of, after_pair}
use Rattle.tb_file.specs.Keeping.{History, history_state, longer, records_of}
use Rattle.tb_file.specs.Rounds.{state_from, entries_from, reply_bytes_from}
use Rattle.tb_caller.specs.declared.callers.Phase.TheVariants.{Ended}
use Rattle.tb_caller.specs.Endpoints.Act.{Call, Send, Hear, Store, Restart}
use Rattle.tb_caller_laws.specs.ExactlyOnce.{World, Event, HasHistory, Runs, run, begun, BeginsWith}
use Rattle.tb_caller_laws.specs.ExactlyOnce.Event.{Client, Server_does}
use Rattle.tb_caller_laws.specs.ExactlyOnce.Server.{Down}
use Rattle.tb_caller_laws.specs.ExactlyOnce.Step.{Start, Read, Reply, Stop}

abbrev pub register : ℕ → Message
register client = asked client 0 0 Register

abbrev pub lookup : ℕ → ℕ → ℕ → Message
lookup client session number = asked client session number (LookupAccounts (5 ∷ []))

-- the file of a history; a crash may leave more bytes after its closed latch
abbrev pub file_of : History → List ℕ → List ℕ
file_of h torn = journal_of (records_of h) ++ torn

abbrev pub empty : History
empty = record { profile = One; clients_max = 1; entries = [] }

-- the history before the power is lost
abbrev pub kept : History
kept = longer empty (entries_from (history_state empty) ((10, register 7) ∷ []))

-- a part of the block that was being written
abbrev pub torn_block : List ℕ
torn_block = take 20 (drop 4 (block (dumped (entry_of (history_state kept) (20, lookup 7 1 1)))))

-- what the second run has read, so many of them
abbrev pub reads : ℕ → List Pair
reads n = take n ((30, lookup 7 1 1) ∷ (40, lookup 7 1 1) ∷ (50, register 8) ∷ (60, lookup 7 1 2) ∷ (70, lookup 8 3 1) ∷ [])

-- the state of the second run then
abbrev pub then : ℕ → State
then n = state_from (history_state kept) (reads n)

abbrev pub reply_of : State → Pair → Answer
reply_of S p = answer_to (after_pair S p) p.1

abbrev pub reply_in : State → Pair → List ℕ
reply_in S p = reply_bytes_from S (p ∷ [])

abbrev pub worked_events : List Event
worked_events =
    Server_does (Start empty)
    ∷ Client 7 (Call Register)
    ∷ Client 7 (Send (register 7))
    ∷ Server_does (Read (10, register 7))
    ∷ Server_does (Reply (reply_in (history_state empty) (10, register 7)))
    ∷ Client 7 (Hear (reply_of (history_state empty) (10, register 7)))
    ∷ Client 7 (Call (LookupAccounts (5 ∷ [])))
    ∷ Client 7 Store
    ∷ Client 7 (Send (lookup 7 1 1))
    ∷ Server_does (Read (20, lookup 7 1 1))
    -- power is lost amid the commit
    ∷ Server_does (Stop (file_of kept torn_block))
    ∷ Client 7 Restart
    ∷ Server_does (Start kept)
    ∷ Client 7 (Send (lookup 7 1 1))
    ∷ Server_does (Read (30, lookup 7 1 1))
    -- this reply is lost
    ∷ Server_does (Reply (reply_in (then 0) (30, lookup 7 1 1)))
    ∷ Client 7 (Send (lookup 7 1 1))
    ∷ Server_does (Read (40, lookup 7 1 1))
    ∷ Server_does (Reply (reply_in (then 1) (40, lookup 7 1 1)))
    ∷ Client 7 (Hear (reply_of (then 1) (40, lookup 7 1 1)))
    -- an eviction
    ∷ Client 8 (Call Register)
    ∷ Client 8 (Send (register 8))
    ∷ Server_does (Read (50, register 8))
    ∷ Server_does (Reply (reply_in (then 2) (50, register 8)))
    ∷ Client 8 (Hear (reply_of (then 2) (50, register 8)))
    ∷ Client 7 (Call (LookupAccounts (5 ∷ [])))
    ∷ Client 7 Store
    ∷ Client 7 (Send (lookup 7 1 2))
    ∷ Server_does (Read (60, lookup 7 1 2))
    ∷ Server_does (Reply (reply_in (then 3) (60, lookup 7 1 2)))
    ∷ Client 7 (Hear (reply_of (then 3) (60, lookup 7 1 2)))
    ∷ Client 8 (Call (LookupAccounts (5 ∷ [])))
    ∷ Client 8 (Send (lookup 8 3 1))
    ∷ Server_does (Read (70, lookup 8 3 1))
    ∷ Server_does (Reply (reply_in (then 4) (70, lookup 8 3 1)))
    ∷ Client 8 (Hear (reply_of (then 4) (70, lookup 8 3 1)))
    ∷ []

abbrev pub worked : World
worked = run (λ (id : ℕ). true) (begun (Down (file_of empty []))) worked_events

abbrev pub last : History
last = longer kept (entries_from (history_state kept) (reads 5))

-- two calls of each client return, the session of client 7 has ended, and the history has four entries
pub record IsWorked : Type 0 where
  pub begins : BeginsWith (λ (id : ℕ). true) empty (Down (file_of empty []))
  pub runs : Runs (λ (id : ℕ). true) (begun (Down (file_of empty []))) worked_events
  pub seven : length (worked.clients 7).returned ≡ 2
  pub ended : (worked.clients 7).live.phase ≡ Ended (lookup 7 1 2)
  pub eight : length (worked.clients 8).returned ≡ 2
  pub history : HasHistory worked.server last
  pub entries : length last.entries ≡ 4
