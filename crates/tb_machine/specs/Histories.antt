-- Entries, the state that they lead to, and the answers that it gives: a request is executed once, in its turn, and its reply is kept in its client's
-- row.
use Rattle.std.specs.Prelude.{ℕ, Bool, true, false, ◌&&◌, ◌==◌, ◌+◌, max, nat_le, IsTrue, List, [], ◌∷◌, Option, Some, if◌then◌else◌, fold}
use Rattle.std.specs.Option.{is_none, option_map}
use Rattle.tb_records.specs.declared.bodies.Body.{Body}
use Rattle.tb_records.specs.declared.bodies.Body.TheVariants.{Register, CreateAccounts, CreateTransfers, LookupAccounts, LookupTransfers}
use Rattle.tb_records.specs.declared.bodies.ReplyBody.{ReplyBody}
use Rattle.tb_records.specs.declared.bodies.ReplyBody.TheVariants.{Empty, Results, Accounts, Transfers}
use Rattle.tb_records.specs.declared.replies.Status.{Status}
use Rattle.tb_records.specs.declared.replies.Status.TheVariants as status
use Rattle.tb_records.specs.declared.limits.Profile.{Profile}
use Rattle.tb_records.specs.Messages.{Message, Answer, operation, count, is_register, number_fault, answered}
use Rattle.tb_records.specs.declared.limits.TheConstants.{LAST_MOMENT}
use Rattle.tb_ledger.specs.Books.{Books, empty_books, moved_to_two, found_accounts, found_transfers}
use Rattle.tb_ledger.specs.Batches.{account_events, transfer_events, batch_after, results}
use Rattle.tb_sessions.specs.declared.rows.Row.{Row}
use Rattle.tb_sessions.specs.declared.classes.Class.{Class}
use Rattle.tb_sessions.specs.declared.classes.Class.TheVariants.{New, Repeat, NoSession, SessionTooLow, NewerSession, Older, Collision, NewerRequest}
use Rattle.tb_sessions.specs.Judged.{row_of, class_of}
use Rattle.tb_sessions.specs.Admission.{admitted}
use Rattle.tb_machine.specs.declared.entries.Entry.{Entry}

-- the state after a history
pub record State : Type 0 where
  pub clients_max : ℕ  -- the number of clients that can have a session at one time
  pub commit : ℕ  -- the number of the last entry
  pub books : Books  -- which show the profile: only profile 2 keeps failed ids
  pub rows : List Row  -- the session table, by rising client

abbrev pub start : Profile → ℕ → State
start profile clients_max = record { clients_max = clients_max; commit = 0; books = empty_books profile; rows = [] }

-- time

-- each entry has a time of its own, and so has each of its events: a register or a lookup takes one
abbrev pub least_time : State → Message → ℕ
least_time S r = S.books.time + max (count r.body) 1

-- the time of a request that comes at a moment
abbrev pub time_of : State → ℕ → Message → ℕ
time_of S moment r = max moment (least_time S r)

-- which entry may come next

abbrev pub is_new : Class → Bool
is_new New = true
is_new _ = false

-- its numbers keep the rules that those of every `Request` keep
abbrev pub is_lawful : Message → Bool
is_lawful r = is_none (number_fault r)

abbrev pub fits : State → Entry → Bool
fits S e =
    e.commit == S.commit + 1
    && nat_le (least_time S e.request) e.time
    && nat_le e.time LAST_MOMENT
    && is_lawful e.request
    && is_new (class_of S.rows e.request)

-- one entry

-- the session that it belongs to: for a register this is its own commit number
abbrev pub session_of : Entry → ℕ
session_of e = if is_register e.request.body then e.commit else e.request.session

abbrev pub at_time : Books → ℕ → Books
at_time B time = record B { time = time }

-- the books after it: a register or a lookup moves only the time
abbrev pub executed : Books → Body → ℕ → Books
executed B (CreateAccounts events) time = (batch_after account_events B events time).books
executed B (CreateTransfers events) time = (batch_after transfer_events B events time).books
executed B _ time = at_time B time

-- the body of its reply: a lookup finds records as they are at its time
abbrev pub found : Books → Body → ℕ → ReplyBody
found B Register time = Empty
found B (CreateAccounts events) time = Results (results (batch_after account_events B events time).codes)
found B (CreateTransfers events) time = Results (results (batch_after transfer_events B events time).codes)
found B (LookupAccounts ids) time = Accounts (found_accounts (at_time B time) ids)
found B (LookupTransfers ids) time = Transfers (found_transfers (at_time B time) ids)

abbrev pub reply_at : State → Entry → Answer
reply_at S e = answered e.request.client (session_of e) e.request.request (operation e.request.body) status.Reply e.commit (found S.books e.request.body e.time)

-- the row of its client: the last request that was executed, and the reply to it
abbrev pub row_at : State → Entry → Row
row_at S e = record { client = e.request.client; session = session_of e; request = e.request; reply = reply_at S e; commit = e.commit }

abbrev pub step : State → Entry → State
step S e = record {
  clients_max = S.clients_max;
  commit = e.commit;
  books = executed S.books e.request.body e.time;
  rows = admitted S.clients_max S.rows (row_at S e);
}

-- profile 2 from here on: everything else stays
abbrev pub to_two : State → State
to_two S = record S { books = moved_to_two S.books }

-- histories

abbrev pub LegalFrom : State → List Entry → Type 0
LegalFrom S [] = Unit {0}
LegalFrom S (e ∷ es) = IsTrue (fits S e) × LegalFrom (step S e) es

-- client, session and request number: the key of a request
abbrev pub key_of : Entry → ℕ × ℕ × ℕ
key_of e = (e.request.client, session_of e, e.request.request)

module _ (profile : Profile) (clients_max : ℕ) where
  -- commits are 1, 2, 3 and so on, times rise far enough, and each request is new in its turn
  abbrev pub IsLegal : List Entry → Type 0
  IsLegal h = LegalFrom (start profile clients_max) h

  abbrev pub after : List Entry → State
  after h = fold step (start profile clients_max) h

-- answers

-- the status that has the class's name
abbrev pub status_of : Class → Status
status_of New = status.NotYet
status_of Repeat = status.Reply
status_of NoSession = status.NoSession
status_of SessionTooLow = status.SessionTooLow
status_of NewerSession = status.NewerSession
status_of Older = status.Older
status_of Collision = status.Collision
status_of NewerRequest = status.NewerRequest

-- a refusal has commit 0 and no body
abbrev pub refusal : Status → Message → Answer
refusal status r = answered r.client r.session r.request (operation r.body) status 0 Empty

-- the reply to a client's last request
abbrev pub stored_reply : State → ℕ → Option Answer
stored_reply S client = option_map (λ (row : Row). row.reply) (row_of S.rows client)

-- a repeat gets the reply that its client's row keeps
abbrev pub answer_by : Class → Option Row → Message → Answer
answer_by Repeat (Some row) r = row.reply
answer_by class row r = refusal (status_of class) r

abbrev pub answer_to : State → Message → Answer
answer_to S r = answer_by (class_of S.rows r) (row_of S.rows r.client) r
