-- What the clients of a storm call, and what its history then has of each.
use Rattle.std.specs.Prelude.{ℕ, zero, suc, ◌≡◌, ◌⊎◌, ◌+◌, ◌*◌, ◌≤◌, List, [], ◌∷◌, ◌++◌, map}
use Rattle.tb_records.specs.declared.bodies.Body.{Body}
use Rattle.tb_records.specs.declared.bodies.Body.TheVariants.{Register, CreateAccounts, CreateTransfers}
use Rattle.tb_records.specs.declared.records.Account.{Account}
use Rattle.tb_records.specs.declared.records.Transfer.{Transfer}
use Rattle.tb_records.specs.Messages.{Message, Answer, asked}
use Rattle.tb_records.specs.Ordered.{Each}
use Rattle.tb_machine.specs.declared.entries.Entry.{Entry}
use Rattle.tb_machine.specs.Histories.{after}
use Rattle.tb_published.specs.Openings.{Opening}
use Rattle.tb_caller.specs.Calls.{NoneInvented, CallsHold}

-- an account in ledger 700
abbrev pub account_of : ℕ → Account
account_of id = record {
  id = id;
  debits_pending = 0;
  debits_posted = 0;
  credits_pending = 0;
  credits_posted = 0;
  user_data_128 = 0;
  user_data_64 = 0;
  user_data_32 = 0;
  reserved = 0;
  ledger = 700;
  code = 10;
  flags = 0;
  timestamp = 0;
}

-- a client's kth transfer, of the amount k, to account 1000
abbrev pub transfer_of : ℕ → ℕ → Transfer
transfer_of client k = record {
  id = client * 1000000 + k;
  debit_account_id = client;
  credit_account_id = 1000;
  amount = k;
  pending_id = 0;
  user_data_128 = 0;
  user_data_64 = 0;
  user_data_32 = 0;
  timeout = 0;
  ledger = 700;
  code = 10;
  flags = 0;
  timestamp = 0;
}

-- accounts 1 to n
abbrev pub accounts_to : ℕ → List Account
accounts_to zero = []
accounts_to (suc n) = accounts_to n ++ account_of (n + 1) ∷ []

-- client 100's one call creates an account for each client, and account 1000
abbrev pub accounts_call : ℕ → ℕ → Body
accounts_call clients k = CreateAccounts (accounts_to clients ++ account_of 1000 ∷ [])

-- another client's kth call creates its kth transfer
abbrev pub transfer_call : ℕ → ℕ → Body
transfer_call client k = CreateTransfers (transfer_of client k ∷ [])

-- all that a client sends in a session, the newest first: its first k calls, numbered from 1, after its register
abbrev pub sent_in_session : ℕ → ℕ → (ℕ → Body) → ℕ → List Message
sent_in_session id session call zero = asked id 0 0 Register ∷ []
sent_in_session id session call (suc k) = asked id session (k + 1) (call (k + 1)) ∷ sent_in_session id session call k

-- A client made `count` calls, and each returned a reply: the history has each once, in the entry that gave this reply, and nothing else of the
-- client.
pub record HasCalled (o : Opening) (h : List Entry) (id : ℕ) (call : ℕ → Body) (count : ℕ) : Type 0 where
  pub session : ℕ
  pub returned : List (Message × Answer)
  pub all : map (λ p. p.0) returned ≡ sent_in_session id session call count
  pub none : NoneInvented id (sent_in_session id session call count) h
  pub hold : CallsHold (after o.profile o.clients_max) id h (sent_in_session id session call count) returned

-- one of the clients of a storm
abbrev pub IsStormClient : ℕ → ℕ → Type 0
IsStormClient clients id = (id ≡ 100) ⊎ ((1 ≤ id) × (id ≤ clients))

-- a history of a storm: each client's calls, once each, and nothing else
pub record IsPlayed (o : Opening) (clients transfers : ℕ) (h : List Entry) : Type 0 where
  pub first : HasCalled o h 100 (accounts_call clients) 1
  pub others : (c : ℕ) → 1 ≤ c → c ≤ clients → HasCalled o h c (transfer_call c) transfers
  pub alone : Each (λ (e : Entry). IsStormClient clients e.request.client) h
