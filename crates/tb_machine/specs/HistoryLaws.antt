-- The laws of legal histories.
use Rattle.std.specs.Prelude.{ℕ, true, false, ◌≡◌, ◌≢◌, ◌+◌, ◌⊎◌, IsTrue, List, [], ◌∷◌, ◌++◌, length, Some, None}
use Rattle.tb_records.specs.declared.records.Account.{Account}
use Rattle.tb_records.specs.declared.limits.Profile.{Profile}
use Rattle.tb_records.specs.Messages.{Message, is_register}
use Rattle.tb_records.specs.Ordered.{Each}
use Rattle.tb_ledger.specs.Books.{account_now}
use Rattle.tb_ledger.specs.Limits.{KeepsLimits, Balances}
use Rattle.tb_sessions.specs.declared.rows.Row.{Row}
use Rattle.tb_sessions.specs.declared.classes.Class.TheVariants.{New, Repeat, NoSession, SessionTooLow}
use Rattle.tb_sessions.specs.Judged.{row_of, class_of}
use Rattle.tb_machine.specs.declared.entries.Entry.{Entry}
use Rattle.tb_machine.specs.Histories.{State, is_lawful, reply_at, IsLegal, after, key_of}

-- no two entries have the same key

abbrev pub KeysDiffer : List Entry → Type 0
KeysDiffer [] = Unit {0}
KeysDiffer (e ∷ es) = Each (λ (later : Entry). key_of later ≢ key_of e) es × KeysDiffer es

abbrev pub OneKey : Type 0
OneKey = (profile : Profile) (clients_max : ℕ) (h : List Entry) → IsLegal profile clients_max h → KeysDiffer h

-- a repeat gets its first reply

-- the request is in one entry of the history, which its client's row names now; the row keeps the reply that was given there, in the state after the
-- earlier entries
pub record IsStoredIn (state : List Entry → State) (now : State) (h : List Entry) (r : Message) : Type 0 where
  pub row : Row
  pub front : List Entry
  pub entry : Entry
  pub rest : List Entry
  pub stored : row_of now.rows r.client ≡ Some row
  pub whole : h ≡ front ++ entry ∷ rest
  pub numbered : row.commit ≡ length front + 1
  pub request : entry.request ≡ r
  pub reply : row.reply ≡ reply_at (state front) entry
  pub alone : Each (λ (other : Entry). key_of other ≢ key_of entry) (front ++ rest)

abbrev pub IsStored : Profile → ℕ → List Entry → Message → Type 0
IsStored profile clients_max h r = IsStoredIn (after profile clients_max) (after profile clients_max h) h r

abbrev pub FirstReply : Type 0
FirstReply = (profile : Profile) (clients_max : ℕ) (h : List Entry) (r : Message) → IsLegal profile clients_max h → IsTrue (is_lawful r)
    → class_of (after profile clients_max h).rows r ≡ Repeat → IsStored profile clients_max h r

-- a request that was entered is not new again

-- unless it is a register, and its client no longer has a row
abbrev pub NotNewAgain : Type 0
NotNewAgain = (profile : Profile) (clients_max : ℕ) (front : List Entry) (entry : Entry) (rest : List Entry) → IsLegal profile clients_max (front ++ entry ∷ rest)
    → class_of (after profile clients_max (front ++ entry ∷ rest)).rows entry.request ≡ New
    → (is_register entry.request.body ≡ true) × (row_of (after profile clients_max (front ++ entry ∷ rest)).rows entry.request.client ≡ None)

-- a session that was removed stays out

abbrev pub HasSession : State → ℕ → ℕ → Type 0
HasSession S client session = (row : Row) × (row_of S.rows client ≡ Some row) × (row.session ≡ session)

-- it exists after h, and no longer after the entries m that follow: then a request of it that is not a register is refused whatever entries k follow
abbrev pub StaysOut : Type 0
StaysOut = (profile : Profile) (clients_max : ℕ) (h m k : List Entry) (r : Message) → IsLegal profile clients_max (h ++ (m ++ k))
    → HasSession (after profile clients_max h) r.client r.session
    → (HasSession (after profile clients_max (h ++ m)) r.client r.session → ⊥)
    → is_register r.body ≡ false
    → (class_of (after profile clients_max (h ++ (m ++ k))).rows r ≡ NoSession) ⊎ (class_of (after profile clients_max (h ++ (m ++ k))).rows r ≡ SessionTooLow)

-- limits and sums

-- the sums of every account fit and respect its limits
abbrev pub LimitsHold : Type 0
LimitsHold = (profile : Profile) (clients_max : ℕ) (h : List Entry) → IsLegal profile clients_max h
    → (id : ℕ) (a : Account) → account_now (after profile clients_max h).books id ≡ Some a → KeepsLimits a

-- in every ledger the debits equal the credits
abbrev pub LedgersBalance : Type 0
LedgersBalance = (profile : Profile) (clients_max : ℕ) (h : List Entry) → IsLegal profile clients_max h
    → (ledger : ℕ) → Balances (after profile clients_max h).books ledger
