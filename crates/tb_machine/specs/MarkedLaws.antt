-- The laws of legal histories with or without a mark.
use Rattle.std.specs.Prelude.{ℕ, true, false, ◌≡◌, ◌⊎◌, nat_le, IsTrue, List, [], ◌∷◌, ◌++◌, length, Option, Some, None, if◌then◌else◌}
use Rattle.tb_records.specs.declared.records.Account.{Account}
use Rattle.tb_records.specs.declared.limits.Profile.{Profile}
use Rattle.tb_records.specs.declared.limits.Profile.TheVariants.{One}
use Rattle.tb_records.specs.Messages.{Message, is_register}
use Rattle.tb_records.specs.Transport.{Input, Output}
use Rattle.tb_ledger.specs.Books.{account_now}
use Rattle.tb_ledger.specs.Limits.{KeepsLimits, Balances}
use Rattle.tb_sessions.specs.declared.classes.Class.TheVariants.{New, Repeat, NoSession, SessionTooLow}
use Rattle.tb_sessions.specs.Judged.{row_of, class_of}
use Rattle.tb_machine.specs.declared.entries.Entry.{Entry}
use Rattle.tb_machine.specs.Histories.{State, is_lawful, fits, step, to_two, IsLegal, after}
use Rattle.tb_machine.specs.HistoryLaws.{KeysDiffer, IsStoredIn, HasSession}
use Rattle.tb_machine.specs.Dumps.{IsPlace, after_with, IsLegalWith, place_in, accepted_at}
use Rattle.tb_machine.specs.Scripts.{Pair}
use Rattle.tb_machine.specs.ScriptLaws.{AreLawful}
use Rattle.tb_machine.specs.DumpRuns.{history_made, HasDumped}

-- the mark, if it comes after no more entries than these
abbrev pub met : Option ℕ → List Entry → Option ℕ
met None h = None
met (Some n) h = if nat_le n (length h) then Some n else None

module _ (profile : Profile) (clients_max : ℕ) (mark : Option ℕ) where
  -- the state in which the entry after h is executed: after the mark, if h reaches it
  abbrev pub next_in : List Entry → State
  next_in h = after_with profile clients_max (met mark h) h

  abbrev pub IsStoredWith : List Entry → Message → Type 0
  IsStoredWith h r = IsStoredIn next_in (after_with profile clients_max mark h) h r

-- keys are unique
abbrev pub OneKeyWith : Type 0
OneKeyWith = (profile : Profile) (clients_max : ℕ) (mark : Option ℕ) (h : List Entry) → IsLegalWith profile clients_max mark h → KeysDiffer h

-- a repeat gets its first reply
abbrev pub FirstReplyWith : Type 0
FirstReplyWith = (profile : Profile) (clients_max : ℕ) (mark : Option ℕ) (h : List Entry) (r : Message) → IsLegalWith profile clients_max mark h → IsTrue (is_lawful r)
    → class_of (after_with profile clients_max mark h).rows r ≡ Repeat → IsStoredWith profile clients_max mark h r

-- a request that was entered is not new again, unless it is a register, and its client no longer has a row
abbrev pub NotNewAgainWith : Type 0
NotNewAgainWith = (profile : Profile) (clients_max : ℕ) (mark : Option ℕ) (front : List Entry) (entry : Entry) (rest : List Entry)
    → IsLegalWith profile clients_max mark (front ++ entry ∷ rest)
    → class_of (after_with profile clients_max mark (front ++ entry ∷ rest)).rows entry.request ≡ New
    → (is_register entry.request.body ≡ true) × (row_of (after_with profile clients_max mark (front ++ entry ∷ rest)).rows entry.request.client ≡ None)

-- a session that was removed stays out
abbrev pub StaysOutWith : Type 0
StaysOutWith = (profile : Profile) (clients_max : ℕ) (mark : Option ℕ) (h m k : List Entry) (r : Message) → IsLegalWith profile clients_max mark (h ++ (m ++ k))
    → HasSession (next_in profile clients_max mark h) r.client r.session
    → (HasSession (next_in profile clients_max mark (h ++ m)) r.client r.session → ⊥)
    → is_register r.body ≡ false
    → (class_of (after_with profile clients_max mark (h ++ (m ++ k))).rows r ≡ NoSession) ⊎ (class_of (after_with profile clients_max mark (h ++ (m ++ k))).rows r ≡ SessionTooLow)

-- the sums of every account fit and respect its limits
abbrev pub LimitsHoldWith : Type 0
LimitsHoldWith = (profile : Profile) (clients_max : ℕ) (mark : Option ℕ) (h : List Entry) → IsLegalWith profile clients_max mark h
    → (id : ℕ) (a : Account) → account_now (after_with profile clients_max mark h).books id ≡ Some a → KeepsLimits a

-- in every ledger the debits equal the credits
abbrev pub LedgersBalanceWith : Type 0
LedgersBalanceWith = (profile : Profile) (clients_max : ℕ) (mark : Option ℕ) (h : List Entry) → IsLegalWith profile clients_max mark h
    → (ledger : ℕ) → Balances (after_with profile clients_max mark h).books ledger

-- histories that are legal with a mark

-- one more entry that may come next
abbrev pub NextIsLegalWith : Type 0
NextIsLegalWith = (profile : Profile) (clients_max : ℕ) (mark : Option ℕ) (h : List Entry) (e : Entry) → IsPlace profile mark h → IsLegalWith profile clients_max mark h
    → IsTrue (fits (after_with profile clients_max mark h) e)
    → IsLegalWith profile clients_max mark (h ++ e ∷ []) × (after_with profile clients_max mark (h ++ e ∷ []) ≡ step (after_with profile clients_max mark h) e)

-- a machine that changes to profile 2 after h has the state after a mark there
abbrev pub MovedIsLegalWith : Type 0
MovedIsLegalWith = (profile : Profile) (clients_max : ℕ) (h : List Entry) → IsLegal profile clients_max h
    → IsLegalWith profile clients_max (Some (length h)) h × (after_with profile clients_max (Some (length h)) h ≡ to_two (after profile clients_max h))

-- what is accepted of lawful pairs, with the mark directly before the first entry above `at`
abbrev pub AcceptedIsLegalWith : Type 0
AcceptedIsLegalWith = (profile : Profile) (clients_max : ℕ) (at : Option ℕ) (ps : List Pair) → AreLawful ps
    → IsLegalWith profile clients_max (place_in at (accepted_at profile clients_max at [] ps)) (accepted_at profile clients_max at [] ps)

-- what a dump wrote, for any reader
abbrev pub DumpedIsLegal : Type 0
DumpedIsLegal = (clients_max : ℕ) (at : Option ℕ) (ps : List Pair) (before after : Input) (start written : Output) → HasDumped clients_max at ps before after start written
    → IsLegalWith One clients_max (place_in at (history_made clients_max at ps)) (history_made clients_max at ps)
