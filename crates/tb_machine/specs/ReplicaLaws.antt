-- What holds if several machines read a script, each from its own place on.
use Rattle.std.specs.Prelude.{ℕ, false, ◌≡◌, ◌+◌, ◌≤◌, ◌⊎◌, max, List, [], ◌∷◌, ◌++◌, Some}
use Rattle.tb_records.specs.declared.limits.Profile.{Profile}
use Rattle.tb_records.specs.Messages.{Message, count, is_register}
use Rattle.tb_records.specs.Ordered.{Each}
use Rattle.tb_records.specs.declared.limits.TheConstants.{LAST_MOMENT}
use Rattle.tb_sessions.specs.declared.rows.Row.{Row}
use Rattle.tb_sessions.specs.Judged.{row_of}
use Rattle.tb_machine.specs.declared.entries.Entry.{Entry}
use Rattle.tb_machine.specs.Histories.{State, IsLegal, after, answer_to}
use Rattle.tb_machine.specs.Scripts.{Pair, accepted, replies_from, replies_to, grown}
use Rattle.tb_machine.specs.ScriptLaws.{AreLawful}
use Rattle.tb_machine.specs.Runs.{HasTimes, state_after}

-- a script in two parts

-- what is accepted of both parts is what is accepted of the second after what is accepted of the first
abbrev pub FromHere : Type 0
FromHere = (profile : Profile) (clients_max : ℕ) (h : List Entry) (ps qs : List Pair)
    → accepted profile clients_max h (ps ++ qs) ≡ accepted profile clients_max (accepted profile clients_max h ps) qs

-- the replies to both parts are those to the first, and then those to the second after what the first made
abbrev pub ReplyPrefix : Type 0
ReplyPrefix = (profile : Profile) (clients_max : ℕ) (h : List Entry) (ps qs : List Pair)
    → replies_from profile clients_max h (ps ++ qs) ≡ replies_from profile clients_max h ps ++ replies_from profile clients_max (accepted profile clients_max h ps) qs

-- a request that is repeated

-- an entry of the history holds the request
pub record IsIn (h : List Entry) (r : Message) : Type 0 where
  pub front : List Entry
  pub entry : Entry
  pub rest : List Entry
  pub whole : h ≡ front ++ entry ∷ rest
  pub request : entry.request ≡ r

abbrev pub HasRow : State → ℕ → Type 0
HasRow S client = (row : Row) × (row_of S.rows client ≡ Some row)

-- the request is not a register, or its client still has a row
abbrev pub IsOfKeptClient : State → Message → Type 0
IsOfKeptClient S r = (is_register r.body ≡ false) ⊎ HasRow S r.client

-- a pair whose request the history holds leaves the history as it is
abbrev pub SameAgain : Type 0
SameAgain = (profile : Profile) (clients_max : ℕ) (h : List Entry) (p : Pair) → IsLegal profile clients_max h
    → IsIn h p.1
    → IsOfKeptClient (after profile clients_max h) p.1
    → grown (after profile clients_max) h p ≡ h

-- a second copy of such a pair between two parts of a script changes no other reply, and does not change the history
abbrev pub CopyChangesNothing : Type 0
CopyChangesNothing = (profile : Profile) (clients_max : ℕ) (ps qs : List Pair) (p : Pair) → AreLawful ps
    → IsIn (accepted profile clients_max [] ps) p.1
    → IsOfKeptClient (state_after profile clients_max ps) p.1
    → let later = replies_from profile clients_max (accepted profile clients_max [] ps) qs in
    (replies_to profile clients_max (ps ++ qs) ≡ replies_to profile clients_max ps ++ later)
    × (replies_to profile clients_max (ps ++ p ∷ qs) ≡ replies_to profile clients_max ps ++ answer_to (state_after profile clients_max ps) p.1 ∷ later)
    × (accepted profile clients_max [] (ps ++ p ∷ qs) ≡ accepted profile clients_max [] (ps ++ qs))

-- bounded moments

-- how many nanoseconds at least a pair moves the time: one for each event, and one for a register or a lookup
abbrev pub ticks : Pair → ℕ
ticks p = max (count p.1.body) 1

abbrev pub all_ticks : List Pair → ℕ
all_ticks [] = 0
all_ticks (p ∷ ps) = ticks p + all_ticks ps

-- if the time of the history and all moments are at most `latest`, and `latest` plus the ticks of all pairs is at most 2^63 - 1, each new pair has a
-- time
abbrev pub Timely : Type 0
Timely = (profile : Profile) (clients_max : ℕ) (h : List Entry) (ps : List Pair) (latest : ℕ) → (after profile clients_max h).books.time ≤ latest
    → Each (λ (p : Pair). p.0 ≤ latest) ps
    → latest + all_ticks ps ≤ LAST_MOMENT
    → HasTimes (after profile clients_max) h ps
