-- An opening, and what is said of its history.
use Rattle.std.specs.Prelude.{ℕ, ◌≡◌, ◌⊎◌, List, length, nat_lt, if◌then◌else◌}
use mathlib.Core.List.{IsPrefix}
use Rattle.logbook.specs.Pages.{Book}
use Rattle.tb_records.specs.declared.limits.Profile.{Profile}
use Rattle.tb_records.specs.declared.records.Account.{Account}
use Rattle.tb_records.specs.declared.records.Transfer.{Transfer}
use Rattle.tb_records.specs.declared.replies.Status.{Status}
use Rattle.tb_records.specs.Messages.{Message, Answer}
use Rattle.tb_ledger.specs.Books.{found_accounts, found_transfers}
use Rattle.tb_machine.specs.declared.entries.Entry.{Entry}
use Rattle.tb_machine.specs.Histories.{State, IsLegal, after, answer_to}
use Rattle.tb_machine.specs.Answering.{Holds, IsAnswer}

-- which opening, and the rules that its history keeps
pub record Opening : Type 0 where
  pub book : Book  -- that counts the entries of its history
  pub profile : Profile
  pub clients_max : ℕ

-- in an opening

abbrev pub LegalIn : Opening → List Entry → Type 0
LegalIn o h = IsLegal o.profile o.clients_max h

abbrev pub after_in : Opening → List Entry → State
after_in o h = after o.profile o.clients_max h

-- entry c of its history holds the request
abbrev pub HoldsIn : Opening → List Entry → Message → ℕ → Type 0
HoldsIn o h r c = Holds o.profile o.clients_max h r c

-- the answer to a request after its history; if it is a reply, the entry that it names holds the request
abbrev pub IsAnswerIn : Opening → List Entry → Message → Answer → Type 0
IsAnswerIn o h r reply = IsAnswer o.profile o.clients_max h r reply

-- the answer after its legal history
abbrev pub AnswersIn : Opening → List Entry → Message → Answer → Type 0
AnswersIn o h r reply = LegalIn o h × IsAnswerIn o h r reply

-- the status of the answer after its legal history
abbrev pub HasStatusIn : Opening → List Entry → Message → Status → Type 0
HasStatusIn o h r status = LegalIn o h × (status ≡ (answer_to (after_in o h) r).status)

-- the accounts with these ids, as they are after its legal history of `count` entries
abbrev pub FindsAccounts : Opening → List Entry → List ℕ → ℕ → List Account → Type 0
FindsAccounts o h ids count accounts = LegalIn o h × (count ≡ length h) × (accounts ≡ found_accounts (after_in o h).books ids)

-- the transfers with these ids, as they were recorded in its legal history of `count` entries
abbrev pub FindsTransfers : Opening → List Entry → List ℕ → ℕ → List Transfer → Type 0
FindsTransfers o h ids count transfers = LegalIn o h × (count ≡ length h) × (transfers ≡ found_transfers (after_in o h).books ids)

-- one of two lists begins with the other
abbrev pub OneBegins : List Entry → List Entry → Type 0
OneBegins xs ys = IsPrefix xs ys ⊎ IsPrefix ys xs

-- the longer of two lists
abbrev pub longer_of : List Entry → List Entry → List Entry
longer_of xs ys = if nat_lt (length xs) (length ys) then ys else xs

-- the history, and the prefix of it that the copies show
pub record Ends : Type 0 where
  pub history : List Entry
  pub shown : List Entry
