-- What connects the serving of a script with the laws of histories.
use Rattle.std.specs.Prelude.{ℕ, ◌≡◌, ◌≢◌, ◌⊎◌, IsTrue, List, [], ◌∷◌, ◌++◌, Some, Result}
use Rattle.tb_records.specs.declared.limits.Profile.{Profile}
use Rattle.tb_records.specs.Messages.{Message, Answer}
use Rattle.tb_records.specs.Ordered.{Each}
use Rattle.tb_records.specs.Transport.{Input, Output}
use Rattle.tb_sessions.specs.declared.classes.Class.{Class}
use Rattle.tb_sessions.specs.declared.classes.Class.TheVariants.{Repeat}
use Rattle.tb_machine.specs.declared.entries.Entry.{Entry}
use Rattle.tb_machine.specs.declared.serving.RunFault.{RunFault}
use Rattle.tb_machine.specs.Histories.{is_lawful, reply_at, IsLegal, after, status_of, refusal}
use Rattle.tb_machine.specs.Scripts.{Pair, accepted, replies_to}
use Rattle.tb_machine.specs.Runs.{Ran}

-- the numbers of each request keep the rules that those of every `Request` keep
abbrev pub AreLawful : List Pair → Type 0
AreLawful ps = Each (λ (p : Pair). IsTrue (is_lawful p.1)) ps

-- what is accepted of lawful pairs is a legal history
abbrev pub AcceptedIsLegal : Type 0
AcceptedIsLegal = (profile : Profile) (clients_max : ℕ) (ps : List Pair) → AreLawful ps → IsLegal profile clients_max (accepted profile clients_max [] ps)

-- an entry of the history holds the request, and this is the reply to that entry
pub record IsGiven (profile : Profile) (clients_max : ℕ) (h : List Entry) (r : Message) (a : Answer) : Type 0 where
  pub front : List Entry
  pub entry : Entry
  pub rest : List Entry
  pub whole : h ≡ front ++ entry ∷ rest
  pub request : entry.request ≡ r
  pub reply : a ≡ reply_at (after profile clients_max front) entry

-- the answer is a refusal: it names the reason
pub record HasRefusal (r : Message) (a : Answer) : Type 0 where
  pub class : Class
  pub no_repeat : class ≢ Repeat
  pub answer : a ≡ refusal (status_of class) r

-- each request gets the reply to its entry, or a refusal
abbrev pub AreOf : Profile → ℕ → List Entry → List Pair → List Answer → Type 0
AreOf profile clients_max h [] [] = Unit {0}
AreOf profile clients_max h [] (a ∷ replies) = ⊥
AreOf profile clients_max h (p ∷ ps) [] = ⊥
AreOf profile clients_max h (p ∷ ps) (a ∷ replies) = (IsGiven profile clients_max h p.1 a ⊎ HasRefusal p.1 a) × AreOf profile clients_max h ps replies

-- the replies to a script of lawful pairs are those of the history that it makes
abbrev pub RepliesAreOfHistory : Type 0
RepliesAreOfHistory = (profile : Profile) (clients_max : ℕ) (ps : List Pair) → AreLawful ps → AreOf profile clients_max (accepted profile clients_max [] ps) ps (replies_to profile clients_max ps)

-- the pairs that a run served are lawful, if its reader reports its bytes
abbrev pub ServedAreLawful : Type 0
ServedAreLawful = (profile : Profile) (clients_max : ℕ) (result : Result ℕ RunFault) (before after : Input) (start written : Output) (bytes : List ℕ)
    → (ran : Ran profile clients_max result before after start written) → before.left ≡ Some bytes → AreLawful ran.items
