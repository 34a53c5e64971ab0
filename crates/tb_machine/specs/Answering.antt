-- What an answer says about the history: which entry holds a request, and that the reply is the one that was given there. No contract of this crate
-- uses it.
use Rattle.std.specs.Prelude.{ℕ, ◌≡◌, ◌≢◌, ◌+◌, List, ◌∷◌, ◌++◌, length}
use Rattle.tb_records.specs.declared.limits.Profile.{Profile}
use Rattle.tb_records.specs.declared.replies.Status.TheVariants as status
use Rattle.tb_records.specs.Messages.{Message, Answer}
use Rattle.tb_records.specs.Ordered.{Each}
use Rattle.tb_machine.specs.declared.entries.Entry.{Entry}
use Rattle.tb_machine.specs.Histories.{reply_at, after, key_of, answer_to}

-- entry c of the history holds the request, and the answer to the request is the reply given there; no other entry has its key
pub record Holds (profile : Profile) (clients_max : ℕ) (h : List Entry) (r : Message) (c : ℕ) : Type 0 where
  pub front : List Entry
  pub entry : Entry
  pub rest : List Entry
  pub whole : h ≡ front ++ entry ∷ rest
  pub place : c ≡ length front + 1
  pub numbered : c ≡ entry.commit
  pub request : entry.request ≡ r
  pub reply : answer_to (after profile clients_max h) r ≡ reply_at (after profile clients_max front) entry
  pub alone : Each (λ (other : Entry). key_of other ≢ key_of entry) (front ++ rest)

-- an answer after the history; if it is a reply, the entry that it names holds the request
abbrev pub IsAnswer : Profile → ℕ → List Entry → Message → Answer → Type 0
IsAnswer profile clients_max h r reply =
    (reply ≡ answer_to (after profile clients_max h) r)
    × (reply.status ≡ status.Reply → Holds profile clients_max h r reply.commit)
