-- What seats have seen, and what a seat that has learnt of a request answers for it.
use Rattle.std.specs.Prelude.{true, ◌≡◌, List, ◌∷◌, ◌++◌, None}
use mathlib.Core.List.{IsPrefix}
use Rattle.tb_records.specs.declared.replies.Status.TheVariants as status
use Rattle.tb_records.specs.Messages.{Message, is_register}
use Rattle.tb_sessions.specs.Judged.{row_of}
use Rattle.tb_machine.specs.declared.entries.Entry.{Entry}
use Rattle.tb_machine.specs.Histories.{answer_to}
use Rattle.tb_published.specs.Openings.{Opening, LegalIn, after_in, OneBegins}

-- two prefixes of one list: one begins with the other
abbrev pub OneHistory : Type 0
OneHistory = (whole xs ys : List Entry) → IsPrefix xs whole → IsPrefix ys whole → OneBegins xs ys

-- the request is that of an entry
pub record Has (h : List Entry) (r : Message) : Type 0 where
  pub front : List Entry
  pub entry : Entry
  pub rest : List Entry
  pub whole : h ≡ front ++ entry ∷ rest
  pub request : entry.request ≡ r

-- a seat has seen m, which begins with h, and h was told after the request was committed: then the request is NotYet only if it is a register whose
-- client has no row any more
abbrev pub NeverNotYet : Type 0
NeverNotYet = (o : Opening) (h m : List Entry) (r : Message) → Has h r → IsPrefix h m → LegalIn o m
    → (answer_to (after_in o m) r).status ≡ status.NotYet
    → (is_register r.body ≡ true) × (row_of (after_in o m).rows r.client ≡ None)
