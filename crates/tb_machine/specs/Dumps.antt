-- A history as bytes that another run can check, and the mark after which its entries are executed by profile 2.
use Rattle.std.specs.Prelude.{ℕ, ◌≡◌, ◌≤◌, nat_lt, List, [], ◌∷◌, ◌++◌, length, take, drop, fold, Option, Some, None, if◌then◌else◌}
use Rattle.std.specs.List.{flat_map}
use Rattle.tb_records.specs.declared.limits.Profile.{Profile}
use Rattle.tb_records.specs.declared.limits.Profile.TheVariants.{One}
use Rattle.tb_records.specs.DumpBytes.{head_bytes, mark_bytes, entry_bytes, IsClients, IsDumped}
use Rattle.tb_records.specs.Messages.{Answer}
use Rattle.tb_records.specs.Ordered.{Each}
use Rattle.tb_machine.specs.declared.entries.Entry.{Entry}
use Rattle.tb_machine.specs.Histories.{State, start, reply_at, step, to_two, LegalFrom, IsLegal, after}
use Rattle.tb_machine.specs.Scripts.{Pair, grown}

-- encoding

-- a history as bytes; the mark, if there is one, is after the first n entries
abbrev pub dumped : Entry → List ℕ
dumped e = entry_bytes e.commit e.time e.request

abbrev pub history_bytes : Option ℕ → List Entry → List ℕ
history_bytes None h = flat_map dumped h
history_bytes (Some n) h = flat_map dumped (take n h) ++ (mark_bytes ++ flat_map dumped (drop n h))

abbrev pub IsDumpedEntry : Entry → Type 0
IsDumpedEntry e = IsDumped e.commit e.time e.request

-- a mark is among the entries, under profile 1
abbrev pub IsPlace : Profile → Option ℕ → List Entry → Type 0
IsPlace profile None h = Unit {0}
IsPlace profile (Some n) h = (profile ≡ One) × (n ≤ length h)

-- the bytes are the dump of the history, with a mark in its place
pub record DumpSpells (bytes : List ℕ) (profile : Profile) (clients_max : ℕ) (h : List Entry) (place : Option ℕ) : Type 0 where
  pub bytes_are : bytes ≡ head_bytes profile clients_max ++ history_bytes place h
  pub clients : IsClients clients_max
  pub entries : Each IsDumpedEntry h
  pub marked : IsPlace profile place h

-- each encoding of a dump has one decoding
abbrev pub OneDump : Type 0
OneDump = (bytes : List ℕ) (p q : Profile) (m n : ℕ) (h k : List Entry) (place other : Option ℕ)
    → DumpSpells bytes p m h place → DumpSpells bytes q n k other
    → (p ≡ q) × (m ≡ n) × (h ≡ k) × (place ≡ other)

-- histories with a mark: profile 2 executes the entries after it, from books with no failed id. Without a mark nothing changes

-- the replies to consecutive entries
abbrev pub replies_along : State → List Entry → List Answer
replies_along S [] = []
replies_along S (e ∷ es) = reply_at S e ∷ replies_along (step S e) es

module _ (profile : Profile) (clients_max : ℕ) where
  -- the state after a mark
  abbrev pub marked_after : List Entry → State
  marked_after h = to_two (after profile clients_max h)

  abbrev pub after_with : Option ℕ → List Entry → State
  after_with None h = after profile clients_max h
  after_with (Some n) h = fold step (marked_after (take n h)) (drop n h)

  abbrev pub IsLegalWith : Option ℕ → List Entry → Type 0
  IsLegalWith None h = IsLegal profile clients_max h
  IsLegalWith (Some n) h = IsLegal profile clients_max (take n h) × LegalFrom (marked_after (take n h)) (drop n h)

  abbrev pub replies_with : Option ℕ → List Entry → List Answer
  replies_with None h = replies_along (start profile clients_max) h
  replies_with (Some n) h = replies_along (start profile clients_max) (take n h) ++ replies_along (marked_after (take n h)) (drop n h)

-- a dump that is made of a script: the mark is directly before the first entry whose commit number is above `at`, and is written with that entry

abbrev pub place_in : Option ℕ → List Entry → Option ℕ
place_in None h = None
place_in (Some at) h = if nat_lt at (length h) then Some at else None

module _ (profile : Profile) (clients_max : ℕ) (at : Option ℕ) where
  abbrev pub after_at : List Entry → State
  after_at h = after_with profile clients_max (place_in at h) h

  -- the history that a script makes
  abbrev pub accepted_at : List Entry → List Pair → List Entry
  accepted_at h ps = fold (grown after_at) h ps
