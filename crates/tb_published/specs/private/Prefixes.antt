-- Prefixes of the history of an opening.
use Rattle.std.specs.Prelude.{◌≡◌, ◌⊎◌, List, [], ◌∷◌, ◌++◌, length, nat_lt, if◌then◌else◌}
use mathlib.Core.List.{IsPrefix}
use Rattle.tb_machine.specs.declared.entries.Entry.{Entry}
use Rattle.tb_machine.specs.Histories.{State}
use Rattle.tb_published.specs.Openings.{Opening, after_in}

-- a prefix of an opening's history
pub record Prefix : Type 0 where
  pub opening : Opening
  pub list : List Entry

abbrev pub prefix : Opening → List Entry → Prefix
prefix o h = record { opening = o; list = h }

abbrev pub prefix_state : Prefix → State
prefix_state l = after_in l.opening l.list

abbrev pub with_entry : Prefix → Entry → Prefix
with_entry l e = prefix l.opening (l.list ++ e ∷ [])

-- m begins with l
abbrev pub IsPrefixOf : Prefix → Prefix → Type 0
IsPrefixOf l m = (l.opening ≡ m.opening) × IsPrefix l.list m.list

-- one of two prefixes begins with the other
abbrev pub Agree : Prefix → Prefix → Type 0
Agree l m = IsPrefixOf l m ⊎ IsPrefixOf m l

abbrev pub longer_prefix : Prefix → Prefix → Prefix
longer_prefix l m = if nat_lt (length l.list) (length m.list) then m else l

-- the entry is the last
abbrev pub EndsWith : List Entry → Entry → Type 0
EndsWith h e = (before : List Entry) × (h ≡ before ++ e ∷ [])
