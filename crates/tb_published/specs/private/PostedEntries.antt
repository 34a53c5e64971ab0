-- Posted entries: each brings the copies an entry, and the front that a copy has with it.
use Rattle.std.specs.Prelude.{◌≡◌, ◌+◌, ◌==◌, List, [], ◌∷◌, ◌++◌, length, if◌then◌else◌, fold, Option, Some, MatchOption}
use Rattle.std.specs.Option.{option_to_list}
use mathlib.Core.List.{IsPrefix}
use Rattle.tb_machine.specs.declared.entries.Entry.{Entry}
use Rattle.tb_published.specs.private.Prefixes.{Prefix, with_entry}

pub record PostedEntry : Type 0 where
  pub entry : Entry
  pub front : Prefix

-- a copy takes in the front that has one more entry
abbrev pub absorbed : Prefix → PostedEntry → Prefix
absorbed x o = if length o.front.list == length x.list + 1 then o.front else x

-- the next entry of the history is posted: its head counts it, and the posted front has it; or nothing is posted, and the head stays
abbrev pub PostsNext : Prefix → Prefix → List Entry → Option PostedEntry → Type 0
PostsNext before after history posted =
    MatchOption posted (after ≡ before) (λ o. (o.front ≡ after) × (after ≡ with_entry before o.entry) × IsPrefix after.list history)

-- posted entries after a prefix, one after another
abbrev pub FollowsPrefix : Prefix → List PostedEntry → Type 0
FollowsPrefix l [] = Unit {0}
FollowsPrefix l (o ∷ os) = (o.front ≡ with_entry l o.entry) × FollowsPrefix o.front os

-- the prefix after the last of them
abbrev pub prefix_after : Prefix → List PostedEntry → Prefix
prefix_after l os = fold (λ _ o. o.front) l os

-- the two copies as the publisher has them: what they show, the posted entries that they have not taken in, and what the publisher has seen
pub record TwoCopies : Type 0 where
  pub shown : Prefix
  pub posted : List PostedEntry
  pub seen : Option Prefix

-- they show a prefix, and nothing is posted
abbrev pub showing : Prefix → TwoCopies
showing l = record { shown = l; posted = []; seen = Some l }

-- with one more posted entry, if one waits for capacity
abbrev pub and_waiting : TwoCopies → Option PostedEntry → TwoCopies
and_waiting copies waiting = record copies { posted = copies.posted ++ option_to_list waiting }
