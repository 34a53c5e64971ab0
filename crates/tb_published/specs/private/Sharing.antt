-- The rule that the copies and their readers keep.
use Rattle.std.specs.Prelude.{ℕ, ◌≡◌, List, Option, Some, IfSome, Result, MatchResult}
use mathlib.Core.Option.{some}
use lib.ListN.{get_elem?}
use Rattle.tb_published.specs.Openings.{Opening, LegalIn}
use Rattle.tb_published.specs.private.Prefixes.{Prefix, IsPrefixOf}
use Rattle.tb_published.specs.private.PostedEntries.{TwoCopies, prefix_after, showing}

-- what the copies show begins with all that any reader and the publisher have seen
abbrev pub ShowsToReaders : Prefix → List (Option Prefix) → Type 0
ShowsToReaders x views = (seat : ℕ) (l : Prefix) → get_elem? views seat ≡ some (Some l) → IsPrefixOf l x

-- what a step reports: all that is shown after it has been seen, and that begins with what had been seen before
abbrev pub Sees : Option Prefix → Prefix → Prefix → Option Prefix → Type 0
Sees v x y w = (w ≡ Some y) × IfSome v (λ l. IsPrefixOf l y)

-- a reader or the publisher that has seen no more than the front
abbrev pub Knows : Option Prefix → Prefix → Type 0
Knows v front = IfSome v (λ l. IsPrefixOf l front)

-- a look at what is shown: it begins with the front from before, and is legal
pub record Looked (o : Opening) (v : Option Prefix) (front shown : Prefix) : Type 0 where
  pub knows : Knows v shown
  pub begins : IsPrefixOf front shown
  pub named : shown.opening ≡ o
  pub legal : LegalIn o shown.list

-- what a swap leaves: the copies show the prefix after their posted entries, or all is as it was
abbrev pub Swapped : {E : Type 0} → Result (Unit {0}) E → TwoCopies → TwoCopies → Type 0
Swapped result before after = MatchResult result (λ _. after ≡ showing (prefix_after before.shown before.posted)) (λ _. after ≡ before)
