-- What a reader does with a sector.
use Rattle.std.specs.Prelude.{◌≡◌, ℕ, Bool, true, false, not, ◌&&◌, Option, Some, None}
use Rattle.tb_sectors.specs.Stamped.{Stamped, Taken, follows, with_sector, Verdict, Ends, Damaged}

-- a sector that follows is taken, if no latch is closed before it, and another one is not
pub record TakesSector (next : Bool) (s : Stamped) (before after : Taken) : Type 0 where
  pub follows : next ≡ (not before.closed && follows before s)
  pub taken : next ≡ true → after ≡ with_sector before s
  pub other : next ≡ false → after ≡ before

-- sectors are taken as far as they follow: the journal ends after them, or it is damaged at the sector of this number
abbrev pub IsReadOn : Option ℕ → Verdict → Taken → Type 0
IsReadOn None verdict after = verdict ≡ Ends after
IsReadOn (Some at) verdict after = verdict ≡ Damaged at
