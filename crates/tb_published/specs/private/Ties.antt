-- What a publisher keeps: its history, and how far the copies are behind it.
use Rattle.std.specs.Prelude.{◌≡◌, List, Some}
use mathlib.Core.List.{IsPrefix}
use Rattle.tb_machine.specs.declared.entries.Entry.{Entry}
use Rattle.tb_machine.specs.Histories.{State}
use Rattle.tb_published.specs.Openings.{Opening, LegalIn, after_in}
use Rattle.tb_published.specs.private.Prefixes.{Prefix}
use Rattle.tb_published.specs.private.PostedEntries.{TwoCopies, FollowsPrefix, prefix_after}

-- the history is legal, and the machine is what follows it; the posted entries that the copies have not taken in lead from what
-- they show to what was offered to them, which is a prefix of the history
pub record Ties (o : Opening) (history : List Entry) (machine : State) (offered : Prefix) (copies : TwoCopies) : Type 0 where
  pub legal : LegalIn o history
  pub machine_is : machine ≡ after_in o history
  pub named : offered.opening ≡ o
  pub offered_is : IsPrefix offered.list history
  pub seen_is : copies.seen ≡ Some copies.shown
  pub follows : FollowsPrefix copies.shown copies.posted
  pub leads : prefix_after copies.shown copies.posted ≡ offered
