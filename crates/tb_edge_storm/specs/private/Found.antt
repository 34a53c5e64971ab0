-- What is found after a history.
use Rattle.std.specs.Prelude.{ℕ, ◌≡◌, ◌+◌, ◌*◌, ◌≤◌, List, [], ◌∷◌, length}
use Rattle.tb_ledger.specs.Books.{found_accounts, found_transfers}
use Rattle.tb_machine.specs.declared.entries.Entry.{Entry}
use Rattle.tb_published.specs.Openings.{Opening, LegalIn, after_in}
use Rattle.tb_edge_storm.specs.declared.totals.Totals.{Totals}
use Rattle.tb_edge_storm.specs.Calls.{IsPlayed}
use Rattle.tb_edge_storm.specs.Served.{IsServed}
use Rattle.tb_edge_storm.specs.Totals.{ids_of, first_credits}

-- how many transfers with these ids there are after a history
abbrev pub transfers_after : Opening → List Entry → List ℕ → ℕ
transfers_after o h ids = length (found_transfers (after_in o h).books ids)

-- how many of them there are, after its legal history of `entries` entries
abbrev pub CountsTransfers : Opening → List Entry → List ℕ → ℕ → ℕ → Type 0
CountsTransfers o h ids entries transfers = LegalIn o h × (entries ≡ length h) × (transfers ≡ transfers_after o h ids)

-- what account 1000 was credited with after a history
abbrev pub credited_after : Opening → List Entry → ℕ
credited_after o h = first_credits (found_accounts (after_in o h).books (1000 ∷ []))

-- how many replies the clients saw
abbrev pub replies_of : ℕ → ℕ → ℕ
replies_of clients transfers = clients * (transfers + 1) + 2

-- totals of a history
pub record Totaled (o : Opening) (clients transfers : ℕ) (history : List Entry) (totals : Totals) : Type 0 where
  pub legal : LegalIn o history
  pub commits : totals.commits ≡ length history
  pub found : totals.transfers ≡ transfers_after o history (ids_of clients transfers)
  pub credited : totals.credited ≡ credited_after o history

-- they are those of the history of a storm, with an entry for each reply, or more
pub record TotaledIn (o : Opening) (clients transfers : ℕ) (totals : Totals) : Type 0 where
  pub history : List Entry
  pub whole : Totaled o clients transfers history totals
  pub enough : replies_of clients transfers ≤ totals.commits
  pub served : IsServed o clients transfers history
  pub played : IsPlayed o clients transfers history
