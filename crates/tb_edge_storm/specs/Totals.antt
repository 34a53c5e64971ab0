-- The ids of a storm's transfers, and what its totals are.
use Rattle.std.specs.Prelude.{ℕ, zero, suc, ◌≡◌, ◌+◌, ◌*◌, ◌≤◌, List, [], ◌∷◌, ◌++◌, length}
use Rattle.tb_records.specs.declared.records.Account.{Account}
use Rattle.tb_records.specs.declared.limits.Profile.TheVariants as profile
use Rattle.tb_records.specs.declared.limits.TheConstants.{CLIENTS_MAX}
use Rattle.tb_ledger.specs.Books.{found_accounts, found_transfers}
use Rattle.tb_machine.specs.declared.entries.Entry.{Entry}
use Rattle.tb_published.specs.Openings.{Opening, LegalIn, after_in}
use Rattle.tb_edge_storm.specs.declared.totals.Totals.{Totals}
use Rattle.tb_edge_storm.specs.Calls.{IsPlayed}
use Rattle.tb_edge_storm.specs.Served.{IsServed}

-- these ids, and those of a client's first k transfers
abbrev pub with_ids_of : List ℕ → ℕ → ℕ → List ℕ
with_ids_of ids client zero = ids
with_ids_of ids client (suc k) = with_ids_of ids client k ++ (client * 1000000 + (k + 1)) ∷ []

-- the ids of the `transfers` transfers of each client
abbrev pub ids_of : ℕ → ℕ → List ℕ
ids_of zero transfers = []
ids_of (suc client) transfers = with_ids_of (ids_of client transfers) (client + 1) transfers

-- what the first of these accounts was credited with; 0 if there is no account
abbrev pub first_credits : List Account → ℕ
first_credits [] = 0
first_credits (account ∷ accounts) = account.credits_posted

-- Totals of the history that the server of a storm made, in an opening by profile 1 for the largest number of clients. They are the number of its
-- entries, how many of the storm's transfers are found after it, and what account 1000 was credited with. The history holds each call of each client
-- once, in the entry that gave the reply which the client took, and nothing else; so it has an entry for each reply.
pub record AreTotals (clients transfers : ℕ) (totals : Totals) : Type 0 where
  pub opening : Opening
  pub profile_is : opening.profile ≡ profile.One
  pub clients_max_is : opening.clients_max ≡ CLIENTS_MAX
  pub history : List Entry
  pub legal : LegalIn opening history
  pub served : IsServed opening clients transfers history
  pub played : IsPlayed opening clients transfers history
  pub commits : totals.commits ≡ length history
  pub enough : clients * (transfers + 1) + 2 ≤ totals.commits
  pub found : totals.transfers ≡ length (found_transfers (after_in opening history).books (ids_of clients transfers))
  pub credited : totals.credited ≡ first_credits (found_accounts (after_in opening history).books (1000 ∷ []))
