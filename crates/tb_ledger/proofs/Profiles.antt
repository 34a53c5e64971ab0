-- The profile that books go by stays through a batch.
use Rattle.tb_ledger.proofs.Common.{◌≡◌, ℕ, true, false, List, Option, Some, None, if◌then◌else◌, refl, ◌∙◌, option_map, Account, Transfer, put, Books, profile_by, profile_of, is_final, account_events, transfer_events, batch_after}
use Rattle.tb_ledger.proofs.BatchLaws.{batch_kept}

profile_put : (id : ℕ) (failed : Option (List ℕ)) → profile_by (option_map (put (λ id. id) id) failed) ≡ profile_by failed
profile_put id None = refl
profile_put id (Some ids) = refl

profile_refused : (B : Books) (t : Transfer) (code : ℕ) → profile_of (transfer_events.refused B t code) ≡ profile_of B
profile_refused B t code = elim (is_final code) as (λ b. profile_of (if b then record B { failed = option_map (put (λ id. id) t.id) B.failed } else B) ≡ profile_of B) [ true ↦ profile_put t.id B.failed | false ↦ refl ]

pub profile_accounts : (B : Books) (events : List Account) (T : ℕ) → profile_of (batch_after account_events B events T).books ≡ profile_of B
profile_accounts B events T = batch_kept account_events (λ C. profile_of C ≡ profile_of B) (λ C e time kept accepted. kept) (λ C e code kept. kept) B events T refl

pub profile_transfers : (B : Books) (events : List Transfer) (T : ℕ) → profile_of (batch_after transfer_events B events T).books ≡ profile_of B
profile_transfers B events T = batch_kept transfer_events (λ C. profile_of C ≡ profile_of B) (λ C e time kept accepted. kept) (λ C t code kept. profile_refused C t code ∙ kept) B events T refl
