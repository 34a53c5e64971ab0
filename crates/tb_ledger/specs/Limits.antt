-- Limits and sums: what holds of every account and of every ledger, whatever the requests. No contract of this crate uses it.
use Rattle.std.specs.Prelude.{◌≡◌, ℕ, true, ◌==◌, ◌+◌, ◌≤◌, map, sum_by, if◌then◌else◌}
use Rattle.tb_records.specs.declared.records.Account.{Account}
use Rattle.tb_records.specs.declared.limits.TheConstants.{AMOUNT_MAX}
use Rattle.tb_ledger.specs.Books.{Books, debits_limited, credits_limited, as_it_stands}

-- an account as it is now: its sums fit, debits_must_not_exceed_credits and credits_must_not_exceed_debits hold
pub record KeepsLimits (a : Account) : Type 0 where
  pub debits_fit : a.debits_pending + a.debits_posted ≤ AMOUNT_MAX
  pub credits_fit : a.credits_pending + a.credits_posted ≤ AMOUNT_MAX
  pub debits_within : debits_limited a ≡ true → a.debits_pending + a.debits_posted ≤ a.credits_posted
  pub credits_within : credits_limited a ≡ true → a.credits_pending + a.credits_posted ≤ a.debits_posted

-- a sum over the accounts of a ledger, as they are now
abbrev pub in_ledger : Books → ℕ → (Account → ℕ) → ℕ
in_ledger B ledger part = sum_by (λ a. if a.ledger == ledger then part a else 0) (map (as_it_stands B) B.accounts)

-- in a ledger the debits equal the credits
pub record Balances (B : Books) (ledger : ℕ) : Type 0 where
  pub posted : in_ledger B ledger (λ a. a.debits_posted) ≡ in_ledger B ledger (λ a. a.credits_posted)
  pub pending : in_ledger B ledger (λ a. a.debits_pending) ≡ in_ledger B ledger (λ a. a.credits_pending)
