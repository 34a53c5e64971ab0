-- How a function returns a verdict, and what an accepted post or void found in the books.
use Rattle.std.specs.Prelude.{◌≡◌, ◌≢◌, ℕ, true, false, ◌&&◌, ◌≤◌, Some, Result, Ok, Err}
use Rattle.tb_records.specs.declared.records.Transfer.{Transfer}
use Rattle.tb_ledger.specs.Books.{Books, pending, posts, voids, holds, transfer_at}

-- the verdict is the code: an accepted event has 0, and a refused one the code of its refusal, which is not 0
abbrev pub Judges : {X R : Type 0} → (R → ℕ) → Result X R → ℕ → Type 0
Judges code_of (Ok x) code = code ≡ 0
Judges code_of (Err refusal) code = (code ≡ code_of refusal) × (code_of refusal ≢ 0)

-- f is the event, filled, and p the pending transfer that it resolves
pub record FoundPending (B : Books) (f : Transfer) : Type 0 where
  pub p : Transfer
  pub named : transfer_at B f.pending_id ≡ Some p
  pub held : holds B p ≡ true
  pub not_pending : pending f ≡ false
  pub not_both : (posts f && voids f) ≡ false
  pub debit_same : f.debit_account_id ≡ p.debit_account_id
  pub credit_same : f.credit_account_id ≡ p.credit_account_id
  pub ledger_same : f.ledger ≡ p.ledger
  pub at_most : f.amount ≤ p.amount
