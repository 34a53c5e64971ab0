-- What the sums of an account mean: what counts in them, and for how long.
use Rattle.std.specs.Prelude.{◌≡◌, ◌≢◌, ◌↔◌, ℕ, ◌+◌, ◌<◌, true, ◌&&◌, ◌==◌, if◌then◌else◌, Some}
use Rattle.tb_records.specs.declared.records.Transfer.{Transfer}
use Rattle.tb_records.specs.Ordered.{put, Each}
use Rattle.tb_ledger.specs.Books.{Books, pending, posts, resolves, holds, expires_at, transfer_at}
use Rattle.tb_ledger.specs.Verdicts.{transfer_verdict, recorded_transfer}
use Rattle.tb_ledger.specs.Sound.{transfer_key, IdsRise}
use Rattle.tb_ledger.specs.Sides.{debit, credit, pending_on, posted_on}

-- a pending transfer that no post or void names, and whose timeout, if it has one, is still to come
pub record IsHeld (B : Books) (p : Transfer) : Type 0 where
  pub is_pending : pending p ≡ true
  pub unresolved : Each (λ r. resolves r ≡ true → r.pending_id ≢ p.id) B.transfers
  pub in_time : p.timeout ≢ 0 → B.time < expires_at p

-- exactly these count in the pending sums
abbrev pub HeldWhileOpen : Type 0
HeldWhileOpen = (B : Books) (p : Transfer) → (holds B p ≡ true) ↔ IsHeld B p

-- on one side of the accounts: the record f of a post or void of p removes p's whole amount from the pending sum, and that of a post adds its own
-- amount to the posted sum
pub record SettlesSide (side : Transfer → ℕ) (B : Books) (f p : Transfer) : Type 0 where
  pub pending_leaves : (id : ℕ) → pending_on side (record B { transfers = put transfer_key f B.transfers }) id + (if side p == id then p.amount else 0) ≡ pending_on side B id
  pub posted_comes : (id : ℕ) → posted_on side (record B { transfers = put transfer_key f B.transfers }) id ≡ posted_on side B id + (if (side p == id) && posts f then f.amount else 0)

-- the post or void t is accepted, and r is its record: the pending transfer that t names exists and holds, and r settles it on both sides
pub record SettlesNamed (B : Books) (t r : Transfer) : Type 0 where
  pub p : Transfer
  pub named : transfer_at B t.pending_id ≡ Some p
  pub held : holds B p ≡ true
  pub debits : SettlesSide debit B r p
  pub credits : SettlesSide credit B r p

-- every accepted post or void, as it is recorded
abbrev pub SettlesBoth : Type 0
SettlesBoth = (B : Books) (t : Transfer) (time : ℕ) → IdsRise B → resolves t ≡ true → transfer_verdict B t time ≡ 0 → SettlesNamed B t (recorded_transfer B t time)
