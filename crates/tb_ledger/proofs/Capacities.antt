-- The capacity that events use, and what a refused event leaves.
use Rattle.tb_ledger.proofs.Common.{◌≡◌, ℕ, ◌+◌, ◌-◌, ◌≤◌, true, false, if◌then◌else◌, refl, sym, subst, ◌∙◌, arith, Rows, Work, Timeout, TransferRow, Capacity, capacity_of, Uses, AreRowsKept, times_out, timeout_of, listed, unlisted, Leaves, KeepsRecords, Stored, with_timeout, without_timeout}

pub uses_none : (n : ℕ) (c : Capacity) → Uses n c c
uses_none n c = record { accounts = omega arith; transfers = omega arith; timeouts = omega arith; failed = omega arith; keeps_failed = refl }

pub uses_more : (m n : ℕ) (a b : Capacity) → m ≤ n → Uses m a b → Uses n a b
uses_more m n a b less uses = record {
  accounts = omega (arith, less, uses.accounts);
  transfers = omega (arith, less, uses.transfers);
  timeouts = omega (arith, less, uses.timeouts);
  failed = omega (arith, less, uses.failed);
  keeps_failed = uses.keeps_failed;
}

pub uses_both : (m n : ℕ) (a b c : Capacity) → Uses m a b → Uses n b c → Uses (m + n) a c
uses_both m n a b c first then_more = record {
  accounts = omega (arith, first.accounts, then_more.accounts);
  transfers = omega (arith, first.transfers, then_more.transfers);
  timeouts = omega (arith, first.timeouts, then_more.timeouts);
  failed = omega (arith, first.failed, then_more.failed);
  keeps_failed = then_more.keeps_failed ∙ first.keeps_failed;
}

-- if there is capacity for n events, there is for k more after m of them
pub has_left : (Has : ℕ → Capacity → Type 0) → ((m n : ℕ) (before after : Capacity) → Has (m + n) before → Uses m before after → Has n after)
    → (m k n : ℕ) (before after : Capacity) → m + k ≤ n → Has n before → Uses m before after → Has k after
has_left Has leaves_rest m k n before after within has uses =
    let parts : n ≡ n - (m + k) + (m + k) = omega arith in
    leaves_rest m k before after (leaves_rest (n - (m + k)) (m + k) before before (subst (λ j. Has j before) parts has) (uses_none (n - (m + k)) before)) uses

-- timeouts with one more or one less
pub listed_spare : (row : TransferRow) (ts : Stored Timeout) → ts.spare ≤ 1 + (listed row ts).spare
listed_spare row ts = elim (times_out row) as (λ b. ts.spare ≤ 1 + (if b then with_timeout (timeout_of row) ts else ts).spare) [ true ↦ omega arith | false ↦ omega arith ]

pub unlisted_spare : (row : TransferRow) (ts : Stored Timeout) → ts.spare ≤ (unlisted row ts).spare
unlisted_spare row ts = elim (times_out row) as (λ b. ts.spare ≤ (if b then without_timeout (timeout_of row) ts else ts).spare) [ true ↦ omega arith | false ↦ omega arith ]

-- an expiry uses no capacity
pub uses_kept : {A : Type 0} (rows later : Rows A) → KeepsRecords rows later → Uses 0 (capacity_of rows) (capacity_of later)
uses_kept rows later keeps = record {
  accounts = omega (arith, keeps.accounts_capacity);
  transfers = omega (arith, keeps.transfers_capacity);
  timeouts = omega (arith, keeps.timeouts_capacity);
  failed = subst (λ failed. rows.failed.spare ≤ 0 + failed.spare) (sym keeps.failed) (omega arith);
  keeps_failed = keeps.keeps_failed;
}

-- an event that is refused leaves all as it is
pub leaves_still : {A : Type 0} (work later : Work A) → AreRowsKept work.rows → later ≡ work → Leaves work later
leaves_still work later kept same = subst (λ later. Leaves work later) (sym same) (record {
  kept = kept;
  grows = record {
    leads = λ noting. record { undone = refl; can_unwind = λ can. can };
    noting = refl;
    length = omega arith;
    capacity = refl;
  };
  failed = refl;
  time = refl;
  capacity = uses_none 1 (capacity_of work.rows);
  results = refl;
})
