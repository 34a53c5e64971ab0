-- In each ledger what is debited is credited: both are one sum over the ledger's transfers.
use Rattle.tb_ledger.proofs.Common.{◌≡◌, ℕ, ◌+◌, ◌<◌, Bool, true, false, ◌&&◌, cond, if◌then◌else◌, eqb, ◌==◌, List, [], ◌∷◌, find, sum_by, Some, option_map, refl, sym, ap, ◌∙◌, arith, nat_tests, sum_by-cons, Account, Transfer, Each, Rising, sum_by-through, each-map, Books, holds, moves, as_it_stands, debit, credit, account_key, ledger_at, Sound, Balances}
use Rattle.tb_ledger.proofs.Sums.{sum_by-none, sum_by-equal, sum_by-add}

-- the part of a transfer of the account k that an account of a ledger has, if q
abbrev pub part : ℕ → ℕ → Bool → ℕ → Account → ℕ
part ledger k q n a = if a.ledger == ledger then (if (k == a.id) && q then n else 0) else 0

part_other : (ledger k : ℕ) (q : Bool) (n : ℕ) (a : Account) → eqb k a.id ≡ false → part ledger k q n a ≡ 0
part_other ledger k q n a e = elim (eqb a.ledger ledger) as (λ b. (if b then (if (k == a.id) && q then n else 0) else 0) ≡ 0) [ true ↦ rw e refl | false ↦ refl ]

part_own : (ledger l k : ℕ) (q : Bool) (n : ℕ) (a : Account) → eqb k a.id ≡ true → a.ledger ≡ l → part ledger k q n a ≡ (if (l == ledger) && q then n else 0)
part_own ledger l k q n a e same = ap (λ m. if m == ledger then (if (k == a.id) && q then n else 0) else 0) same ∙ by (eqb l ledger)
  where
    by : (b : Bool) → (if b then (if (k == a.id) && q then n else 0) else 0) ≡ (if b && q then n else 0)
    by true = rw e refl
    by false = refl

-- a transfer counts at one account of its ledger
pub once : (ledger l k : ℕ) (q : Bool) (n : ℕ) (accounts : List Account) → Rising account_key accounts → ledger_at accounts k ≡ Some l → sum_by (part ledger k q n) accounts ≡ (if (l == ledger) && q then n else 0)
once ledger l k q n [] rising is = absurd (cc)
once ledger l k q n (a ∷ rest) rising is = by (eqb a.id k) refl (once ledger l k q n rest rising.1) is
  where
    above : (y : Account) → a.id < y.id → a.id ≡ k → part ledger k q n y ≡ 0
    above y more same = let other : eqb k y.id ≡ false = grind (arith, nat_tests) in part_other ledger k q n y other

    by : (b : Bool) → eqb a.id k ≡ b → (ledger_at rest k ≡ Some l → sum_by (part ledger k q n) rest ≡ (if (l == ledger) && q then n else 0)) → option_map (λ a. a.ledger) (cond b (Some a) (find (λ a. a.id == k) rest)) ≡ Some l → sum_by (part ledger k q n) (a ∷ rest) ≡ (if (l == ledger) && q then n else 0)
    by true e later there =
        let same : a.id ≡ k = grind (arith, nat_tests) in
        let its : a.ledger ≡ l = cc in
        let here : eqb k a.id ≡ true = grind (arith, nat_tests) in
        let own = part_own ledger l k q n a here its in
        let none = sum_by-none (part ledger k q n) rest (each-map (λ y. a.id < y.id) (λ y. part ledger k q n y ≡ 0) rest (λ y more. above y more same) rising.0) in
        omega (arith, sum_by-cons (part ledger k q n) a rest, own, none)
    by false e later there =
        let other : eqb k a.id ≡ false = grind (arith, nat_tests) in
        let none = part_other ledger k q n a other in
        omega (arith, sum_by-cons (part ledger k q n) a rest, none, later there)

-- a sum over a ledger's accounts of sums over transfers is one sum over its transfers
pub turned : (side : Transfer → ℕ) (q : Transfer → Bool) (ledger : ℕ) (accounts : List Account) (ts : List Transfer) → Rising account_key accounts → Each (λ t. ledger_at accounts (side t) ≡ Some t.ledger) ts
    → sum_by (λ a. if a.ledger == ledger then sum_by (λ t. if (side t == a.id) && q t then t.amount else 0) ts else 0) accounts ≡ sum_by (λ t. if (t.ledger == ledger) && q t then t.amount else 0) ts
turned side q ledger accounts [] rising named = sum_by-none (λ a. if a.ledger == ledger then 0 else 0) accounts (all accounts)
  where
    none : (b : Bool) (z : ℕ) → z ≡ 0 → (if b then z else 0) ≡ 0
    none true z is = is
    none false z is = refl

    all : (accounts : List Account) → Each (λ a. (if a.ledger == ledger then sum_by (λ t. if (side t == a.id) && q t then t.amount else 0) [] else 0) ≡ 0) accounts
    all [] = tt
    all (a ∷ rest) = (none (eqb a.ledger ledger) 0 refl, all rest)
turned side q ledger accounts (t ∷ ts) rising named =
    let later = turned side q ledger accounts ts rising named.1 in
    let here = once ledger t.ledger (side t) (q t) t.amount accounts rising named.0 in
    let both = sum_by-add (part ledger (side t) (q t) t.amount) (λ a. if a.ledger == ledger then sum_by (λ t. if (side t == a.id) && q t then t.amount else 0) ts else 0) accounts in
    let split = sum_by-equal (λ a. if a.ledger == ledger then sum_by (λ t. if (side t == a.id) && q t then t.amount else 0) (t ∷ ts) else 0) (λ a. part ledger (side t) (q t) t.amount a + (if a.ledger == ledger then sum_by (λ t. if (side t == a.id) && q t then t.amount else 0) ts else 0)) accounts (λ a. apart (eqb a.ledger ledger) a) in
    omega (arith, split, both, here, later, sum_by-cons (λ t. if (t.ledger == ledger) && q t then t.amount else 0) t ts)
  where
    apart : (b : Bool) (a : Account) → (if b then sum_by (λ t. if (side t == a.id) && q t then t.amount else 0) (t ∷ ts) else 0) ≡ (if b then (if (side t == a.id) && q t then t.amount else 0) else 0) + (if b then sum_by (λ t. if (side t == a.id) && q t then t.amount else 0) ts else 0)
    apart true a = sum_by-cons (λ t. if (side t == a.id) && q t then t.amount else 0) t ts
    apart false a = omega arith

pub ledgers_balance : (B : Books) (ledger : ℕ) → Sound B → Balances B ledger
ledgers_balance B ledger sound = record {
  posted = sum_by-through (λ a. if a.ledger == ledger then a.debits_posted else 0) (as_it_stands B) B.accounts
      ∙ turned debit moves ledger B.accounts B.transfers sound.rising sound.debits.named
      ∙ sym (turned credit moves ledger B.accounts B.transfers sound.rising sound.credits.named)
      ∙ sym (sum_by-through (λ a. if a.ledger == ledger then a.credits_posted else 0) (as_it_stands B) B.accounts);
  pending = sum_by-through (λ a. if a.ledger == ledger then a.debits_pending else 0) (as_it_stands B) B.accounts
      ∙ turned debit (holds B) ledger B.accounts B.transfers sound.rising sound.debits.named
      ∙ sym (turned credit (holds B) ledger B.accounts B.transfers sound.rising sound.credits.named)
      ∙ sym (sum_by-through (λ a. if a.ledger == ledger then a.credits_pending else 0) (as_it_stands B) B.accounts);
}
