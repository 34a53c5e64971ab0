-- One side of the accounts: what each step of a ledger leaves of its sums.
use Rattle.tb_ledger.proofs.Common.{◌≡◌, ℕ, ◌+◌, ◌≤◌, Bool, true, false, not, ◌&&◌, if◌then◌else◌, eqb, leb, ◌==◌, List, find, sum_by, Option, Some, None, option_map, refl, sym, ap, subst, ◌∙◌, arith, nat_tests, and_parts, and_from, sum_by-le-sum_by, Account, Transfer, put, Each, sum_by-put, find-put_other, find-put_none, found_key, each-put, each-map, each-find, Posted, Voided, Books, pending, posts, voids, resolves, resolver, expires_at, is_due, state_by, state_of, is_open, holds, moves, account_at, transfer_at, pending_on, posted_on, account_key, transfer_key, ledger_at, SideKept, AMOUNT_MAX}
use Rattle.tb_ledger.proofs.Sums.{sum_by-less, sum_by-none}

-- open is: no resolver, and not due
pub open_parts : (o : Option Transfer) (due : Bool) → is_open (state_by o due) ≡ true → (o ≡ None) × (due ≡ false)
open_parts None true is = absurd (cc)
open_parts None false is = (refl, refl)
open_parts (Some r) due is = elim (posts r) as (λ b. is_open (if b then Posted else Voided) ≡ true → (Some r ≡ None) × (due ≡ false)) [ true ↦ λ test. absurd (cc) | false ↦ λ test. absurd (cc) ] is

-- from its parts
pub open_from : (o : Option Transfer) (due : Bool) → o ≡ None → due ≡ false → is_open (state_by o due) ≡ true
open_from o due none later = rw (none, later) refl

pub not_true : (b : Bool) → (b ≡ true → ⊥) → b ≡ false
not_true true never = absurd (never refl)
not_true false never = refl

-- a share of what held before is no less
pub share_le : (s h k : Bool) (n : ℕ) → (h ≡ true → k ≡ true) → (if s && h then n else 0) ≤ (if s && k then n else 0)
share_le false h k n leads = omega arith
share_le true false k n leads = omega arith
share_le true true k n leads = let is : k ≡ true = leads refl in rw is (omega arith)

pub share_none : (s h : Bool) (n : ℕ) → h ≡ false → (if s && h then n else 0) ≡ 0
share_none true h n is = rw is refl
share_none false h n is = refl

pub share_whole : (s h : Bool) (n : ℕ) → h ≡ true → (if s && h then n else 0) ≡ (if s then n else 0)
share_whole true h n is = rw is refl
share_whole false h n is = refl

pub share_most : (s h : Bool) (n : ℕ) → (if s && h then n else 0) ≤ (if s then n else 0)
share_most true true n = omega arith
share_most true false n = omega arith
share_most false h n = omega arith

-- a transfer is pending or it moves, not both
gives : (s p v h : Bool) (n : ℕ) → (if s && (p && h) then n else 0) + (if s && (not p && v) then n else 0) ≤ (if s then n else 0)
gives false p v h n = omega arith
gives true true v true n = omega arith
gives true true v false n = omega arith
gives true false true h n = omega arith
gives true false false h n = omega arith

-- what is due stays due
pub due_later : (early late : ℕ) (p : Transfer) → early ≤ late → is_due late p ≡ false → is_due early p ≡ false
due_later early late p le is = by (not (p.timeout == 0)) (leb (expires_at p) early) refl (leb (expires_at p) late) refl is
  where
    by : (dated e : Bool) → leb (expires_at p) early ≡ e → (l : Bool) → leb (expires_at p) late ≡ l → (dated && l) ≡ false → (dated && e) ≡ false
    by false e e_is l l_is test = refl
    by true false e_is l l_is test = refl
    by true true e_is true l_is test = absurd (cc)
    by true true e_is false l_is test = absurd (grind (arith, nat_tests))

-- what holds later held before
pub held_before : (B : Books) (T : ℕ) → B.time ≤ T → (t : Transfer) → holds (record B { time = T }) t ≡ true → holds B t ≡ true
held_before B T le t is =
    let parts = and_parts (pending t) (is_open (state_of (record B { time = T }) t)) is in
    let open_then = open_parts (resolver B t) (is_due T t) parts.1 in
    and_from (pending t) (is_open (state_of B t)) parts.0 (open_from (resolver B t) (is_due B.time t) open_then.0 (due_later B.time T t le open_then.1))

-- a record more makes no other hold
pub held_without : (B : Books) (r t : Transfer) → holds (record B { transfers = put transfer_key r B.transfers }) t ≡ true → holds B t ≡ true
held_without B r t is =
    let parts = and_parts (pending t) (is_open (state_of (record B { transfers = put transfer_key r B.transfers }) t)) is in
    let open_then = open_parts (resolver (record B { transfers = put transfer_key r B.transfers }) t) (is_due B.time t) parts.1 in
    and_from (pending t) (is_open (state_of B t)) parts.0 (open_from (resolver B t) (is_due B.time t) (find-put_none transfer_key (λ q. resolves q && (q.pending_id == t.id)) r B.transfers open_then.0).1 open_then.1)

module _ (side other : Transfer → ℕ) (limited : Account → Bool) where
  -- the time moves on
  pub kept_later : (B : Books) (T : ℕ) → B.time ≤ T → SideKept side other limited B → SideKept side other limited (record B { time = T })
  kept_later B T le kept = record {
    named = kept.named;
    fit = λ id. omega (arith, kept.fit id, fewer id);
    within = λ id a is limits. omega (arith, kept.within id a is limits, fewer id);
  }
    where
      fewer : (id : ℕ) → pending_on side (record B { time = T }) id ≤ pending_on side B id
      fewer id = sum_by-le-sum_by (λ t. if (side t == id) && holds (record B { time = T }) t then t.amount else 0) (λ t. if (side t == id) && holds B t then t.amount else 0) B.transfers (λ t. share_le (eqb (side t) id) (holds (record B { time = T }) t) (holds B t) t.amount (held_before B T le t))

  -- of an account that isn't there both sums are 0
  pub unnamed : (accounts : List Account) (q : Transfer → Bool) (id : ℕ) (ts : List Transfer) → find (λ a. a.id == id) accounts ≡ None → Each (λ t. ledger_at accounts (side t) ≡ Some t.ledger) ts → sum_by (λ t. if (side t == id) && q t then t.amount else 0) ts ≡ 0
  unnamed accounts q id ts none named = sum_by-none (λ t. if (side t == id) && q t then t.amount else 0) ts (each-map (λ t. ledger_at accounts (side t) ≡ Some t.ledger) (λ t. (if (side t == id) && q t then t.amount else 0) ≡ 0) ts zero_of named)
    where
      absent : ledger_at accounts id ≡ None
      absent = ap (option_map (λ a. a.ledger)) none

      zero_of : (t : Transfer) → ledger_at accounts (side t) ≡ Some t.ledger → (if (side t == id) && q t then t.amount else 0) ≡ 0
      zero_of t is = by (eqb (side t) id) refl
        where
          by : (b : Bool) → eqb (side t) id ≡ b → (if b && q t then t.amount else 0) ≡ 0
          by true e = let same : side t ≡ id = grind (arith, nat_tests) in let there : ledger_at accounts id ≡ Some t.ledger = subst (λ k. ledger_at accounts k ≡ Some t.ledger) same is in absurd (cc)
          by false e = refl

  -- an account is recorded
  pub kept_account : (B : Books) (a : Account) → account_at B a.id ≡ None → SideKept side other limited B → SideKept side other limited (record B { accounts = put account_key a B.accounts })
  kept_account B a none kept = record {
    named = each-map (λ t. ledger_at B.accounts (side t) ≡ Some t.ledger) (λ t. ledger_at (put account_key a B.accounts) (side t) ≡ Some t.ledger) B.transfers still kept.named;
    fit = kept.fit;
    within = λ id x is limits. by id x is limits (eqb a.id id) refl;
  }
    where
      still : (t : Transfer) → ledger_at B.accounts (side t) ≡ Some t.ledger → ledger_at (put account_key a B.accounts) (side t) ≡ Some t.ledger
      still t is = by_id (eqb a.id (side t)) refl
        where
          by_id : (b : Bool) → eqb a.id (side t) ≡ b → ledger_at (put account_key a B.accounts) (side t) ≡ Some t.ledger
          by_id true e =
              let same : a.id ≡ side t = grind (arith, nat_tests) in
              let gone : ledger_at B.accounts (side t) ≡ None = ap (option_map (λ a. a.ledger)) (subst (λ k. find (λ y. y.id == k) B.accounts ≡ None) same none) in
              absurd (cc)
          by_id false e = ap (option_map (λ a. a.ledger)) (find-put_other account_key (λ y. y.id == side t) a B.accounts e) ∙ is

      by : (id : ℕ) (x : Account) → account_at (record B { accounts = put account_key a B.accounts }) id ≡ Some x → limited x ≡ true → (b : Bool) → eqb a.id id ≡ b → pending_on side B id + posted_on side B id ≤ posted_on other B id
      by id x is limits true e =
          let same : a.id ≡ id = grind (arith, nat_tests) in
          let absent : find (λ y. y.id == id) B.accounts ≡ None = subst (λ k. find (λ y. y.id == k) B.accounts ≡ None) same none in
          omega (arith, unnamed B.accounts (holds B) id B.transfers absent kept.named, unnamed B.accounts moves id B.transfers absent kept.named)
      by id x is limits false e = kept.within id x (sym (find-put_other account_key (λ y. y.id == id) a B.accounts e) ∙ is) limits

  -- a transfer is recorded
  module _ (B : Books) (r : Transfer) where
    abbrev with_it : Books
    with_it = record B { transfers = put transfer_key r B.transfers }

    -- the posted sum grows by the amount if the transfer moves it
    pub posted_more : (id : ℕ) → posted_on side with_it id ≡ (if (side r == id) && moves r then r.amount else 0) + posted_on side B id
    posted_more id = sum_by-put transfer_key (λ t. if (side t == id) && moves t then t.amount else 0) r B.transfers

    pending_total : (id : ℕ) → pending_on side with_it id ≡ (if (side r == id) && holds with_it r then r.amount else 0) + sum_by (λ t. if (side t == id) && holds with_it t then t.amount else 0) B.transfers
    pending_total id = sum_by-put transfer_key (λ t. if (side t == id) && holds with_it t then t.amount else 0) r B.transfers

    fewer_held : (id : ℕ) → sum_by (λ t. if (side t == id) && holds with_it t then t.amount else 0) B.transfers ≤ pending_on side B id
    fewer_held id = sum_by-le-sum_by (λ t. if (side t == id) && holds with_it t then t.amount else 0) (λ t. if (side t == id) && holds B t then t.amount else 0) B.transfers (λ t. share_le (eqb (side t) id) (holds with_it t) (holds B t) t.amount (held_without B r t))

    -- both sums together grow by its amount at most
    pub both_more : (id : ℕ) → pending_on side with_it id + posted_on side with_it id ≤ pending_on side B id + posted_on side B id + (if side r == id then r.amount else 0)
    both_more id = omega (arith, pending_total id, posted_more id, fewer_held id, gives (eqb (side r) id) (pending r) (not (voids r)) (is_open (state_of with_it r)) r.amount)

    -- a post or void: the whole amount that it resolves leaves
    module _ (p : Transfer) (named_by : transfer_at B r.pending_id ≡ Some p) (held : holds B p ≡ true) (resolving : resolves r ≡ true) (not_pending : pending r ≡ false) where
      pub no_more : holds with_it p ≡ false
      no_more = not_true (holds with_it p) (λ still.
          let parts = and_parts (pending p) (is_open (state_of with_it p)) still in
          let none = (open_parts (resolver with_it p) (is_due B.time p) parts.1).0 in
          let fails = (find-put_none transfer_key (λ q. resolves q && (q.pending_id == p.id)) r B.transfers none).0 in
          let its : p.id ≡ r.pending_id = found_key transfer_key r.pending_id p B.transfers named_by in
          let is : eqb r.pending_id p.id ≡ true = grind (arith, nat_tests) in
          let passes : (resolves r && (r.pending_id == p.id)) ≡ true = and_from (resolves r) (eqb r.pending_id p.id) resolving is in
          (cc))

      pub pending_less : (id : ℕ) → pending_on side with_it id + (if side p == id then p.amount else 0) ≤ pending_on side B id
      pending_less id =
          let itself : holds with_it r ≡ false = subst (λ b. (b && is_open (state_of with_it r)) ≡ false) (sym not_pending) refl in
          let none : (if (side r == id) && holds with_it r then r.amount else 0) ≡ 0 = share_none (eqb (side r) id) (holds with_it r) r.amount itself in
          let gone : (if (side p == id) && holds with_it p then p.amount else 0) ≡ 0 = share_none (eqb (side p) id) (holds with_it p) p.amount no_more in
          let whole : (if (side p == id) && holds B p then p.amount else 0) ≡ (if side p == id then p.amount else 0) = share_whole (eqb (side p) id) (holds B p) p.amount held in
          let less = sum_by-less (λ t. if (side t == id) && holds with_it t then t.amount else 0) (λ t. if (side t == id) && holds B t then t.amount else 0) (if side p == id then p.amount else 0) (λ t. t.id == r.pending_id) p B.transfers (λ t. share_le (eqb (side t) id) (holds with_it t) (holds B t) t.amount (held_without B r t)) (omega (arith, gone, whole)) named_by in
          omega (arith, pending_total id, none, less)

    posted_other : (id : ℕ) → posted_on other B id ≤ posted_on other with_it id
    posted_other id = omega (arith, sum_by-put transfer_key (λ t. if (other t == id) && moves t then t.amount else 0) r B.transfers)

    at_most : (s : Bool) (n m : ℕ) → n ≤ m → (if s then n else 0) ≤ (if s then m else 0)
    at_most true n m le = le
    at_most false n m le = omega arith

    -- both sums if it fits
    pub kept_added : ledger_at B.accounts (side r) ≡ Some r.ledger
        → pending_on side B (side r) + posted_on side B (side r) + r.amount ≤ AMOUNT_MAX
        → ((a : Account) → account_at B (side r) ≡ Some a → limited a ≡ true → pending_on side B (side r) + posted_on side B (side r) + r.amount ≤ posted_on other B (side r))
        → SideKept side other limited B → SideKept side other limited with_it
    kept_added is_named room limit kept = record {
      named = each-put transfer_key (λ t. ledger_at B.accounts (side t) ≡ Some t.ledger) r B.transfers is_named kept.named;
      fit = λ id. fits id (eqb (side r) id) refl;
      within = λ id a is limits. holds_within id a is limits (eqb (side r) id) refl;
    }
      where
        fits : (id : ℕ) → (b : Bool) → eqb (side r) id ≡ b → pending_on side with_it id + posted_on side with_it id ≤ AMOUNT_MAX
        fits id true e =
            let same : side r ≡ id = grind (arith, nat_tests) in
            let one : (if side r == id then r.amount else 0) ≡ r.amount = rw e refl in
            let here : pending_on side B id + posted_on side B id + r.amount ≤ AMOUNT_MAX = subst (λ k. pending_on side B k + posted_on side B k + r.amount ≤ AMOUNT_MAX) same room in
            omega (arith, both_more id, one, here)
        fits id false e =
            let none : (if side r == id then r.amount else 0) ≡ 0 = rw e refl in
            omega (arith, both_more id, none, kept.fit id)

        holds_within : (id : ℕ) (a : Account) → account_at B id ≡ Some a → limited a ≡ true → (b : Bool) → eqb (side r) id ≡ b → pending_on side with_it id + posted_on side with_it id ≤ posted_on other with_it id
        holds_within id a is limits true e =
            let same : side r ≡ id = grind (arith, nat_tests) in
            let one : (if side r == id then r.amount else 0) ≡ r.amount = rw e refl in
            let here : pending_on side B id + posted_on side B id + r.amount ≤ posted_on other B id = subst (λ k. (x : Account) → account_at B k ≡ Some x → limited x ≡ true → pending_on side B k + posted_on side B k + r.amount ≤ posted_on other B k) same limit a is limits in
            omega (arith, both_more id, one, here, posted_other id)
        holds_within id a is limits false e =
            let none : (if side r == id then r.amount else 0) ≡ 0 = rw e refl in
            omega (arith, both_more id, none, kept.within id a is limits, posted_other id)

    pub kept_resolved : (p : Transfer) → transfer_at B r.pending_id ≡ Some p → holds B p ≡ true → resolves r ≡ true → pending r ≡ false → side r ≡ side p → r.ledger ≡ p.ledger → r.amount ≤ p.amount → SideKept side other limited B → SideKept side other limited with_it
    kept_resolved p named_by held resolving not_pending same ledger_same le kept = record {
      named = each-put transfer_key (λ t. ledger_at B.accounts (side t) ≡ Some t.ledger) r B.transfers there kept.named;
      fit = λ id. omega (arith, kept.fit id, both_less id);
      within = λ id a is limits. omega (arith, kept.within id a is limits, both_less id, posted_other id);
    }
      where
        there : ledger_at B.accounts (side r) ≡ Some r.ledger
        there = ap (ledger_at B.accounts) same ∙ each-find (λ t. ledger_at B.accounts (side t) ≡ Some t.ledger) (λ t. t.id == r.pending_id) p B.transfers kept.named named_by ∙ ap (λ n. Some n) (sym ledger_same)

        both_less : (id : ℕ) → pending_on side with_it id + posted_on side with_it id ≤ pending_on side B id + posted_on side B id
        both_less id =
            let moved : (if (side r == id) && moves r then r.amount else 0) ≤ (if side r == id then r.amount else 0) = share_most (eqb (side r) id) (moves r) r.amount in
            let lesser : (if side r == id then r.amount else 0) ≤ (if side r == id then p.amount else 0) = at_most (eqb (side r) id) r.amount p.amount le in
            let sides : (if side r == id then p.amount else 0) ≡ (if side p == id then p.amount else 0) = ap (λ k. if k == id then p.amount else 0) same in
            omega (arith, posted_more id, pending_less p named_by held resolving not_pending id, moved, lesser, sides)
