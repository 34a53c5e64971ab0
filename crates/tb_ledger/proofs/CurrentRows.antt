-- A row is the account, or the transfer, as it is now in the books.
use Rattle.tb_ledger.proofs.Common.{◌≡◌, ℕ, ◌+◌, Bool, true, false, ◌&&◌, ◌||◌, eqb, ◌==◌, List, [], ◌∷◌, map, find, sum_by, if◌then◌else◌, Some, option_map, refl, sym, ap, ◌∙◌, arith, list_any, sum_by-cons, Transfer, Each, sum_by-same, sum_by-through, find-map, found_key, each-map, each-find, AccountRow, TransferRow, Books, closed, pending, moves, is_open, holds, state_of, closing_debit, closing_credit, stands_closed, as_it_stands, account_at, account_now, debit, credit, pending_on, posted_on, account_row_key, books_of, row_closed, row_now, row_holds, bit, pending_share, posted_share, closing_share, HasSums, HasState, CanTake}
use Rattle.tb_ledger.proofs.FoundPairs.{FoundPair}

-- a bit that counts how many there are says whether there is one
any_of : {X : Type 0} (q : X → Bool) (xs : List X) (b : Bool) → bit b ≡ sum_by (λ x. bit (q x)) xs → b ≡ list_any q xs
any_of q [] true is = absurd (omega arith)
any_of q [] false is = refl
any_of q (x ∷ xs) b is = by (q x) (is ∙ sum_by-cons (λ x. bit (q x)) x xs) (any_of q xs b)
  where
    counted : (b : Bool) (n : ℕ) → bit b ≡ 1 + n → b ≡ true
    counted true n e = refl
    counted false n e = absurd (omega arith)

    by : (c : Bool) → bit b ≡ bit c + sum_by (λ x. bit (q x)) xs → (bit b ≡ sum_by (λ x. bit (q x)) xs → b ≡ list_any q xs) → b ≡ (c || list_any q xs)
    by true e later = counted b (sum_by (λ x. bit (q x)) xs) e
    by false e later = later (omega arith)

any_through : {X Y : Type 0} (q : X → Bool) (r : Y → Bool) (g : X → Y) (xs : List X) → Each (λ x. q x ≡ r (g x)) xs → list_any q xs ≡ list_any r (map g xs)
any_through q r g [] same = refl
any_through q r g (x ∷ xs) same = rw (same.0, any_through q r g xs same.1) refl

neither : (a b c : Bool) → (a || b || c) ≡ false → (b ≡ false) × (c ≡ false)
neither true b c e = absurd (cc)
neither false true c e = absurd (cc)
neither false false c e = (refl, e)

module _ (accounts : List AccountRow) (transfers : List TransferRow) (failed : List ℕ) (keeps_failed : Bool) (time : ℕ) where
  abbrev B : Books
  B = books_of accounts transfers failed keeps_failed time

  -- a pending transfer's row holds if the books say so
  pub holds_stand : (t : TransferRow) → HasState transfers time t → row_holds t ≡ holds B t.recorded
  holds_stand t has = elim (pending t.recorded) as (λ b. (b ≡ true → t.state ≡ state_of B t.recorded) → (b && is_open t.state) ≡ (b && is_open (state_of B t.recorded))) [ true ↦ λ is. ap is_open (is refl) | false ↦ λ is. refl ] has.state_is

  module _ (states : Each (HasState transfers time) transfers) where
    all_hold : Each (λ t. row_holds t ≡ holds B t.recorded) transfers
    all_hold = each-map (HasState transfers time) (λ t. row_holds t ≡ holds B t.recorded) transfers holds_stand states

    pub pending_stands : (side : Transfer → ℕ) (id : ℕ) → sum_by (pending_share side id) transfers ≡ pending_on side B id
    pending_stands side id =
        sum_by-same (pending_share side id) (λ t. if (side t.recorded == id) && holds B t.recorded then t.recorded.amount else 0) transfers
        (each-map (λ t. row_holds t ≡ holds B t.recorded) (λ t. pending_share side id t ≡ (if (side t.recorded == id) && holds B t.recorded then t.recorded.amount else 0)) transfers (λ t e. ap (λ h. if (side t.recorded == id) && h then t.recorded.amount else 0) e) all_hold)
        ∙ sym (sum_by-through (λ t. if (side t == id) && holds B t then t.amount else 0) (λ t. t.recorded) transfers)

    pub posted_stands : (side : Transfer → ℕ) (id : ℕ) → sum_by (posted_share side id) transfers ≡ posted_on side B id
    posted_stands side id = sym (sum_by-through (λ t. if (side t == id) && moves t then t.amount else 0) (λ t. t.recorded) transfers)

    pub held_closed_stands : (side : Transfer → ℕ) (closes : Transfer → Bool) (id : ℕ) (b : Bool) → bit b ≡ sum_by (closing_share side closes id) transfers → b ≡ list_any (λ t. holds B t && closes t && (side t == id)) (map (λ t. t.recorded) transfers)
    held_closed_stands side closes id b is =
        any_of (λ t. (side t.recorded == id) && (row_holds t && closes t.recorded)) transfers b is
        ∙ any_through (λ t. (side t.recorded == id) && (row_holds t && closes t.recorded)) (λ t. holds B t && closes t && (side t == id)) (λ t. t.recorded) transfers
        (each-map (λ t. row_holds t ≡ holds B t.recorded) (λ t. ((side t.recorded == id) && (row_holds t && closes t.recorded)) ≡ (holds B t.recorded && closes t.recorded && (side t.recorded == id))) transfers
        (λ t e. turned (side t.recorded == id) (row_holds t) (holds B t.recorded) (closes t.recorded) e) all_hold)
      where
        turned : (e h g c : Bool) → h ≡ g → (e && (h && c)) ≡ (g && c && e)
        turned true true g c same = rw (sym same) (swapped c)
          where
            swapped : (c : Bool) → c ≡ (c && true)
            swapped true = refl
            swapped false = refl
        turned true false g c same = rw (sym same) refl
        turned false h true true same = refl
        turned false h true false same = refl
        turned false h false c same = refl

    module _ (id : ℕ) (a : AccountRow) (has : HasSums transfers a) (found : find (λ a. a.created.id == id) accounts ≡ Some a) where
      pub account_there : account_at B id ≡ Some a.created
      account_there = find-map (λ a. eqb a.id id) (λ a. a.created) accounts ∙ ap (option_map (λ a. a.created)) found

      pub closed_stands : row_closed a ≡ stands_closed B a.created
      closed_stands = rw (held_closed_stands debit closing_debit a.created.id a.debits.held_closed has.debits.held_closed, held_closed_stands credit closing_credit a.created.id a.credits.held_closed has.credits.held_closed) refl

      -- the account as it is now
      pub row_stands : account_now B id ≡ Some (row_now a)
      row_stands = ap (option_map (as_it_stands B)) account_there ∙ ap (λ a. Some a) (sym same)
        where
          same : row_now a ≡ as_it_stands B a.created
          same = rw (closed_stands, has.debits.pending ∙ pending_stands debit a.created.id, has.debits.posted ∙ posted_stands debit a.created.id, has.credits.pending ∙ pending_stands credit a.created.id, has.credits.posted ∙ posted_stands credit a.created.id) refl

    -- an accepted transfer's accounts can take it
    module _ (t : Transfer) (moves_t : FoundPair B t) (sums : Each (HasSums transfers) accounts) where
      pub takes_debit : (a : AccountRow) → find (λ a. a.created.id == t.debit_account_id) accounts ≡ Some a → CanTake closing_debit t a.debits
      takes_debit a found =
          let has = each-find (HasSums transfers) (λ a. a.created.id == t.debit_account_id) a accounts sums found in
          let same = found_key account_row_key t.debit_account_id a accounts found in
          let held = has.debits.pending ∙ pending_stands debit a.created.id ∙ ap (pending_on debit B) same in
          let posted = has.debits.posted ∙ posted_stands debit a.created.id ∙ ap (posted_on debit B) same in
          let it : moves_t.d ≡ a.created = let e : Some moves_t.d ≡ Some a.created = sym moves_t.debit_is ∙ account_there t.debit_account_id a has found in cc in
          let open_still = closed_stands t.debit_account_id a has found ∙ ap (stands_closed B) (sym it) ∙ moves_t.debit_open in
          (omega (arith, held, posted, moves_t.debits_fit), λ _. (neither (closed a.created) a.debits.held_closed a.credits.held_closed open_still).0)

      pub takes_credit : (a : AccountRow) → find (λ a. a.created.id == t.credit_account_id) accounts ≡ Some a → CanTake closing_credit t a.credits
      takes_credit a found =
          let has = each-find (HasSums transfers) (λ a. a.created.id == t.credit_account_id) a accounts sums found in
          let same = found_key account_row_key t.credit_account_id a accounts found in
          let held = has.credits.pending ∙ pending_stands credit a.created.id ∙ ap (pending_on credit B) same in
          let posted = has.credits.posted ∙ posted_stands credit a.created.id ∙ ap (posted_on credit B) same in
          let it : moves_t.c ≡ a.created = let e : Some moves_t.c ≡ Some a.created = sym moves_t.credit_is ∙ account_there t.credit_account_id a has found in cc in
          let open_still = closed_stands t.credit_account_id a has found ∙ ap (stands_closed B) (sym it) ∙ moves_t.credit_open in
          (omega (arith, held, posted, moves_t.credits_fit), λ _. (neither (closed a.created) a.debits.held_closed a.credits.held_closed open_still).1)
