-- The sums of all accounts after a change on the debit side of one and on the credit side of one.
use Rattle.tb_ledger.proofs.Common.{◌≡◌, ◌≢◌, ℕ, ◌<◌, ◌≤◌, Bool, true, false, not, ◌&&◌, eqb, ◌==◌, List, [], ◌∷◌, find, Some, refl, sym, subst, ◌∙◌, arith, nat_tests, Transfer, put, replaced, changed, Each, Rising, each-changed, each-both, rising-changed, State, Side, AccountRow, TransferRow, pending, is_open, closing_debit, closing_credit, debit, credit, account_row_key, transfer_row_key, row_holds, HasSide, HasBoth, HasSums, gained, released, released_and_gained, settled, CanTake, on_debits, on_credits, accounts_gained, accounts_released, accounts_released_and_gained, new_transfer_row}
use Rattle.tb_ledger.proofs.RowSums.{released_here, released_other, held_enough, gained_here, gained_other}

-- each record is what is found by its key
pub each-found : {X : Type 0} (key : X → ℕ) (xs : List X) → Rising key xs → Each (λ y. find (λ z. key z == key y) xs ≡ Some y) xs
each-found key [] rising = tt
each-found key (x ∷ xs) rising =
    let e : eqb (key x) (key x) ≡ true = grind (arith, nat_tests) in (
      rw e refl,
      each-both (λ y. key x < key y) (λ y. find (λ z. key z == key y) xs ≡ Some y) (λ y. find (λ z. key z == key y) (x ∷ xs) ≡ Some y) xs
          (λ y above there. let e : eqb (key x) (key y) ≡ false = grind (arith, nat_tests) in rw e there) rising.0 (each-found key xs rising.1),
    )

module _ (before after : List TransferRow) (d c : ℕ) (on_d on_c : Side → Side) (D C : Side → Type 0)
    (here_d : (x : Side) → D x → HasSide debit closing_debit before d x → HasSide debit closing_debit after d (on_d x))
    (other_d : (k : ℕ) (x : Side) → d ≢ k → HasSide debit closing_debit before k x → HasSide debit closing_debit after k x)
    (here_c : (x : Side) → C x → HasSide credit closing_credit before c x → HasSide credit closing_credit after c (on_c x))
    (other_c : (k : ℕ) (x : Side) → c ≢ k → HasSide credit closing_credit before k x → HasSide credit closing_credit after k x) where
  Before : AccountRow → Type 0
  Before a = HasSums before a × (a.created.id ≡ d → D a.debits) × (a.created.id ≡ c → C a.credits)

  Between : AccountRow → Type 0
  Between a = HasBoth after before a × (a.created.id ≡ c → C a.credits)

  debit_here : (a : AccountRow) → account_row_key a ≡ d → Before a → Between (on_debits on_d a)
  unfolding Before Between
  debit_here a same has = (
    record {
      debits = subst (λ k. HasSide debit closing_debit after k (on_d a.debits)) (sym same) (here_d a.debits (has.1 same) (subst (λ k. HasSide debit closing_debit before k a.debits) same has.0.debits));
      credits = has.0.credits;
    },
    has.2,
  )

  debit_other : (a : AccountRow) → account_row_key a ≢ d → Before a → Between a
  unfolding Before Between
  debit_other a other has = (record { debits = other_d a.created.id a.debits (λ same. other (sym same)) has.0.debits; credits = has.0.credits }, has.2)

  credit_here : (a : AccountRow) → account_row_key a ≡ c → Between a → HasSums after (on_credits on_c a)
  unfolding Between
  credit_here a same has = record {
    debits = has.0.debits;
    credits = subst (λ k. HasSide credit closing_credit after k (on_c a.credits)) (sym same) (here_c a.credits (has.1 same) (subst (λ k. HasSide credit closing_credit before k a.credits) same has.0.credits));
  }

  credit_other : (a : AccountRow) → account_row_key a ≢ c → Between a → HasSums after a
  unfolding Between
  credit_other a other has = record { debits = has.0.debits; credits = other_c a.created.id a.credits (λ same. other (sym same)) has.0.credits }

  starts : (accounts : List AccountRow) → ((a : AccountRow) → find (λ a. a.created.id == d) accounts ≡ Some a → D a.debits) → ((a : AccountRow) → find (λ a. a.created.id == c) accounts ≡ Some a → C a.credits) → (a : AccountRow) → HasSums before a → find (λ b. account_row_key b == account_row_key a) accounts ≡ Some a → Before a
  unfolding Before
  starts accounts needs_d needs_c a has found =
      (has, λ same. needs_d a (subst (λ k. find (λ b. b.created.id == k) accounts ≡ Some a) same found), λ same. needs_c a (subst (λ k. find (λ b. b.created.id == k) accounts ≡ Some a) same found))

  pub sums_pair : (accounts : List AccountRow) → Rising account_row_key accounts → ((a : AccountRow) → find (λ a. a.created.id == d) accounts ≡ Some a → D a.debits) → ((a : AccountRow) → find (λ a. a.created.id == c) accounts ≡ Some a → C a.credits) → Each (HasSums before) accounts → Each (HasSums after) (changed account_row_key c (on_credits on_c) (changed account_row_key d (on_debits on_d) accounts))
  sums_pair accounts rising needs_d needs_c sums =
      let start = each-both (HasSums before) (λ y. find (λ z. account_row_key z == account_row_key y) accounts ≡ Some y) Before accounts (starts accounts needs_d needs_c) sums (each-found account_row_key accounts rising) in
      let between = each-changed account_row_key Before Between d (on_debits on_d) accounts rising debit_here debit_other start in
      each-changed account_row_key Between (HasSums after) c (on_credits on_c) (changed account_row_key d (on_debits on_d) accounts) (rising-changed account_row_key d (on_debits on_d) accounts (λ y. refl) rising) credit_here credit_other between

-- a transfer that is no post or void
pub sums_gained : (accounts : List AccountRow) (transfers : List TransferRow) (t : Transfer) → Rising account_row_key accounts
    → ((a : AccountRow) → find (λ a. a.created.id == t.debit_account_id) accounts ≡ Some a → CanTake closing_debit t a.debits)
    → ((a : AccountRow) → find (λ a. a.created.id == t.credit_account_id) accounts ≡ Some a → CanTake closing_credit t a.credits)
    → Each (HasSums transfers) accounts → Each (HasSums (put transfer_row_key (new_transfer_row t) transfers)) (accounts_gained t accounts)
sums_gained accounts transfers t rising takes_d takes_c =
    sums_pair transfers (put transfer_row_key (new_transfer_row t) transfers) t.debit_account_id t.credit_account_id (gained closing_debit t) (gained closing_credit t) (CanTake closing_debit t) (CanTake closing_credit t)
    (gained_here debit closing_debit transfers t) (gained_other debit closing_debit transfers t)
    (gained_here credit closing_credit transfers t) (gained_other credit closing_credit transfers t)
    accounts rising takes_d takes_c

-- a pending transfer that holds no more
pub sums_released : (accounts : List AccountRow) (transfers : List TransferRow) (p : TransferRow) (s : State) → Rising account_row_key accounts
    → find (λ q. transfer_row_key q == transfer_row_key p) transfers ≡ Some p → row_holds p ≡ true → is_open s ≡ false
    → Each (HasSums transfers) accounts → Each (HasSums (replaced transfer_row_key (settled s p) transfers)) (accounts_released p.recorded accounts)
sums_released accounts transfers p s rising found holds over =
    sums_pair transfers (replaced transfer_row_key (settled s p) transfers) p.recorded.debit_account_id p.recorded.credit_account_id (released closing_debit p.recorded) (released closing_credit p.recorded) (λ _. Unit {0}) (λ _. Unit {0})
    (λ x _. released_here debit closing_debit transfers p s found holds over x) (released_other debit closing_debit transfers p s found holds over)
    (λ x _. released_here credit closing_credit transfers p s found holds over x) (released_other credit closing_credit transfers p s found holds over)
    accounts rising (λ a _. tt) (λ a _. tt)

-- a side of which p leaves can hold what is posted of it
module _ (side : Transfer → ℕ) (closes : Transfer → Bool) (transfers : List TransferRow) (p : TransferRow) (r : Transfer) (s : State)
    (found : find (λ q. transfer_row_key q == transfer_row_key p) transfers ≡ Some p) (holds : row_holds p ≡ true) (over : is_open s ≡ false)
    (single : pending r ≡ false) (same : side r ≡ side p.recorded) (at_most : r.amount ≤ p.recorded.amount) where
  abbrev left : List TransferRow
  left = replaced transfer_row_key (settled s p) transfers

  pub takes_rest : (x : Side) → HasSide side closes transfers (side p.recorded) x → CanTake closes r (released closes p.recorded x)
  takes_rest x has =
      (omega (arith, held_enough side closes transfers p s found holds over x has, has.fit), free)
    where
      free : (pending r && closes r) ≡ true → (x.held_closed && not (closes p.recorded)) ≡ false
      free e = absurd (let never : (pending r && closes r) ≡ false = rw single refl in cc)

  pub resolved_here : (x : Side) → HasSide side closes transfers (side r) x → HasSide side closes (put transfer_row_key (new_transfer_row r) left) (side r) (released_and_gained closes p.recorded r x)
  resolved_here x has =
      let here = subst (λ k. HasSide side closes transfers k x) same has in
      let gone = subst (λ k. HasSide side closes left k (released closes p.recorded x)) (sym same) (released_here side closes transfers p s found holds over x here) in
      gained_here side closes left r (released closes p.recorded x) (takes_rest x here) gone

  pub resolved_other : (k : ℕ) (x : Side) → side r ≢ k → HasSide side closes transfers k x → HasSide side closes (put transfer_row_key (new_transfer_row r) left) k x
  resolved_other k x other has =
      gained_other side closes left r k x other (released_other side closes transfers p s found holds over k x (λ e. other (same ∙ e)) has)

-- a post or void
pub sums_resolved : (accounts : List AccountRow) (transfers : List TransferRow) (p : TransferRow) (r : Transfer) (s : State) → Rising account_row_key accounts
    → find (λ q. transfer_row_key q == transfer_row_key p) transfers ≡ Some p → row_holds p ≡ true → is_open s ≡ false
    → pending r ≡ false → r.debit_account_id ≡ p.recorded.debit_account_id → r.credit_account_id ≡ p.recorded.credit_account_id → r.amount ≤ p.recorded.amount
    → Each (HasSums transfers) accounts → Each (HasSums (put transfer_row_key (new_transfer_row r) (replaced transfer_row_key (settled s p) transfers))) (accounts_released_and_gained p.recorded r accounts)
sums_resolved accounts transfers p r s rising found holds over single same_d same_c at_most =
    sums_pair transfers (put transfer_row_key (new_transfer_row r) (replaced transfer_row_key (settled s p) transfers)) r.debit_account_id r.credit_account_id (released_and_gained closing_debit p.recorded r) (released_and_gained closing_credit p.recorded r) (λ _. Unit {0}) (λ _. Unit {0})
    (λ x _. resolved_here debit closing_debit transfers p r s found holds over single same_d at_most x) (resolved_other debit closing_debit transfers p r s found holds over single same_d at_most)
    (λ x _. resolved_here credit closing_credit transfers p r s found holds over single same_c at_most x) (resolved_other credit closing_credit transfers p r s found holds over single same_c at_most)
    accounts rising (λ a _. tt) (λ a _. tt)
