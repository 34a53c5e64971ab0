-- The states of pending transfers, as rows carry them, after a transfer is recorded.
use Rattle.tb_ledger.proofs.Common.{◌≡◌, ◌≢◌, ℕ, ◌+◌, ◌*◌, ◌<◌, Bool, true, false, cond, not, ◌&&◌, eqb, leb, ◌==◌, List, [], ◌∷◌, map, find, Option, Some, None, is_some, IsSome, refl, sym, ap, subst, ◌∙◌, arith, nat_tests, Transfer, put, replaced, Each, Rising, each-map, each-put, each-replaced, each-through, each-find, none-found, find-put_other, find-put_here, find-put_none, map-put, map-replaced, TransferRow, pending, resolves, is_open, is_due, state_by, state_of, transfer_key, transfer_row_key, row_holds, books_at, HasState, settled, new_transfer_row, state_given_by}
use Rattle.tb_ledger.proofs.RowSums.{both_hold}
use Rattle.tb_ledger.proofs.Sides.{open_parts}

-- what is there stays there

some_of : {X : Type 0} (o : Option X) → (o ≡ None → IsSome o) → IsSome o
some_of None none = none refl
some_of (Some x) none = refl

pub some-put : {X : Type 0} (key : X → ℕ) (q : X → Bool) (x : X) (xs : List X) → IsSome (find q xs) → IsSome (find q (put key x xs))
some-put key q x xs is = some_of _ (λ none. absurd (let gone = (find-put_none key q x xs none).1 in let b : is_some (find q xs) ≡ false = ap is_some gone in cc))

pub some-replaced : {X : Type 0} (key : X → ℕ) (x : X) (k : ℕ) (xs : List X) → IsSome (find (λ y. key y == k) xs) → IsSome (find (λ y. key y == k) (replaced key x xs))
some-replaced key x k [] is = is
some-replaced key x k (y ∷ ys) is = by (eqb (key y) (key x)) refl (eqb (key y) k) refl (some-replaced key x k ys) is
  where
    by : (b : Bool) → eqb (key y) (key x) ≡ b → (e : Bool) → eqb (key y) k ≡ e → (IsSome (find (λ y. key y == k) ys) → IsSome (find (λ y. key y == k) (replaced key x ys))) → IsSome (cond e (Some y) (find (λ y. key y == k) ys)) → IsSome (find (λ y. key y == k) (cond b (x ∷ ys) (y ∷ replaced key x ys)))
    by true same true has later is = let here : eqb (key x) k ≡ true = grind (arith, nat_tests) in rw here refl
    by true same false has later is = let other : eqb (key x) k ≡ false = grind (arith, nat_tests) in rw other is
    by false same true has later is = rw has refl
    by false same false has later is = rw has (later is)

-- the resolver of a transfer of the id
abbrev pub resolves_id : ℕ → Transfer → Bool
resolves_id id r = resolves r && (r.pending_id == id)

module _ (transfers : List TransferRow) (time : ℕ) where
  -- nothing resolves an id that isn't there
  pub unresolved : (id : ℕ) → Each (HasState transfers time) transfers → find (λ p. p.recorded.id == id) transfers ≡ None → find (resolves_id id) (map (λ t. t.recorded) transfers) ≡ None
  unresolved id states fresh = none-found (resolves_id id) (map (λ t. t.recorded) transfers) (each-through (λ r. resolves_id id r ≡ false) (λ t. t.recorded) transfers (each-map (HasState transfers time) (λ t. resolves_id id t.recorded ≡ false) transfers not_it states))
    where
      not_it : (t : TransferRow) → HasState transfers time t → resolves_id id t.recorded ≡ false
      not_it t has = by (resolves t.recorded) refl (eqb t.recorded.pending_id id) refl
        where
          by : (b : Bool) → resolves t.recorded ≡ b → (e : Bool) → eqb t.recorded.pending_id id ≡ e → (b && e) ≡ false
          by false r e is = refl
          by true r false is = refl
          by true r true is =
              let same : t.recorded.pending_id ≡ id = grind (arith, nat_tests) in
              let there = subst (λ k. IsSome (find (λ p. p.recorded.id == k) transfers)) same (has.named r) in
              absurd (let b : is_some (find (λ p. p.recorded.id == id) transfers) ≡ false = ap is_some fresh in cc)

  -- a pending transfer recorded now isn't due yet
  not_due : (t : Transfer) → time < t.timestamp + 1000000000 → is_due time t ≡ false
  not_due t stamped = by (eqb t.timeout 0) refl
    where
      by : (b : Bool) → eqb t.timeout 0 ≡ b → (not b && leb (t.timestamp + t.timeout * 1000000000) time) ≡ false
      by true e = refl
      by false e = let some : t.timeout ≢ 0 = grind (arith, nat_tests) in let more : time < t.timestamp + t.timeout * 1000000000 = omega arith in grind (arith, nat_tests)

  -- a transfer that is no post or void
  module _ (t : Transfer) (states : Each (HasState transfers time) transfers) (fresh : find (λ p. p.recorded.id == t.id) transfers ≡ None) (single : resolves t ≡ false) where
    abbrev with_t : List TransferRow
    with_t = put transfer_row_key (new_transfer_row t) transfers

    fails : (id : ℕ) → resolves_id id t ≡ false
    fails id = rw single refl

    same_resolver : (id : ℕ) → find (resolves_id id) (map (λ t. t.recorded) with_t) ≡ find (resolves_id id) (map (λ t. t.recorded) transfers)
    same_resolver id = ap (find (resolves_id id)) (map-put transfer_key (λ t. t.recorded) (new_transfer_row t) transfers) ∙ find-put_other transfer_key (resolves_id id) t (map (λ t. t.recorded) transfers) (fails id)

    old_row : (y : TransferRow) → HasState transfers time y → HasState with_t time y
    old_row y has = record {
      state_is = λ is. has.state_is is ∙ ap (λ o. state_by o (is_due time y.recorded)) (sym (same_resolver y.recorded.id));
      named = λ is. some-put transfer_row_key (λ p. p.recorded.id == y.recorded.pending_id) (new_transfer_row t) transfers (has.named is);
    }

    its_row : time < t.timestamp + 1000000000 → HasState with_t time (new_transfer_row t)
    its_row stamped = record {
      state_is = λ is. rw (same_resolver t.id ∙ unresolved t.id states fresh, not_due t stamped) refl;
      named = λ is. absurd (cc);
    }

    pub states_added : time < t.timestamp + 1000000000 → Each (HasState with_t time) with_t
    states_added stamped = each-put transfer_row_key (HasState with_t time) (new_transfer_row t) transfers (its_row stamped) (each-map (HasState transfers time) (HasState with_t time) transfers old_row states)

  -- a post or void r of p
  module _ (p : TransferRow) (r : Transfer) (states : Each (HasState transfers time) transfers) (found : find (λ q. transfer_row_key q == transfer_row_key p) transfers ≡ Some p) (holds : row_holds p ≡ true)
      (names : r.pending_id ≡ p.recorded.id) (is_resolver : resolves r ≡ true) where
    abbrev left : List TransferRow
    left = replaced transfer_row_key (settled (state_given_by r) p) transfers

    abbrev with_r : List TransferRow
    with_r = put transfer_row_key (new_transfer_row r) left

    abbrev records : List Transfer
    records = map (λ t. t.recorded) transfers

    recorded_all : map (λ t. t.recorded) with_r ≡ put transfer_key r records
    recorded_all = map-put transfer_key (λ t. t.recorded) (new_transfer_row r) left ∙ ap (put transfer_key r) (map-replaced transfer_row_key (λ t. t.recorded) (settled (state_given_by r) p) p transfers found refl)

    named_still : (k : ℕ) → IsSome (find (λ q. q.recorded.id == k) transfers) → IsSome (find (λ q. q.recorded.id == k) with_r)
    named_still k is = some-put transfer_row_key (λ q. q.recorded.id == k) (new_transfer_row r) left (some-replaced transfer_row_key (settled (state_given_by r) p) k transfers is)

    other_row : (y : TransferRow) → transfer_row_key y ≢ transfer_row_key p → HasState transfers time y → HasState with_r time y
    other_row y differs has =
        let no_match : eqb r.pending_id y.recorded.id ≡ false = let other : r.pending_id ≢ y.recorded.id = λ e. differs (sym e ∙ names) in grind (arith, nat_tests) in
        let fails : resolves_id y.recorded.id r ≡ false = rw (is_resolver, no_match) refl in
        let same : find (resolves_id y.recorded.id) (map (λ t. t.recorded) with_r) ≡ find (resolves_id y.recorded.id) records = ap (find (resolves_id y.recorded.id)) recorded_all ∙ find-put_other transfer_key (resolves_id y.recorded.id) r records fails in
        record {
          state_is = λ is. has.state_is is ∙ ap (λ o. state_by o (is_due time y.recorded)) (sym same);
          named = λ is. named_still y.recorded.pending_id (has.named is);
        }

    resolved_row : HasState with_r time (settled (state_given_by r) p)
    resolved_row =
        let has : HasState transfers time p = each-find (HasState transfers time) (λ q. transfer_row_key q == transfer_row_key p) p transfers states found in
        let parts = both_hold (pending p.recorded) (is_open p.state) holds in
        let was : is_open (state_of (books_at transfers time) p.recorded) ≡ true = subst (λ s. is_open s ≡ true) (has.state_is parts.0) parts.1 in
        let none = (open_parts (find (resolves_id p.recorded.id) records) (is_due time p.recorded) was).0 in
        let match : eqb r.pending_id p.recorded.id ≡ true = grind (arith, nat_tests) in
        let passes : resolves_id p.recorded.id r ≡ true = rw (is_resolver, match) refl in
        let now : find (resolves_id p.recorded.id) (map (λ t. t.recorded) with_r) ≡ Some r = ap (find (resolves_id p.recorded.id)) recorded_all ∙ find-put_here transfer_key (resolves_id p.recorded.id) r records passes none in
        record {
          state_is = λ is. rw now refl;
          named = λ is. named_still p.recorded.pending_id (has.named is);
        }

    resolver_row : pending r ≡ false → HasState with_r time (new_transfer_row r)
    resolver_row single = record {
      state_is = λ is. absurd (cc);
      named = λ is. named_still r.pending_id (subst (λ k. IsSome (find (λ q. q.recorded.id == k) transfers)) (sym names) (rw found refl));
    }

    pub states_resolved : Rising transfer_row_key transfers → pending r ≡ false → Each (HasState with_r time) with_r
    states_resolved rising single =
        each-put transfer_row_key (HasState with_r time) (new_transfer_row r) left (resolver_row single)
        (each-replaced transfer_row_key (HasState transfers time) (HasState with_r time) (settled (state_given_by r) p) transfers rising resolved_row other_row states)
