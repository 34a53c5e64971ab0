-- The index of expiries when a transfer is added and when one no longer holds.
use Rattle.tb_ledger.proofs.Common.{◌≡◌, ◌≢◌, ℕ, ◌+◌, ◌-◌, ◌<◌, ◌≤◌, Bool, true, false, cond, not, ◌&&◌, eqb, ltb, leb, ◌==◌, if◌then◌else◌, List, [], ◌∷◌, length, find, Some, None, refl, sym, ap, subst, ◌∙◌, arith, nat_tests, put, replaced, taken_out, Each, Rising, each-map, each-both, each-find, each-put, each-replaced, each-all, none-found, find-put_here, find-put_other, find-replaced_other, taken_out-put, rising-put, rising-taken_out, each-taken_out, State, TransferRow, Timeout, pending, is_open, expires_at, timeout_key, AreTimeouts, freed, with_timeout, without_timeout, transfer_row_key, times_out, lapses, settled, timeout_of, listed, unlisted, IsListed, IsTimeout, IsIndex, CanList, Stored, AMOUNT_MAX}

-- records taken out and put back

put-front : {X : Type 0} (key : X → ℕ) (x : X) (xs : List X) → Each (λ y. key x < key y) xs → put key x xs ≡ x ∷ xs
put-front key x [] above = refl
put-front key x (y ∷ ys) above = let e : ltb (key y) (key x) ≡ false = let more : key x < key y = above.0 in grind (arith, nat_tests) in rw e refl

put-taken_out : {X : Type 0} (key : X → ℕ) (x : X) (xs : List X) → Rising key xs → find (λ y. key y == key x) xs ≡ Some x → put key x (taken_out key (key x) xs) ≡ xs
put-taken_out key x [] rising found = absurd (cc)
put-taken_out key x (y ∷ ys) rising found = by (eqb (key y) (key x)) refl found (put-taken_out key x ys rising.1)
  where
    by : (b : Bool) → eqb (key y) (key x) ≡ b → cond b (Some y) (find (λ y. key y == key x) ys) ≡ Some x → (find (λ y. key y == key x) ys ≡ Some x → put key x (taken_out key (key x) ys) ≡ ys) → put key x (cond b ys (y ∷ taken_out key (key x) ys)) ≡ y ∷ ys
    by true e is later = let same : y ≡ x = cc in put-front key x ys (subst (λ z. Each (λ w. key z < key w) ys) same rising.0) ∙ ap (λ z. z ∷ ys) (sym same)
    by false e is later =
        let below : key y < key x = each-find (λ z. key y < key z) (λ z. key z == key x) x ys rising.0 is in
        let less : ltb (key y) (key x) ≡ true = grind (arith, nat_tests) in
        rw less (ap (λ zs. y ∷ zs) (later is))

find-taken_out_other : {X : Type 0} (key : X → ℕ) (p : X → Bool) (id : ℕ) (xs : List X) → ((y : X) → key y ≡ id → p y ≡ false) → find p (taken_out key id xs) ≡ find p xs
find-taken_out_other key p id [] fails = refl
find-taken_out_other key p id (y ∷ ys) fails = by (eqb (key y) id) refl (find-taken_out_other key p id ys fails)
  where
    by : (b : Bool) → eqb (key y) id ≡ b → find p (taken_out key id ys) ≡ find p ys → find p (cond b ys (y ∷ taken_out key id ys)) ≡ cond (p y) (Some y) (find p ys)
    by true e later = let same : key y ≡ id = grind (arith, nat_tests) in rw (fails y same) refl
    by false e later = ap (λ o. cond (p y) (Some y) o) later

-- of the others their key differs
each-taken_out_other : {X : Type 0} (key : X → ℕ) (P Q : X → Type 0) (id : ℕ) (xs : List X) → Rising key xs → ((y : X) → key y ≢ id → P y → Q y) → Each P xs → Each Q (taken_out key id xs)
each-taken_out_other key P Q id [] rising others each = tt
each-taken_out_other key P Q id (y ∷ ys) rising others each = by (eqb (key y) id) refl (each-taken_out_other key P Q id ys rising.1 others each.1)
  where
    by : (b : Bool) → eqb (key y) id ≡ b → Each Q (taken_out key id ys) → Each Q (cond b ys (y ∷ taken_out key id ys))
    by true e later =
        let same : key y ≡ id = grind (arith, nat_tests) in
        each-both (λ z. key y < key z) P Q ys (λ z above is. let other : key z ≢ id = omega arith in others z other is) rising.0 each.1
    by false e later = let other : key y ≢ id = grind (arith, nat_tests) in (others y other each.0, later)

gone : {X : Type 0} (key : X → ℕ) (id : ℕ) (xs : List X) → Rising key xs → find (λ y. key y == id) (taken_out key id xs) ≡ None
gone key id xs rising =
    none-found (λ y. key y == id) (taken_out key id xs)
    (each-taken_out_other key (λ y. key y ≡ key y) (λ y. eqb (key y) id ≡ false) id xs rising (λ y other _. grind (arith, nat_tests)) (each-all (λ y. key y ≡ key y) xs (λ y. refl)))

pub length-taken_out : {X : Type 0} (key : X → ℕ) (id : ℕ) (x : X) (xs : List X) → find (λ y. key y == id) xs ≡ Some x → length (taken_out key id xs) < length xs
length-taken_out key id x [] found = absurd (cc)
length-taken_out key id x (y ∷ ys) found = by (eqb (key y) id) found (length-taken_out key id x ys)
  where
    by : (b : Bool) → cond b (Some y) (find (λ y. key y == id) ys) ≡ Some x → (find (λ y. key y == id) ys ≡ Some x → length (taken_out key id ys) < length ys) → length (cond b ys (y ∷ taken_out key id ys)) < length (y ∷ ys)
    by true is later = omega arith
    by false is later = omega (arith, later is)

-- a timeout listed, and taken out again

self_key : (d : Timeout) → eqb (timeout_key d) (timeout_key d) ≡ true
self_key d = grind (arith, nat_tests)

pub undone_listed : (t : TransferRow) (ts : Stored Timeout) → (times_out t ≡ true → CanList t ts) → unlisted t (listed t ts) ≡ ts
undone_listed t ts can = by (times_out t) can
  where
    by : (b : Bool) → (b ≡ true → CanList t ts) → (if b then without_timeout (timeout_of t) (if b then with_timeout (timeout_of t) ts else ts) else (if b then with_timeout (timeout_of t) ts else ts)) ≡ ts
    by false can = refl
    by true can =
        let d = timeout_of t in
        let it = can refl in
        let back : taken_out timeout_key (timeout_key d) (put timeout_key d ts.items) ≡ ts.items = taken_out-put timeout_key d ts.items it.absent in
        let here : find (λ e. timeout_key e == timeout_key d) (put timeout_key d ts.items) ≡ Some d = find-put_here timeout_key (λ e. timeout_key e == timeout_key d) d ts.items (self_key d) it.absent in
        let one : freed (find (λ e. timeout_key e == timeout_key d) (put timeout_key d ts.items)) ≡ 1 = rw here refl in
        let spare : ts.spare - 1 + freed (find (λ e. timeout_key e == timeout_key d) (put timeout_key d ts.items)) ≡ ts.spare = let some : 0 < ts.spare = it.capacity in omega (arith, one) in
        λ i. record { items = back i; spare = spare i }

pub undone_unlisted : (t : TransferRow) (ts : Stored Timeout) → (times_out t ≡ true → AreTimeouts ts.items) → (times_out t ≡ true → IsListed ts.items t) → listed t (unlisted t ts) ≡ ts
undone_unlisted t ts ordered is_listed = by (times_out t) ordered is_listed
  where
    by : (b : Bool) → (b ≡ true → AreTimeouts ts.items) → (b ≡ true → IsListed ts.items t) → (if b then with_timeout (timeout_of t) (if b then without_timeout (timeout_of t) ts else ts) else (if b then without_timeout (timeout_of t) ts else ts)) ≡ ts
    by false ordered is = refl
    by true ordered is =
        let d = timeout_of t in
        let it = is refl in
        let back : put timeout_key d (taken_out timeout_key (timeout_key d) ts.items) ≡ ts.items = put-taken_out timeout_key d ts.items (ordered refl).rising it.there in
        let one : freed (find (λ e. timeout_key e == timeout_key d) ts.items) ≡ 1 = rw it.there refl in
        let spare : ts.spare + freed (find (λ e. timeout_key e == timeout_key d) ts.items) - 1 ≡ ts.spare = omega (arith, one) in
        λ i. record { items = back i; spare = spare i }

-- it can come back
pub can_relist : (t : TransferRow) (ts : Stored Timeout) → (times_out t ≡ true → AreTimeouts ts.items) → (times_out t ≡ true → IsListed ts.items t) → times_out t ≡ true → CanList t (unlisted t ts)
can_relist t ts ordered is_listed is =
    let it = is_listed is in
    let one : freed (find (λ e. timeout_key e == timeout_key (timeout_of t)) ts.items) ≡ 1 = rw it.there refl in
    let can : CanList t (without_timeout (timeout_of t) ts) = record {
      in_range = it.in_range;
      capacity = omega (arith, one);
      absent = gone timeout_key (timeout_key (timeout_of t)) ts.items (ordered is).rising;
    } in rw is can

-- the order of timeouts, with one more or one less
ordered_with : (d : Timeout) (ts : Stored Timeout) → d.id ≤ AMOUNT_MAX → find (λ e. timeout_key e == timeout_key d) ts.items ≡ None → AreTimeouts ts.items → AreTimeouts (with_timeout d ts).items
ordered_with d ts fits absent ordered = record {
  rising = rising-put timeout_key d ts.items absent ordered.rising;
  fit = each-put timeout_key (λ e. e.id ≤ AMOUNT_MAX) d ts.items fits ordered.fit;
}

ordered_without : (d : Timeout) (ts : Stored Timeout) → AreTimeouts ts.items → AreTimeouts (without_timeout d ts).items
ordered_without d ts ordered = record {
  rising = rising-taken_out timeout_key (timeout_key d) ts.items ordered.rising;
  fit = each-taken_out timeout_key (λ d. d.id ≤ AMOUNT_MAX) (timeout_key d) ts.items ordered.fit;
}

-- of a new transfer no timeout is there yet
module _ (transfers : List TransferRow) (ts : Stored Timeout) (index : IsIndex transfers ts.items) where
  module _ (t : TransferRow) (fresh : find (λ r. r.recorded.id == t.recorded.id) transfers ≡ None) where
    other_id : (d : Timeout) → IsTimeout transfers d → d.id ≢ t.recorded.id
    other_id d has same = let found : find (λ r. r.recorded.id == t.recorded.id) transfers ≡ Some has.t = subst (λ k. find (λ r. r.recorded.id == k) transfers ≡ Some has.t) same has.there in absurd (cc)

    pub not_listed_yet : t.recorded.id ≤ AMOUNT_MAX → find (λ d. timeout_key d == timeout_key (timeout_of t)) ts.items ≡ None
    not_listed_yet fits =
        none-found (λ d. timeout_key d == timeout_key (timeout_of t)) ts.items
        (each-both (IsTimeout transfers) (λ d. d.id ≤ AMOUNT_MAX) (λ d. eqb (timeout_key d) (timeout_key (timeout_of t)) ≡ false) ts.items
        (λ d has d_fits. let other = other_id d has in let differs : timeout_key d ≢ timeout_key (timeout_of t) = λ same. other (omega arith) in grind (arith, nat_tests)) index.all_timed index.ordered.fit)

    others_timed : (d : Timeout) → IsTimeout transfers d → IsTimeout (put transfer_row_key t transfers) d
    others_timed d has =
        let other = other_id d has in
        let fails : eqb t.recorded.id d.id ≡ false = let differs : t.recorded.id ≢ d.id = λ same. other (sym same) in grind (arith, nat_tests) in record {
          t = has.t;
          there = find-put_other transfer_row_key (λ r. r.recorded.id == d.id) t transfers fails ∙ has.there;
          is_timed = has.is_timed;
          same = has.same;
        }

    pub index_added : (times_out t ≡ true → t.recorded.id ≤ AMOUNT_MAX) → (times_out t ≡ true → CanList t ts) → IsIndex (put transfer_row_key t transfers) (listed t ts).items
    index_added fits can = by (times_out t) refl
      where
        by : (b : Bool) → times_out t ≡ b → IsIndex (put transfer_row_key t transfers) (if b then with_timeout (timeout_of t) ts else ts).items
        by false not_timed = record {
          all_listed = each-put transfer_row_key (λ r. times_out r ≡ true → IsListed ts.items r) t transfers (λ is. absurd (cc)) index.all_listed;
          all_timed = each-map (IsTimeout transfers) (IsTimeout (put transfer_row_key t transfers)) ts.items others_timed index.all_timed;
          ordered = index.ordered;
        }
        by true is_timed =
            let d = timeout_of t in
            let it = can is_timed in record {
              all_listed = each-put transfer_row_key (λ r. times_out r ≡ true → IsListed (put timeout_key d ts.items) r) t transfers
                  (λ is. record { in_range = it.in_range; there = find-put_here timeout_key (λ e. timeout_key e == timeout_key d) d ts.items (self_key d) it.absent })
                  (each-map (λ r. times_out r ≡ true → IsListed ts.items r) (λ r. times_out r ≡ true → IsListed (put timeout_key d ts.items) r) transfers (λ r was is. stays r (was is) it.absent) index.all_listed);
              all_timed = each-put timeout_key (IsTimeout (put transfer_row_key t transfers)) d ts.items
                  (record { t = t; there = find-put_here transfer_row_key (λ r. r.recorded.id == t.recorded.id) t transfers same_id fresh; is_timed = is_timed; same = refl })
                  (each-map (IsTimeout transfers) (IsTimeout (put transfer_row_key t transfers)) ts.items others_timed index.all_timed);
              ordered = ordered_with d ts (fits is_timed) it.absent index.ordered;
            }
          where
            same_id : eqb t.recorded.id t.recorded.id ≡ true
            same_id = grind (arith, nat_tests)

            stays : (r : TransferRow) → IsListed ts.items r → find (λ e. timeout_key e == timeout_key (timeout_of t)) ts.items ≡ None → IsListed (put timeout_key (timeout_of t) ts.items) r
            stays r was absent = which (eqb (timeout_key (timeout_of t)) (timeout_key (timeout_of r))) refl
              where
                which : (b : Bool) → eqb (timeout_key (timeout_of t)) (timeout_key (timeout_of r)) ≡ b → IsListed (put timeout_key (timeout_of t) ts.items) r
                which true e =
                    let same : timeout_key (timeout_of t) ≡ timeout_key (timeout_of r) = grind (arith, nat_tests) in
                    let none : find (λ e. timeout_key e == timeout_key (timeout_of r)) ts.items ≡ None = subst (λ k. find (λ e. timeout_key e == k) ts.items ≡ None) same absent in
                    let there = was.there in
                    absurd (cc)
                which false e = record { in_range = was.in_range; there = find-put_other timeout_key (λ e. timeout_key e == timeout_key (timeout_of r)) (timeout_of t) ts.items e ∙ was.there }

  -- a transfer that holds no more
  module _ (p : TransferRow) (s : State) (found : find (λ r. r.recorded.id == p.recorded.id) transfers ≡ Some p) (over : is_open s ≡ false) (rising : Rising transfer_row_key transfers) where
    abbrev left : List TransferRow
    left = replaced transfer_row_key (settled s p) transfers

    not_timed : times_out (settled s p) ≡ true → ⊥
    not_timed is = let closed : times_out (settled s p) ≡ false = by (pending p.recorded) (is_open s) over in absurd (cc)
      where
        by : (b o : Bool) → o ≡ false → ((b && o) && not (p.recorded.timeout == 0)) ≡ false
        by true o e = rw e refl
        by false o e = refl

    -- the timeout that has its id is its own
    its_own : (d : Timeout) → IsTimeout transfers d → d.id ≡ p.recorded.id → (timeout_of p ≡ d) × (times_out p ≡ true)
    its_own d has same =
        let there : find (λ r. r.recorded.id == p.recorded.id) transfers ≡ Some has.t = subst (λ k. find (λ r. r.recorded.id == k) transfers ≡ Some has.t) same has.there in
        let it : has.t ≡ p = cc in
        (ap timeout_of (sym it) ∙ has.same, ap times_out (sym it) ∙ has.is_timed)

    others_stay : (d : Timeout) → d.id ≢ p.recorded.id → IsTimeout transfers d → IsTimeout left d
    others_stay d other has = record {
      t = has.t;
      there = find-replaced_other transfer_row_key (λ r. r.recorded.id == d.id) (settled s p) transfers (λ y same. let differs : transfer_row_key y ≢ d.id = λ e. other (sym e ∙ same) in grind (arith, nat_tests)) ∙ has.there;
      is_timed = has.is_timed;
      same = has.same;
    }

    pub index_closed : IsIndex left (unlisted p ts).items
    index_closed = by (times_out p) refl
      where
        by : (b : Bool) → times_out p ≡ b → IsIndex left (if b then without_timeout (timeout_of p) ts else ts).items
        by false untimed = record {
          all_listed = each-replaced transfer_row_key (λ r. times_out r ≡ true → IsListed ts.items r) (λ r. times_out r ≡ true → IsListed ts.items r) (settled s p) transfers rising (λ is. absurd (not_timed is)) (λ y differs was. was) index.all_listed;
          all_timed = each-map (IsTimeout transfers) (IsTimeout left) ts.items (λ d has. others_stay d (λ same. let dates = (its_own d has same).1 in absurd (cc)) has) index.all_timed;
          ordered = index.ordered;
        }
        by true dates =
            let d = timeout_of p in
            let its : IsListed ts.items p = each-find (λ r. times_out r ≡ true → IsListed ts.items r) (λ r. r.recorded.id == p.recorded.id) p transfers index.all_listed found dates in record {
              all_listed = each-replaced transfer_row_key (λ r. times_out r ≡ true → IsListed ts.items r) (λ r. times_out r ≡ true → IsListed (taken_out timeout_key (timeout_key d) ts.items) r) (settled s p) transfers rising (λ is. absurd (not_timed is))
                  (λ y differs was is. let w = was is in record {
                    in_range = w.in_range;
                    there = find-taken_out_other timeout_key (λ e. timeout_key e == timeout_key (timeout_of y)) (timeout_key d) ts.items (fails y differs w its) ∙ w.there;
                  }) index.all_listed;
              all_timed = each-taken_out_other timeout_key (IsTimeout transfers) (IsTimeout left) (timeout_key d) ts.items index.ordered.rising
                  (λ e other has. others_stay e (λ same. other (ap timeout_key (sym (its_own e has same).0))) has) index.all_timed;
              ordered = ordered_without d ts index.ordered;
            }
          where
            fails : (y : TransferRow) → transfer_row_key y ≢ transfer_row_key p → IsListed ts.items y → IsListed ts.items p → (e : Timeout) → timeout_key e ≡ timeout_key (timeout_of p) → eqb (timeout_key e) (timeout_key (timeout_of y)) ≡ false
            fails y differs w its e at = which (eqb (timeout_key e) (timeout_key (timeout_of y))) refl
              where
                which : (b : Bool) → eqb (timeout_key e) (timeout_key (timeout_of y)) ≡ b → b ≡ false
                which false x = refl
                which true x =
                    let same : timeout_key (timeout_of p) ≡ timeout_key (timeout_of y) = grind (arith, nat_tests) in
                    let there : find (λ e. timeout_key e == timeout_key (timeout_of y)) ts.items ≡ Some (timeout_of p) = subst (λ k. find (λ e. timeout_key e == k) ts.items ≡ Some (timeout_of p)) same its.there in
                    let both : Some (timeout_of y) ≡ Some (timeout_of p) = sym w.there ∙ there in
                    let ids : timeout_of y ≡ timeout_of p = cc in
                    absurd (differs (ap (λ d. d.id) ids))

  -- if no timeout is due, no transfer lapses
  pub none_lapses : (time : ℕ) → Each (λ d. time < d.at) ts.items → Each (λ r. lapses time r ≡ false) transfers
  none_lapses time later = each-map (λ r. times_out r ≡ true → IsListed ts.items r) (λ r. lapses time r ≡ false) transfers waits index.all_listed
    where
      waits : (r : TransferRow) → (times_out r ≡ true → IsListed ts.items r) → lapses time r ≡ false
      waits r was = by (pending r.recorded && is_open r.state) refl (eqb r.recorded.timeout 0) refl
        where
          by : (h : Bool) → (pending r.recorded && is_open r.state) ≡ h → (z : Bool) → eqb r.recorded.timeout 0 ≡ z → (h && (not z && leb (expires_at r.recorded) time)) ≡ false
          by false e z f = refl
          by true e true f = refl
          by true e false f =
              let is : IsListed ts.items r = was (rw (e, f) refl) in
              let waiting : time < expires_at r.recorded = each-find (λ d. time < d.at) (λ d. timeout_key d == timeout_key (timeout_of r)) (timeout_of r) ts.items later is.there in
              grind (arith, nat_tests)

-- a timeout that is due is that of a transfer that lapses
pub due_lapses : (time : ℕ) (t : TransferRow) (d : Timeout) → times_out t ≡ true → timeout_of t ≡ d → d.at ≤ time → lapses time t ≡ true
due_lapses time t d is same due = by (pending t.recorded && is_open t.state) (eqb t.recorded.timeout 0) is
  where
    at : expires_at t.recorded ≤ time
    at = subst (λ e. e.at ≤ time) (sym same) due

    by : (h z : Bool) → (h && not z) ≡ true → (h && (not z && leb (expires_at t.recorded) time)) ≡ true
    by true false e = let less = at in grind (arith, nat_tests)
    by true true e = absurd (cc)
    by false z e = absurd (cc)

-- the transfer that is found by a timeout's id is the one that it is of
pub of_due : (transfers : List TransferRow) (d : Timeout) (p : TransferRow) → IsTimeout transfers d → find (λ t. t.recorded.id == d.id) transfers ≡ Some p → (times_out p ≡ true) × (timeout_of p ≡ d)
of_due transfers d p has found =
    let it : has.t ≡ p = let both : Some has.t ≡ Some p = sym has.there ∙ found in cc in
    (ap times_out (sym it) ∙ has.is_timed, ap timeout_of (sym it) ∙ has.same)

pub unlisted_due : (p : TransferRow) (d : Timeout) (ts : Stored Timeout) → times_out p ≡ true → timeout_of p ≡ d → unlisted p ts ≡ without_timeout d ts
unlisted_due p d ts dates same = rw dates (ap (λ e. without_timeout e ts) same)
