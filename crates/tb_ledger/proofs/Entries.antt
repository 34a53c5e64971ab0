-- What changes a tree's pairs changes the rows that they are.
use Rattle.tb_ledger.proofs.Common.{AbsentIds, pairs_in, rows_in, KnowsAbsent, MayBeKey, put, rising-put, rising-taken_out, each-taken_out, own-agrees, own-inserted, own-removed, rows-inserted, rows-removed, insert_entry, remove_entry, ◌≡◌, ℕ, ◌+◌, ◌*◌, ◌<◌, ◌≤◌, Bool, true, false, cond, eqb, ltb, ◌==◌, List, [], ◌∷◌, length, map, find, is_some, Option, Some, None, IfSome, IfNone, ◌⊎◌, inl, inr, Result, Ok, Err, IfOk, IfErr, refl, sym, ap, subst, ◌∙◌, arith, nat_tests, Ordering, Less, Equal, Greater, nat_cmp, ordering_then, lookup, set_value, values_of, is_at, Mut, MutBor, Changed, ChangedTwo, replaced, taken_out, Each, Rising, KeepsKey, ChangedRow, KeepsKeys, ChangedRows, slice_get, Map, entries, get, Search, leaf, fork, entries_of, path_length, each-map, each-both, each-back, found_key, rising-replaced, Agrees, Own, found-row, rows-replaced, own-replaced, timeout_key, timeout_at, timeouts_of, AreTimeouts, Timeout, with_first, AMOUNT_MAX}
use Rattle.tb_ledger.proofs.AbsentKeys.{OfKeys, known-put, known-replaced}

set-absent : {V : Type 0} (test : ℕ → Bool) (v : V) (es : List (ℕ × V)) → lookup test es ≡ None → set_value test es v ≡ es
set-absent test v [] none = refl
set-absent test v (e ∷ es) none = by (test e.0) (set-absent test v es) none
  where
    by : (b : Bool) → (lookup test es ≡ None → set_value test es v ≡ es) → cond b (Some e.1) (lookup test es) ≡ None → cond b ((e.0, v) ∷ es) (e ∷ set_value test es v) ≡ e ∷ es
    by true later is = absurd (cc)
    by false later is = ap (λ rows. e ∷ rows) (later is)

-- a value given to a key that may be absent
pub set-either : {V : Type 0} (m later : Map ℕ V) (r : Result V V) (k : ℕ) (v : V) → IfOk r (λ _. entries later ≡ set_value (is_at (nat_cmp k)) (entries m) v) → IfErr r (λ w. (w ≡ v) × (get nat_cmp m k ≡ None) × (later ≡ m)) → entries later ≡ set_value (is_at (nat_cmp k)) (entries m) v
set-either m later (Ok w) k v ok err = ok
set-either m later (Err w) k v ok err = ap (λ m. entries m) err.2 ∙ sym (set-absent (is_at (nat_cmp k)) v (entries m) err.1)

-- pairs of a map that hold the rows of a table at their keys
pub record Holds {V : Type 0} (key : V → ℕ) (known : AbsentIds) (es : List (ℕ × V)) (rows : List V) : Type 0 where
  pub knows : KnowsAbsent key known es
  pub is : values_of es ≡ rows

module _ {V : Type 0} (key : V → ℕ) (known : AbsentIds) where
  pub holds : (m : Option (Map ℕ V)) (map : Map ℕ V) (rows : List V) → KnowsAbsent key known (pairs_in m) → m ≡ Some map → rows_in m ≡ rows → Holds key known (entries map) rows
  holds m map rows knows some is = record { knows = subst (λ m. KnowsAbsent key known (pairs_in m)) some knows; is = sym (ap rows_in some) ∙ is }

  holds_from : (es : List (ℕ × V)) (rows : List V) → values_of es ≡ rows → Each (Own key) es → Rising key rows → OfKeys key (MayBeKey known) rows → Holds key known es rows
  holds_from es rows is own rising may = record {
    knows = record { table = record { own = own; rising = subst (Rising key) (sym is) rising }; may = subst (OfKeys key (MayBeKey known)) (sym is) may };
    is = is;
  }

  module _ (es : List (ℕ × V)) (rows : List V) (has : Holds key known es rows) where
    own : Each (Own key) es
    own = has.knows.table.own

    pub found_in : (id : ℕ) → lookup (is_at (nat_cmp id)) es ≡ find (λ row. key row == id) rows
    found_in id = found-row key id es own ∙ ap (find (λ row. key row == id)) has.is

    pub found_all : (ids : List ℕ) → map (λ id. lookup (is_at (nat_cmp id)) es) ids ≡ map (λ id. find (λ row. key row == id) rows) ids
    found_all [] = refl
    found_all (id ∷ ids) = rw (found_in id, found_all ids) refl

    -- another row at its key, a row less, a row more
    pub holds_replaced : (row : V) (k : ℕ) (later : List (ℕ × V)) → key row ≡ k → later ≡ set_value (is_at (nat_cmp k)) es row → Holds key known later (replaced key row rows)
    holds_replaced row k later at is = rw is (subst (λ rows. Holds key known (set_value (is_at (nat_cmp k)) es row) (replaced key row rows)) has.is
        (holds_from (set_value (is_at (nat_cmp k)) es row) (replaced key row (values_of es)) (rows-replaced key row k es at own) (own-replaced key row k es at own)
        (rising-replaced key row (values_of es) has.knows.table.rising) (known-replaced key (MayBeKey known) row (values_of es) has.knows.may)))

    pub holds_removed : (id : ℕ) (later : List (ℕ × V)) → later ≡ remove_entry (is_at (nat_cmp id)) es → Holds key known later (taken_out key id rows)
    holds_removed id later is = rw is (subst (λ rows. Holds key known (remove_entry (is_at (nat_cmp id)) es) (taken_out key id rows)) has.is
        (holds_from (remove_entry (is_at (nat_cmp id)) es) (taken_out key id (values_of es)) (rows-removed nat_cmp (λ e. e.1) key id id es (own-agrees key id es own)) (own-removed key id es own)
        (rising-taken_out key id (values_of es) has.knows.table.rising) (each-taken_out key (λ row. MayBeKey known (key row)) id (values_of es) has.knows.may)))

-- the ids that may be keys become more before a row is inserted
pub holds_put : {V : Type 0} (key : V → ℕ) (known admitted : AbsentIds) (es : List (ℕ × V)) (rows : List V) → Holds key known es rows → (row : V) (k : ℕ) (later : List (ℕ × V)) → k ≡ key row → MayBeKey admitted (key row)
    → ((n : ℕ) → MayBeKey known n → MayBeKey admitted n) → find (λ y. key y == key row) rows ≡ None → later ≡ insert_entry nat_cmp es k row → Holds key admitted later (put key row rows)
holds_put key known admitted es rows has row k later at here others absent is =
    let own = has.knows.table.own in
    let none : find (λ y. key y == key row) (values_of es) ≡ None = ap (find (λ y. key y == key row)) has.is ∙ absent in
    rw (is, at) (subst (λ rows. Holds key admitted (insert_entry nat_cmp es (key row) row) (put key row rows)) has.is
    (holds_from key admitted (insert_entry nat_cmp es (key row) row) (put key row (values_of es)) (rows-inserted nat_cmp (λ e. e.1) key (key row) (key row) row es refl (own-agrees key (key row) es own) none)
    (own-inserted key row (key row) es refl own) (rising-put key row (values_of es) none has.knows.table.rising)
    (known-put key (MayBeKey known) (MayBeKey admitted) (key row) row (values_of es) refl here others has.knows.may)))

-- a row changed in place, or no row
module _ {F V R : Type 0} (key : V → ℕ) (c : Mut F (MutBor V × Unit {0}) (R × (MutBor V × Unit {0}))) (keeps : KeepsKey key c) (id : ℕ) (known : AbsentIds) (m m' : Map ℕ V) (rows : List V) (has : Holds key known (entries m) rows) (f f' : F) where
  pub record Updates (o : Option R) : Type 0 where
    pub knows : KnowsAbsent key known (entries m')
    pub changed : IfSome o (λ r. ChangedRow key c id rows f r f' (values_of (entries m')))
    pub absent : IfNone o ((find (λ y. key y == id) rows ≡ None) × (values_of (entries m') ≡ rows))

  pub updates : (o : Option R) → IfSome o (λ r. Changed c (is_at (nat_cmp id)) (entries m) f r f' (entries m')) → IfNone o ((get nat_cmp m id ≡ None) × (f' ≡ f) × (m' ≡ m)) → Updates o
  updates (Some r) ch none =
      let found = sym (found_in key known (entries m) rows has id) ∙ ch.found in
      let at = keeps f ch.value r f' ch.left ch.called ∙ found_key key id ch.value rows found in
      let later = holds_replaced key known (entries m) rows has ch.left id (entries m') at ch.written in
      record { knows = later.knows; changed = record { row = ch.value; left = ch.left; found = found; called = ch.called; written = later.is }; absent = tt }
  updates None ch none =
      record { knows = rw none.2 has.knows; changed = tt; absent = (sym (found_in key known (entries m) rows has id) ∙ none.0, rw none.2 has.is) }

-- two rows changed in place, or no row
module _ {F V R : Type 0} (key : V → ℕ) (c : Mut F (MutBor V × (MutBor V × Unit {0})) (R × (MutBor V × (MutBor V × Unit {0})))) (keeps : KeepsKeys key c) (a b : ℕ) (known : AbsentIds) (m m' : Map ℕ V) (rows : List V) (has : Holds key known (entries m) rows) (f f' : F) where
  pub record UpdatesTwo (o : Option R) : Type 0 where
    pub knows : KnowsAbsent key known (entries m')
    pub changed : IfSome o (λ r. ChangedRows key c a b rows f r f' (values_of (entries m')))
    pub absent : IfNone o (((find (λ y. key y == a) rows ≡ None) ⊎ (find (λ y. key y == b) rows ≡ None)) × (f' ≡ f) × (values_of (entries m') ≡ rows))

  absent_in : (get nat_cmp m a ≡ None) ⊎ (get nat_cmp m b ≡ None) → (find (λ y. key y == a) rows ≡ None) ⊎ (find (λ y. key y == b) rows ≡ None)
  absent_in (inl none) = inl (sym (found_in key known (entries m) rows has a) ∙ none)
  absent_in (inr none) = inr (sym (found_in key known (entries m) rows has b) ∙ none)

  pub updates_two : (o : Option R) → IfSome o (λ r. ChangedTwo c (is_at (nat_cmp a)) (is_at (nat_cmp b)) (entries m) f r f' (entries m')) → IfNone o (((get nat_cmp m a ≡ None) ⊎ (get nat_cmp m b ≡ None)) × (f' ≡ f) × (m' ≡ m)) → UpdatesTwo o
  updates_two (Some r) ch none =
      let found = sym (found_in key known (entries m) rows has a) ∙ ch.found in
      let other_found = sym (found_in key known (entries m) rows has b) ∙ ch.other_found in
      let kept = keeps f ch.value ch.other r f' ch.left ch.other_left ch.called in
      let between = holds_replaced key known (entries m) rows has ch.left a (set_value (is_at (nat_cmp a)) (entries m) ch.left) (kept.0 ∙ found_key key a ch.value rows found) refl in
      let later = holds_replaced key known _ (replaced key ch.left rows) between ch.other_left b (entries m') (kept.1 ∙ found_key key b ch.other rows other_found) ch.written in
      record {
        knows = later.knows;
        changed = record { row = ch.value; left = ch.left; other = ch.other; other_left = ch.other_left; found = found; other_found = other_found; called = ch.called; written = later.is };
        absent = tt;
      }
  updates_two None ch none = record { knows = rw none.2 has.knows; changed = tt; absent = (absent_in none.0, none.1, rw none.2 has.is) }

-- the first of a tree's timeouts

pub first-found : {V : Type 0} (e : (ℕ × ℕ) × V) (es : List ((ℕ × ℕ) × V)) → slice_get es 0 ≡ Some e → slice_get (timeouts_of es) 0 ≡ Some (timeout_at e)
first-found e [] is = absurd (cc)
first-found e (x ∷ es) is =
    let same : x ≡ e = cc in
    ap (λ y. Some (timeout_at y)) same

-- the first of timeouts, which was taken out
module _ {V : Type 0} (d : Timeout) (r : Option ((ℕ × ℕ) × V)) where
  itself : (n : ℕ) → eqb n n ≡ true
  itself n = grind (arith, nat_tests)

  pub popped-found : (es : List ((ℕ × ℕ) × V)) → slice_get (timeouts_of es) 0 ≡ Some d → find (λ e. timeout_key e == timeout_key d) (timeouts_of es) ≡ Some d
  popped-found [] is = absurd (cc)
  popped-found (x ∷ es) is =
      let same : timeout_at x ≡ d = cc in
      let self : eqb (timeout_key (timeout_at x)) (timeout_key d) ≡ true = subst (λ e. eqb (timeout_key e) (timeout_key d) ≡ true) (sym same) (itself (timeout_key d)) in
      rw self (ap Some same)

  pub popped-rest : (es later : List ((ℕ × ℕ) × V)) → slice_get (timeouts_of es) 0 ≡ Some d → r ≡ slice_get es 0 → es ≡ with_first r later → timeouts_of later ≡ taken_out timeout_key (timeout_key d) (timeouts_of es)
  popped-rest [] later is first all = absurd (cc)
  popped-rest (x ∷ es) later is first all =
      let same : timeout_at x ≡ d = cc in
      let behind : x ∷ es ≡ x ∷ later = subst (λ o. x ∷ es ≡ with_first o later) first all in
      let rest : es ≡ later = cc in
      let self : eqb (timeout_key (timeout_at x)) (timeout_key d) ≡ true = subst (λ e. eqb (timeout_key e) (timeout_key d) ≡ true) (sym same) (itself (timeout_key d)) in
      rw self (ap timeouts_of (sym rest))

  pub popped-some : (es : List ((ℕ × ℕ) × V)) → slice_get (timeouts_of es) 0 ≡ Some d → r ≡ slice_get es 0 → is_some r ≡ true
  popped-some [] is first = absurd (cc)
  popped-some (x ∷ es) is first = ap is_some first

pub first-later : {V : Type 0} (time : ℕ) (e : (ℕ × ℕ) × V) (es : List ((ℕ × ℕ) × V)) → AreTimeouts (timeouts_of es) → slice_get es 0 ≡ Some e → time < e.0.0 → Each (λ d. time < d.at) (timeouts_of es)
first-later time e [] ordered is later = tt
first-later time e (x ∷ es) ordered is later =
    let same : x ≡ e = cc in
    let here : time < x.0.0 = rw same later in
    (here, each-both (λ d. timeout_key (timeout_at x) < timeout_key d) (λ d. d.id ≤ AMOUNT_MAX) (λ d. time < d.at) (timeouts_of es) (λ d above fits. omega arith) ordered.rising.0 ordered.fit.1)

-- pairs of numbers compare as one number does, if the second part fits
pub pair-number : (a b c d : ℕ) → b ≤ AMOUNT_MAX → d ≤ AMOUNT_MAX → ordering_then (nat_cmp a c) (nat_cmp b d) ≡ nat_cmp (timeout_key (record { at = a; id = b })) (timeout_key (record { at = c; id = d }))
pair-number a b c d b_fits d_fits = by (ltb a c) refl (eqb a c) refl (ltb b d) refl (eqb b d) refl (ltb x y) refl (eqb x y) refl
  where
    x : ℕ
    x = a * 340282366920938463463374607431768211456 + b

    y : ℕ
    y = c * 340282366920938463463374607431768211456 + d

    Results : Bool → Bool → Bool → Bool → Bool → Bool → Type 0
    Results p q r s u v = ordering_then (cond p Less (cond q Equal Greater)) (cond r Less (cond s Equal Greater)) ≡ cond u Less (cond v Equal Greater)

    by : (p : Bool) → ltb a c ≡ p → (q : Bool) → eqb a c ≡ q → (r : Bool) → ltb b d ≡ r → (s : Bool) → eqb b d ≡ s → (u : Bool) → ltb x y ≡ u → (v : Bool) → eqb x y ≡ v → Results p q r s u v
    by true e q f r g s h true i v j = refl
    by true e q f r g s h false i v j = absurd (let less : a < c = grind (arith, nat_tests) in let more : y ≤ x = grind (arith, nat_tests) in omega arith)
    by false e true f true g s h true i v j = refl
    by false e true f true g s h false i v j = absurd (let same : a ≡ c = grind (arith, nat_tests) in let less : b < d = grind (arith, nat_tests) in let more : y ≤ x = grind (arith, nat_tests) in omega arith)
    by false e true f false g s h true i v j = absurd (let same : a ≡ c = grind (arith, nat_tests) in let more : d ≤ b = grind (arith, nat_tests) in let less : x < y = grind (arith, nat_tests) in omega arith)
    by false e true f false g true h false i true j = refl
    by false e true f false g true h false i false j = absurd (let same : a ≡ c = grind (arith, nat_tests) in let too : b ≡ d = grind (arith, nat_tests) in let both : x ≡ y = omega arith in grind (arith, nat_tests))
    by false e true f false g false h false i true j = absurd (let same : a ≡ c = grind (arith, nat_tests) in let both : x ≡ y = grind (arith, nat_tests) in let too : b ≡ d = omega arith in grind (arith, nat_tests))
    by false e true f false g false h false i false j = refl
    by false e false f r g s h true i v j = absurd (let more : c < a = grind (arith, nat_tests) in let less : x < y = grind (arith, nat_tests) in omega arith)
    by false e false f r g s h false i true j = absurd (let more : c < a = grind (arith, nat_tests) in let both : x ≡ y = grind (arith, nat_tests) in omega arith)
    by false e false f r g s h false i false j = refl

-- the keys of timeouts agree with their numbers
pub timeouts-agree : {V : Type 0} (k : ℕ × ℕ) (es : List ((ℕ × ℕ) × V)) → k.1 ≤ AMOUNT_MAX → Each (λ d. d.id ≤ AMOUNT_MAX) (map timeout_at es)
    → Each (Agrees (λ x y. ordering_then (nat_cmp x.0 y.0) (nat_cmp x.1 y.1)) timeout_at timeout_key k (timeout_key (record { at = k.0; id = k.1 }))) es
timeouts-agree k es fits all = each-map (λ e. (timeout_at e).id ≤ AMOUNT_MAX) (Agrees (λ x y. ordering_then (nat_cmp x.0 y.0) (nat_cmp x.1 y.1)) timeout_at timeout_key k (timeout_key (record { at = k.0; id = k.1 }))) es
    (λ e its. pair-number k.0 k.1 e.0.0 e.0.1 fits its) (each-back (λ d. d.id ≤ AMOUNT_MAX) timeout_at es all)

-- a search that visited no node had no nodes
pub no_visits : {V : Type 0} (cmp : ℕ → Ordering) (tree : Search (ℕ × V)) → path_length cmp tree ≡ 0 → length (values_of (entries_of tree)) ≡ 0
no_visits cmp leaf is = refl
no_visits cmp (fork l e r) is = absurd (omega (arith, is))
