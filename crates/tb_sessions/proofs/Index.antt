-- The table's two maps through each change.
use Rattle.std.proofs.Common.{◌≡◌, ◌≢◌, ℕ, ◌+◌, ◌<◌, ◌≤◌, Bool, true, false, cond, leb, ltb, ◌⊎◌, inl, inr, List, [], ◌∷◌, length, find, Option, Some, None, refl, sym, ap, ◌∙◌, subst, ◌==◌, ◌&&◌, arith}
use Rattle.std.proofs.lemmas.Bool.Decides.{nat_tests}
use Rattle.std.proofs.lemmas.Map.{keys-set_value, length-set_value}
use Rattle.std.proofs.lemmas.Map.Entries.{length-values_of}
use Rattle.std.specs.Option.{option_map}
use Rattle.std.specs.Cmp.{nat_cmp_total}
use Rattle.std.specs.List.{slice_get, list_all}
use Rattle.std.specs.List.Sorted.{IsStrictlySortedBy}
use Rattle.std.specs.Map.{lookup, set_value, remove_entry, keys_of, values_of}
use Rattle.std.specs.BTreeMap.{insert_entry, is_at}
use Rattle.std.specs.Ordering.{nat_cmp}
use Rattle.avl_tree.specs.Map.{Map, entries}
use Rattle.avl_tree.proofs.SplitEntries.{ordered-insert_entry, ordered-remove_entry, length-insert_entry, length-remove_entry_found}
use Rattle.tb_records.specs.Ordered.{Each}
use Rattle.tb_records.proofs.ByKey.{each-find, found_key}
use Rattle.tb_records.proofs.Entries.{found-row, own-replaced, own-inserted, own-removed}
use Rattle.tb_sessions.specs.declared.rows.Row.{Row}
use Rattle.tb_sessions.specs.Judged.{client_of}
use Rattle.tb_sessions.specs.Admission.{oldest, driven_out}
use Rattle.tb_sessions.specs.private.Indexed.{kept_row, client_at_commit, IsLinked, IsIndexed, IsFirstBehind, FindsOldest}
use Rattle.tb_sessions.proofs.LookUps.{GoneAt, PutAt, decide, at_itself, removed, written, inserted, first_least, each_found}

pub inside : {X : Type 0} {x y : X} → Some x ≡ Some y → x ≡ y
inside e = cc

pub nothing : {X : Type 0} {o : Option X} {x : X} → o ≡ None → o ≡ Some x → ⊥
nothing e f = cc

none_where : {X : Type 0} (o : Option X) → ((x : X) → o ≡ Some x → ⊥) → o ≡ None
none_where None never = refl
none_where (Some x) never = absurd (never x refl)

-- what is still found was found before, at another number
before : {X : Type 0} {k : ℕ} {f f' : ℕ → Option X} → GoneAt k f f' → (q : ℕ) (x : X) → f' q ≡ Some x → (q ≢ k) × (f q ≡ Some x)
before {k = k} {f' = f'} gone q x is = elim (decide q k) [
  | inl same ↦ absurd (nothing (ap f' same ∙ gone.here) is)
  | inr n ↦ (n, sym (gone.others q n) ∙ is)
]

-- what is found is what was put, or was found before at another number
put_or_before : {X : Type 0} {k : ℕ} {v : X} {f f' : ℕ → Option X} → PutAt k v f f' → (q : ℕ) (x : X) → f' q ≡ Some x → ((q ≡ k) × (x ≡ v)) ⊎ ((q ≢ k) × (f q ≡ Some x))
put_or_before {k = k} {f' = f'} put q x is = elim (decide q k) [
  | inl same ↦ inl (same, inside (sym is ∙ ap f' same ∙ put.here))
  | inr n ↦ inr (n, sym (put.others q n) ∙ is)
]

-- a client's row leaves, and the commit that the client is at
linked_out : {R R' : ℕ → Option Row} {B B' : ℕ → Option ℕ} (k d : ℕ) → IsLinked R B → B d ≡ Some k → GoneAt k R R' → GoneAt d B B' → IsLinked R' B'
linked_out {R} {R'} {B} {B'} k d l stood row client = record {
  noted = λ q x is. let was = row_before q x is in let noted = l.noted q x was.1 in (noted.0, noted.1, client.others noted.0 (λ same. was.0 (inside (sym noted.2 ∙ ap B same ∙ stood))) ∙ noted.2);
  kept = λ c j is. let was = client_before c j is in let kept = l.kept c j was.1 in (kept.0, row.others j (λ same. was.0 (l.once c d j was.1 (stood ∙ ap Some (sym same)))) ∙ kept.1, kept.2);
  once = λ c e j is too. l.once c e j (client_before c j is).1 (client_before e j too).1;
  apart = λ q j x is at. l.apart q j x (row_before q x is).1 (client_before x.commit j at).1;
  differ = λ q j x y is too same. l.differ q j x y (row_before q x is).1 (row_before j y too).1 same;
}
  where
    row_before : (q : ℕ) (x : Row) → R' q ≡ Some x → (q ≢ k) × (R q ≡ Some x)
    row_before = before row

    client_before : (c j : ℕ) → B' c ≡ Some j → (c ≢ d) × (B c ≡ Some j)
    client_before = before client

-- no two rows have one commit, if the row that was added has a new one
still_differ : {R R' : ℕ → Option Row} (k : ℕ) (r : Row) → PutAt k r R R' → ((q j : ℕ) (x y : Row) → R q ≡ Some x → R j ≡ Some y → x.commit ≡ y.commit → q ≡ j)
    → ((q : ℕ) (x : Row) → R q ≡ Some x → x.commit ≢ r.commit) → (q j : ℕ) (x y : Row) → R' q ≡ Some x → R' j ≡ Some y → x.commit ≡ y.commit → q ≡ j
still_differ k r put differ unlike q j x y is too same = elim (put_or_before put q x is) [
  | inl a ↦ elim (put_or_before put j y too) [
    | inl b ↦ a.0 ∙ sym b.0
    | inr b ↦ absurd (unlike j y b.1 (sym same ∙ ap (λ (w : Row). w.commit) a.1))
  ]
  | inr a ↦ elim (put_or_before put j y too) [
    | inl b ↦ absurd (unlike q x a.1 (same ∙ ap (λ (w : Row). w.commit) b.1))
    | inr b ↦ differ q j x y a.1 b.1 same
  ]
]

-- a row comes, and its client at the row's commit
linked_in : {R R' : ℕ → Option Row} {B B' : ℕ → Option ℕ} (k : ℕ) (r : Row) → IsLinked R B → R k ≡ None → B r.commit ≡ None → ((q : ℕ) (x : Row) → R q ≡ Some x → x.commit ≢ r.commit)
    → PutAt k r R R' → PutAt r.commit k B B' → IsLinked R' B'
linked_in {R} {R'} {B} {B'} k r l absent fresh unlike row client = record {
  noted = λ q x is. elim (put_or_before row q x is) [
    | inl a ↦ let same = ap (λ (w : Row). w.commit) a.1 in (r.commit, omega (arith, same), client.here ∙ ap Some (sym a.0))
    | inr a ↦ let noted = l.noted q x a.1 in (noted.0, noted.1, client.others noted.0 (λ same. nothing (ap B same ∙ fresh) noted.2) ∙ noted.2)
  ];
  kept = λ c j is. elim (put_or_before client c j is) [
    | inl a ↦ let same = a.0 in (r, ap R' a.1 ∙ row.here, omega (arith, same))
    | inr a ↦ let kept = l.kept c j a.1 in (kept.0, row.others j (λ same. nothing (ap R same ∙ absent) kept.1) ∙ kept.1, kept.2)
  ];
  once = λ c e j is too. elim (put_or_before client c j is) [
    | inl a ↦ elim (put_or_before client e j too) [
      | inl b ↦ a.0 ∙ sym b.0
      | inr b ↦ absurd (nothing (ap R a.1 ∙ absent) (l.kept e j b.1).1)
    ]
    | inr a ↦ elim (put_or_before client e j too) [
      | inl b ↦ absurd (nothing (ap R b.1 ∙ absent) (l.kept c j a.1).1)
      | inr b ↦ l.once c e j a.1 b.1
    ]
  ];
  apart = λ q j x is at. elim (put_or_before row q x is) [
    | inl a ↦ elim (put_or_before client x.commit j at) [
      | inl b ↦ b.1 ∙ sym a.0
      | inr b ↦ absurd (b.0 (ap (λ (w : Row). w.commit) a.1))
    ]
    | inr a ↦ elim (put_or_before client x.commit j at) [
      | inl b ↦ absurd (unlike q x a.1 b.0)
      | inr b ↦ l.apart q j x a.1 b.1
    ]
  ];
  differ = still_differ k r row l.differ unlike;
}

-- a later row replaces a client's, and the client is where it was
linked_renewed : {R R' : ℕ → Option Row} {B : ℕ → Option ℕ} (k : ℕ) (r old : Row) → IsLinked R B → R k ≡ Some old → old.commit ≤ r.commit → B r.commit ≡ None → ((q : ℕ) (x : Row) → R q ≡ Some x → x.commit ≢ r.commit)
    → PutAt k r R R' → IsLinked R' B
linked_renewed {R} {R'} {B} k r old l found later fresh unlike row = record {
  noted = λ q x is. elim (put_or_before row q x is) [
    | inl a ↦ let noted = l.noted k old found in let same = ap (λ (w : Row). w.commit) a.1 in let low = noted.1 in (noted.0, omega (arith, low, later, same), noted.2 ∙ ap Some (sym a.0))
    | inr a ↦ l.noted q x a.1
  ];
  kept = λ c j is. let kept = l.kept c j is in elim (decide j k) [
    | inl same ↦ let was = ap (λ (w : Row). w.commit) (inside (sym kept.1 ∙ ap R same ∙ found)) in let low = kept.2 in (r, ap R' same ∙ row.here, omega (arith, was, low, later))
    | inr n ↦ (kept.0, row.others j n ∙ kept.1, kept.2)
  ];
  once = l.once;
  apart = λ q j x is at. elim (put_or_before row q x is) [
    | inl a ↦ absurd (nothing (ap (λ (w : Row). B w.commit) a.1 ∙ fresh) at)
    | inr a ↦ l.apart q j x a.1 at
  ];
  differ = still_differ k r row l.differ unlike;
}

-- a client is moved from its commit to its row's
linked_moved : {R : ℕ → Option Row} {B M B' : ℕ → Option ℕ} (k d : ℕ) (r : Row) → IsLinked R B → B d ≡ Some k → R k ≡ Some r → GoneAt d B M → PutAt r.commit k M B' → IsLinked R B'
linked_moved {R} {B} {M} {B'} k d r l stood here gone put = record {
  noted = λ q x is. elim (decide q k) [
    | inl same ↦ let at = ap (λ (w : Row). w.commit) (inside (sym is ∙ ap R same ∙ here)) in (r.commit, omega (arith, at), put.here ∙ ap Some (sym same))
    | inr n ↦
        let noted = l.noted q x is in
        let still = put.others noted.0 (λ same. n (l.apart k q r here (sym (ap B same) ∙ noted.2))) ∙ gone.others noted.0 (λ same. n (inside (sym noted.2 ∙ ap B same ∙ stood))) in
        (noted.0, noted.1, still ∙ noted.2)
  ];
  kept = λ c j is. elim (client_before c j is) [
    | inl a ↦ let same = a.0 in (r, ap R a.1 ∙ here, omega (arith, same))
    | inr a ↦ l.kept c j a.1
  ];
  once = λ c e j is too. elim (client_before c j is) [
    | inl a ↦ elim (client_before e j too) [
      | inl b ↦ a.0 ∙ sym b.0
      | inr b ↦ absurd (b.0 (l.once e d j b.1 (stood ∙ ap Some (sym a.1))))
    ]
    | inr a ↦ elim (client_before e j too) [
      | inl b ↦ absurd (a.0 (l.once c d j a.1 (stood ∙ ap Some (sym b.1))))
      | inr b ↦ l.once c e j a.1 b.1
    ]
  ];
  apart = λ q j x is at. elim (client_before x.commit j at) [
    | inl a ↦ a.1 ∙ sym (l.differ q k x r is here a.0)
    | inr a ↦ l.apart q j x is a.1
  ];
  differ = l.differ;
}
  where
    client_before : (c j : ℕ) → B' c ≡ Some j → ((c ≡ r.commit) × (j ≡ k)) ⊎ ((c ≢ d) × (B c ≡ Some j))
    client_before c j is = elim (put_or_before put c j is) [
      | inl a ↦ inl a
      | inr a ↦ inr (before gone c j a.1)
    ]

-- the first of the clients is at its commit
pub first_found : (es : List (ℕ × ℕ)) (c k : ℕ) → slice_get es 0 ≡ Some (c, k) → lookup (is_at (nat_cmp c)) es ≡ Some k
first_found [] c k is = absurd (cc)
first_found (e ∷ es) c k is =
    let same : e ≡ (c, k) = inside is in
    let at : e.0 ≡ c = ap (λ p. p.0) same in
    ap (λ b. cond b (Some e.1) (lookup (is_at (nat_cmp c)) es)) (subst (λ d. is_at (nat_cmp c) d ≡ true) (sym at) (at_itself c)) ∙ ap (λ p. Some p.1) same

module _ {n : ℕ} {rows : Map ℕ Row} {clients : Map ℕ ℕ} (i : IsIndexed n rows clients) where
  -- each row found is of an earlier commit, and no client is at a later one
  earlier : (commit : ℕ) → Each (λ (other : Row). other.commit < commit) (values_of (entries rows)) → (q : ℕ) (x : Row) → kept_row rows q ≡ Some x → x.commit < commit
  earlier commit later q x is = each-find (λ (other : Row). other.commit < commit) (λ row. client_of row == q) x (values_of (entries rows)) later (sym (found-row client_of q (entries rows) i.own) ∙ is)

  pub fresh : (commit : ℕ) → Each (λ (other : Row). other.commit < commit) (values_of (entries rows)) → client_at_commit clients commit ≡ None
  fresh commit later = none_where (client_at_commit clients commit) (λ j is.
      let kept = i.linked.kept commit j is in
      let less = earlier commit later j kept.0 kept.1 in
      let low = kept.2 in
      omega (arith, less, low))

  pub index_out : (r : Row) (k d : ℕ) {rows' : Map ℕ Row} {clients' : Map ℕ ℕ} → kept_row rows k ≡ Some r → client_at_commit clients d ≡ Some k
      → entries rows' ≡ remove_entry (is_at (nat_cmp k)) (entries rows) → entries clients' ≡ remove_entry (is_at (nat_cmp d)) (entries clients)
      → rows'.spare ≡ rows.spare + 1 → clients'.spare ≡ clients.spare + 1 → FindsOldest n rows' clients'
  index_out r k d {rows'} {clients'} here stood is is_clients spare clients_spare =
      let a = length-remove_entry_found nat_cmp k r (entries rows) here in
      let b = length-remove_entry_found nat_cmp d k (entries clients) stood in
      let la = ap length is in
      let lb = ap length is_clients in
      record {
        indexed = record {
          own = subst (λ es. Each (λ e. client_of e.1 ≡ e.0) es) (sym is) (own-removed client_of k (entries rows) i.own);
          rows_rise = subst (λ es. IsStrictlySortedBy nat_cmp (keys_of es)) (sym is) (ordered-remove_entry nat_cmp (is_at (nat_cmp k)) (entries rows) i.rows_rise);
          commits_rise = subst (λ es. IsStrictlySortedBy nat_cmp (keys_of es)) (sym is_clients) (ordered-remove_entry nat_cmp (is_at (nat_cmp d)) (entries clients) i.commits_rise);
          linked = linked_out k d i.linked stood (removed k (entries rows) is i.rows_rise) (removed d (entries clients) is_clients i.commits_rise);
          even = omega (arith, a, b, la, lb, i.even);
          some_capacity = i.some_capacity;
          not_over = omega (arith, a, la, i.not_over);
          rows_fit = omega (arith, a, la, spare, i.rows_fit);
          clients_fit = omega (arith, b, lb, clients_spare, i.clients_fit);
        };
        first = λ full. absurd (omega (arith, a, la, full, i.not_over));
      }

  pub index_in : (r : Row) {rows' : Map ℕ Row} {clients' : Map ℕ ℕ} → kept_row rows r.client ≡ None → Each (λ (other : Row). other.commit < r.commit) (values_of (entries rows))
      → entries rows' ≡ insert_entry nat_cmp (entries rows) r.client r → entries clients' ≡ insert_entry nat_cmp (entries clients) r.commit r.client
      → rows'.spare + 1 ≡ rows.spare → clients'.spare + 1 ≡ clients.spare → length (entries rows) < n → IsIndexed n rows' clients'
  index_in r {rows'} {clients'} absent later is is_clients spare clients_spare capacity =
      let no_client = fresh r.commit later in
      let a = length-insert_entry nat_cmp r.client r (entries rows) absent in
      let b = length-insert_entry nat_cmp r.commit r.client (entries clients) no_client in
      let la = ap length is in
      let lb = ap length is_clients in
      record {
        own = subst (λ es. Each (λ e. client_of e.1 ≡ e.0) es) (sym is) (own-inserted client_of r (client_of r) (entries rows) refl i.own);
        rows_rise = subst (λ es. IsStrictlySortedBy nat_cmp (keys_of es)) (sym is) (ordered-insert_entry nat_cmp_total r.client r (entries rows) i.rows_rise);
        commits_rise = subst (λ es. IsStrictlySortedBy nat_cmp (keys_of es)) (sym is_clients) (ordered-insert_entry nat_cmp_total r.commit r.client (entries clients) i.commits_rise);
        linked = linked_in r.client r i.linked absent no_client
            (λ q x found same. let less = earlier r.commit later q x found in omega (arith, less, same))
            (inserted r.client (entries rows) r is) (inserted r.commit (entries clients) r.client is_clients);
        even = omega (arith, a, b, la, lb, i.even);
        some_capacity = i.some_capacity;
        not_over = omega (arith, a, la, capacity);
        rows_fit = omega (arith, a, la, spare, i.rows_fit);
        clients_fit = omega (arith, b, lb, clients_spare, i.clients_fit);
      }

  -- a row in place of the client's, which was of an earlier commit
  pub index_renewed : (r old : Row) {rows' : Map ℕ Row} → kept_row rows r.client ≡ Some old → Each (λ (other : Row). other.commit < r.commit) (values_of (entries rows))
      → entries rows' ≡ set_value (is_at (nat_cmp r.client)) (entries rows) r → rows'.spare ≡ rows.spare → IsIndexed n rows' clients
  index_renewed r old {rows'} found later is spare =
      let a = length-set_value (is_at (nat_cmp r.client)) (entries rows) r in
      let la = ap length is in
      let less = earlier r.commit later r.client old found in
      record {
        own = subst (λ es. Each (λ e. client_of e.1 ≡ e.0) es) (sym is) (own-replaced client_of r (client_of r) (entries rows) refl i.own);
        rows_rise = subst (λ es. IsStrictlySortedBy nat_cmp (keys_of es)) (sym is) (subst (λ ks. IsStrictlySortedBy nat_cmp ks) (sym (keys-set_value (is_at (nat_cmp r.client)) (entries rows) r)) i.rows_rise);
        commits_rise = i.commits_rise;
        linked = linked_renewed r.client r old i.linked found (omega (arith, less)) (fresh r.commit later)
            (λ q x found same. let less = earlier r.commit later q x found in omega (arith, less, same))
            (written r.client (entries rows) r old is found);
        even = omega (arith, a, la, i.even);
        some_capacity = i.some_capacity;
        not_over = omega (arith, a, la, i.not_over);
        rows_fit = omega (arith, a, la, spare, i.rows_fit);
        clients_fit = i.clients_fit;
      }

  -- no client is at the commit of a row whose client is at another commit
  moved_fresh : (k d : ℕ) (r : Row) → client_at_commit clients d ≡ Some k → kept_row rows k ≡ Some r → r.commit ≢ d → client_at_commit clients r.commit ≡ None
  moved_fresh k d r stood here behind =
      none_where (client_at_commit clients r.commit) (λ j is. behind (i.linked.once r.commit d k (is ∙ ap Some (i.linked.apart k j r here is)) stood))

  -- the first client goes to its row's commit
  pub index_moved : (later : ℕ) → (f : IsFirstBehind rows clients later) (between : Map ℕ ℕ) {clients' : Map ℕ ℕ} → entries between ≡ remove_entry (is_at (nat_cmp f.commit)) (entries clients)
      → entries clients' ≡ insert_entry nat_cmp (entries between) later f.client → between.spare ≡ clients.spare + 1 → clients'.spare + 1 ≡ between.spare → IsIndexed n rows clients'
  index_moved later f between {clients'} is_between is between_spare spare =
      let stood = first_found (entries clients) f.commit f.client f.first in
      let behind = λ (same : f.row.commit ≡ f.commit). f.behind (sym f.is ∙ same) in
      let gone = removed f.commit (entries clients) is_between i.commits_rise in
      let absent : client_at_commit between f.row.commit ≡ None = gone.others f.row.commit behind ∙ moved_fresh f.client f.commit f.row stood f.here behind in
      let now : entries clients' ≡ insert_entry nat_cmp (entries between) f.row.commit f.client = is ∙ ap (λ m. insert_entry nat_cmp (entries between) m f.client) (sym f.is) in
      let rise = subst (λ es. IsStrictlySortedBy nat_cmp (keys_of es)) (sym is_between) (ordered-remove_entry nat_cmp (is_at (nat_cmp f.commit)) (entries clients) i.commits_rise) in
      let a = length-remove_entry_found nat_cmp f.commit f.client (entries clients) stood in
      let b = length-insert_entry nat_cmp f.row.commit f.client (entries between) absent in
      let la = ap length is_between in
      let lb = ap length now in
      record {
        own = i.own;
        rows_rise = i.rows_rise;
        commits_rise = subst (λ es. IsStrictlySortedBy nat_cmp (keys_of es)) (sym now) (ordered-insert_entry nat_cmp_total f.row.commit f.client (entries between) rise);
        linked = linked_moved f.client f.commit f.row i.linked stood f.here gone (inserted f.row.commit (entries between) f.client now);
        even = omega (arith, a, b, la, lb, i.even);
        some_capacity = i.some_capacity;
        not_over = i.not_over;
        rows_fit = i.rows_fit;
        clients_fit = omega (arith, a, b, la, lb, between_spare, spare, i.clients_fit);
      }

  pub moved_absent : (later : ℕ) → (f : IsFirstBehind rows clients later) (between : Map ℕ ℕ) → entries between ≡ remove_entry (is_at (nat_cmp f.commit)) (entries clients) → client_at_commit between later ≡ None
  moved_absent later f between is_between =
      let stood = first_found (entries clients) f.commit f.client f.first in
      let behind = λ (same : f.row.commit ≡ f.commit). f.behind (sym f.is ∙ same) in
      ap (λ m. client_at_commit between m) (sym f.is) ∙ (removed f.commit (entries clients) is_between i.commits_rise).others f.row.commit behind ∙ moved_fresh f.client f.commit f.row stood f.here behind

-- a test that each passes
all_pass : {X : Type 0} (p : X → Bool) (xs : List X) → Each (λ x. p x ≡ true) xs → list_all p xs ≡ true
all_pass p [] each = refl
all_pass p (x ∷ xs) each = let here = each.0 in rw here (all_pass p xs each.1)

each_passes : {X : Type 0} (p : X → Bool) (xs : List X) → list_all p xs ≡ true → Each (λ x. p x ≡ true) xs
each_passes p [] all = tt
each_passes p (x ∷ xs) all = by (p x) refl all (each_passes p xs)
  where
    by : (b : Bool) → p x ≡ b → (b && list_all p xs) ≡ true → (list_all p xs ≡ true → Each (λ x. p x ≡ true) xs) → (p x ≡ true) × Each (λ x. p x ≡ true) xs
    by true is all later = (is, later all)
    by false is all later = absurd (cc)

-- the element that passes, if all that pass have the same key
find_only : {X : Type 0} (p : X → Bool) (key : X → ℕ) (k : ℕ) (r : X) (xs : List X) → Each (λ x. p x ≡ true → key x ≡ k) xs → find (λ x. key x == k) xs ≡ Some r → p r ≡ true → find p xs ≡ Some r
find_only p key k r [] each found passes = found
find_only p key k r (x ∷ xs) each found passes = by (key x == k) refl (p x) refl found (λ later. find_only p key k r xs each.1 later passes)
  where
    by : (a : Bool) → (key x == k) ≡ a → (b : Bool) → p x ≡ b → cond a (Some x) (find (λ x. key x == k) xs) ≡ Some r → (find (λ x. key x == k) xs ≡ Some r → find p xs ≡ Some r) → cond b (Some x) (find p xs) ≡ Some r
    by true at true is found later = found
    by true at false is found later = absurd (let same = inside found in let fails : p r ≡ false = ap p (sym same) ∙ is in cc)
    by false at true is found later = absurd (let same : key x ≡ k = each.0 is in grind (arith, nat_tests))
    by false at false is found later = later found

-- the client at the first commit has the row of least commit, if that is the row's commit
pub oldest_first : {n : ℕ} {rows : Map ℕ Row} {clients : Map ℕ ℕ} → IsIndexed n rows clients → (c k : ℕ) (r : Row) → slice_get (entries clients) 0 ≡ Some (c, k) → kept_row rows k ≡ Some r → r.commit ≡ c → oldest (values_of (entries rows)) ≡ Some r
oldest_first {n} {rows} {clients} i c k r first here commit =
    let found = sym (found-row client_of k (entries rows) i.own) ∙ here in
    let stood = first_found (entries clients) c k first in
    let least = each_found (λ (x : Row). leb r.commit x.commit ≡ true) (entries rows) i.rows_rise (λ q x is. let low = reached q x is in grind (arith, nat_tests)) in
    let only = each_found (λ (x : Row). list_all (λ other. leb x.commit other.commit) (values_of (entries rows)) ≡ true → client_of x ≡ k) (entries rows) i.rows_rise (λ q x is all.
    let low = reached q x is in
    let test = each-find (λ (y : Row). leb x.commit y.commit ≡ true) (λ row. client_of row == k) r (values_of (entries rows)) (each_passes (λ (y : Row). leb x.commit y.commit) (values_of (entries rows)) all) found in
    let same : x.commit ≡ r.commit = grind (arith, nat_tests) in
    found_key client_of q x (values_of (entries rows)) (sym (found-row client_of q (entries rows) i.own) ∙ is) ∙ i.linked.differ q k x r is here same) in
    find_only (λ (x : Row). list_all (λ other. leb x.commit other.commit) (values_of (entries rows))) client_of k r (values_of (entries rows)) only found (all_pass (λ (x : Row). leb r.commit x.commit) (values_of (entries rows)) least)
  where
    first_at : (es : List (ℕ × ℕ)) → IsStrictlySortedBy nat_cmp (keys_of es) → slice_get es 0 ≡ Some (c, k) → (d j : ℕ) → lookup (is_at (nat_cmp d)) es ≡ Some j → c ≤ d
    first_at [] rise is d j at = absurd (cc)
    first_at (e ∷ es) rise is d j at =
        let same : e ≡ (c, k) = inside is in
        let low = first_least e es d j rise at in
        subst (λ m. m ≤ d) (ap (λ p. p.0) same) low

    reached : (q : ℕ) (x : Row) → kept_row rows q ≡ Some x → r.commit ≤ x.commit
    reached q x is =
        let noted = i.linked.noted q x is in
        let low = first_at (entries clients) i.commits_rise first noted.0 q noted.2 in
        let most = noted.1 in
        omega (arith, low, most, commit)

-- the first of the clients in a full table: it has a row of its commit
pub first_row : {n : ℕ} {rows : Map ℕ Row} {clients : Map ℕ ℕ} → FindsOldest n rows clients → n ≤ length (entries rows) → (c k : ℕ) → slice_get (entries clients) 0 ≡ Some (c, k) → (r : Row) × (kept_row rows k ≡ Some r) × (r.commit ≡ c)
first_row {clients = clients} i full c k is =
    let kept = i.indexed.linked.kept c k (first_found (entries clients) c k is) in
    (kept.0, kept.1, i.first full c k kept.0 is kept.1)

pub first_out : (es es' : List (ℕ × ℕ)) (c k : ℕ) → es ≡ (c, k) ∷ es' → es' ≡ remove_entry (is_at (nat_cmp c)) es
first_out es es' c k is = sym (ap (λ m. remove_entry (is_at (nat_cmp c)) m) is ∙ ap (λ b. cond b es' ((c, k) ∷ remove_entry (is_at (nat_cmp c)) es')) (at_itself c))

pub evictee_is : {n : ℕ} {rows : Map ℕ Row} {clients : Map ℕ ℕ} → FindsOldest n rows clients → n ≤ length (entries rows) → (c k : ℕ) → slice_get (entries clients) 0 ≡ Some (c, k) → Some k ≡ option_map client_of (driven_out n (values_of (entries rows)))
evictee_is {n} {rows} {clients} i full c k is =
    let row = first_row i full c k is in
    let size = length-values_of (entries rows) in
    let not_less : ltb (length (values_of (entries rows))) n ≡ false = grind (arith, nat_tests) in
    let owner = found_key client_of k row.0 (values_of (entries rows)) (sym (found-row client_of k (entries rows) i.indexed.own) ∙ row.1) in
    let oldest = oldest_first i.indexed c k row.0 is row.1 row.2 in
    rw (not_less, oldest) (ap Some (sym owner))

pub none_first : {n : ℕ} {rows : Map ℕ Row} {clients : Map ℕ ℕ} → IsIndexed n rows clients → n ≤ length (entries rows) → slice_get (entries clients) 0 ≡ None → ⊥
none_first {n} {rows} {clients} i full none = by (entries clients) i.even none
  where
    by : (es : List (ℕ × ℕ)) → length es ≡ length (entries rows) → slice_get es 0 ≡ None → ⊥
    by [] even none = omega (arith, even, full, i.some_capacity)
    by (e ∷ es) even none = cc

-- two empty maps with capacity for all
pub index_empty : {n : ℕ} {rows : Map ℕ Row} {clients : Map ℕ ℕ} → entries rows ≡ [] → entries clients ≡ [] → 0 < n → n ≤ rows.spare → n ≤ clients.spare → FindsOldest n rows clients
unfolding IsStrictlySortedBy
index_empty {n} {rows} {clients} no_rows no_clients some rows_room clients_room =
    let a = ap length no_rows in
    let b = ap length no_clients in
    record {
      indexed = record {
        own = rw no_rows tt;
        rows_rise = rw no_rows tt;
        commits_rise = rw no_clients tt;
        linked = record {
          noted = λ client row is. absurd (nothing (no_row client) is);
          kept = λ commit client is. absurd (nothing (no_client commit) is);
          once = λ commit other client is too. absurd (nothing (no_client commit) is);
          apart = λ client other row is at. absurd (nothing (no_row client) is);
          differ = λ client other row beside is too same. absurd (nothing (no_row client) is);
        };
        even = omega (arith, a, b);
        some_capacity = some;
        not_over = omega (arith, a);
        rows_fit = omega (arith, a, rows_room);
        clients_fit = omega (arith, b, clients_room);
      };
      first = λ full. absurd (omega (arith, a, full, some));
    }
  where
    no_row : (client : ℕ) → kept_row rows client ≡ None
    no_row client = ap (λ es. lookup (is_at (nat_cmp client)) es) no_rows

    no_client : (commit : ℕ) → client_at_commit clients commit ≡ None
    no_client commit = ap (λ es. lookup (is_at (nat_cmp commit)) es) no_clients
