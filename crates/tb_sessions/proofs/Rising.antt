-- How far the clients are brought up: the first commit rises, and no row's commit is above the latest.
use Rattle.std.proofs.Common.{◌≡◌, ℕ, ◌<◌, ◌≤◌, max, List, [], ◌∷◌, Some, sym, ap, subst, ◌∙◌, ◌==◌, inl, inr, arith}
use Rattle.std.proofs.lemmas.Bool.{cases_lt}
use Rattle.std.specs.declared.cmp.Ordering.{Ordering}
use Rattle.std.specs.declared.cmp.Ordering.TheVariants.{Less, Equal, Greater}
use Rattle.std.specs.Ordering.{match_ordering, nat_cmp}
use Rattle.std.specs.List.Sorted.{IsStrictlySortedBy}
use Rattle.std.specs.Map.{keys_of, values_of}
use Rattle.std.specs.BTreeMap.{insert_entry}
use Rattle.avl_tree.specs.Map.{Map, entries}
use Rattle.tb_records.specs.Ordered.{Each}
use Rattle.tb_records.proofs.ByKey.{each-map, each-find}
use Rattle.tb_records.proofs.Entries.{found-row}
use Rattle.tb_sessions.specs.declared.rows.Row.{Row}
use Rattle.tb_sessions.specs.Judged.{client_of}
use Rattle.tb_sessions.specs.private.Indexed.{kept_row, IsIndexed, IsFirstBehind}
use Rattle.tb_sessions.proofs.LookUps.{less_is}
use Rattle.tb_sessions.proofs.Index.{inside, first_found}

-- the latest commit of the rows
abbrev pub latest : List Row → ℕ
latest [] = 0
latest (row ∷ rows) = max row.commit (latest rows)

each_latest : (rows : List Row) → Each (λ (row : Row). row.commit ≤ latest rows) rows
each_latest [] = tt
each_latest (row ∷ rows) = (omega arith, each-map (λ (x : Row). x.commit ≤ latest rows) (λ (x : Row). x.commit ≤ max row.commit (latest rows)) rows (λ x low. omega (arith, low)) (each_latest rows))

pub no_later : {n : ℕ} {rows : Map ℕ Row} {clients : Map ℕ ℕ} → IsIndexed n rows clients → (k : ℕ) (row : Row) → kept_row rows k ≡ Some row → row.commit ≤ latest (values_of (entries rows))
no_later {rows = rows} i k row here = each-find (λ (x : Row). x.commit ≤ latest (values_of (entries rows))) (λ x. client_of x == k) row (values_of (entries rows)) (each_latest (values_of (entries rows))) (sym (found-row client_of k (entries rows) i.own) ∙ here)

-- the first commit; 0 if there is no client
abbrev pub first_commit : List (ℕ × ℕ) → ℕ
first_commit [] = 0
first_commit (e ∷ es) = e.0

-- a client that is behind is at a commit before its row's
pub first_later : {n : ℕ} {rows : Map ℕ Row} {clients : Map ℕ ℕ} → IsIndexed n rows clients → (later : ℕ) → (f : IsFirstBehind rows clients later) → f.commit < later
first_later {clients = clients} i later f =
    let kept = i.linked.kept f.commit f.client (first_found (entries clients) f.commit f.client f.first) in
    let low = kept.2 in
    let same = ap (λ (x : Row). x.commit) (inside (sym kept.1 ∙ f.here)) ∙ f.is in
    elim (cases_lt f.commit later) [
      | inl less ↦ less
      | inr at ↦ absurd (f.behind (omega (arith, low, same, at)))
    ]

-- the first commit rises if the first client is moved to a later one
pub first_rises : (c k later : ℕ) (es es' : List (ℕ × ℕ)) → IsStrictlySortedBy nat_cmp (keys_of es) → es ≡ (c, k) ∷ es' → c < later → c < first_commit (insert_entry nat_cmp es' later k)
unfolding IsStrictlySortedBy
first_rises c k later es es' rise is less = rises es' (subst (λ fs. IsStrictlySortedBy nat_cmp (keys_of fs)) is rise)
  where
    rises : (fs : List (ℕ × ℕ)) → IsStrictlySortedBy nat_cmp (keys_of ((c, k) ∷ fs)) → c < first_commit (insert_entry nat_cmp fs later k)
    rises [] rise = less
    rises (e ∷ fs) rise = by (nat_cmp later e.0)
      where
        by : (o : Ordering) → c < first_commit (match_ordering o ((later, k) ∷ e ∷ fs) ((e.0, k) ∷ fs) (e ∷ insert_entry nat_cmp fs later k))
        by Less = less
        by Equal = less_is c e.0 rise.0.0
        by Greater = less_is c e.0 rise.0.0
