-- What is among the rows once a row was lent to a call.
use Rattle.std.proofs.Common.{◌≡◌, ℕ, Ok, Err, Some, sym, ap, ◌∙◌, subst, ⊎_elim, arith, length}
use Rattle.std.proofs.lemmas.Map.Steps.{set_value_same}
use Rattle.std.specs.Ordering.{nat_cmp}
use Rattle.std.specs.List.Sorted.{IsStrictlySortedBy}
use Rattle.std.specs.Map.{values_of, keys_of, lookup, set_value}
use Rattle.std.specs.BTreeMap.{is_at}
use Rattle.avl_tree.specs.Map.{Map, entries}
use Rattle.tb_records.specs.Messages.{Message}
use Rattle.tb_records.specs.Ordered.{Each, replaced}
use Rattle.tb_records.proofs.ByKey.{found_key}
use Rattle.tb_records.proofs.Entries.{found-row, rows-replaced}
use Rattle.tb_sessions.specs.declared.rows.Row.{Row}
use Rattle.tb_sessions.specs.declared.classes.Class.{Class}
use Rattle.tb_sessions.specs.Judged.{client_of}
use Rattle.tb_sessions.specs.private.Indexed.{IsIndexed, IsLinked, FindsOldest, kept_row, client_at_commit}
use Rattle.tb_sessions.specs.Renewal.{Serving, IsNewBeside, IsLater, IsRenewal, Renews, ServedBy}
use Rattle.tb_sessions.specs.private.Serving.{ServedKept}
use Rattle.tb_sessions.proofs.Index.{index_renewed}

module _ {n : ℕ} {rows : Map ℕ Row} {clients : Map ℕ ℕ} (rows' : Map ℕ Row) (same : entries rows' ≡ entries rows) (spare : rows'.spare ≡ rows.spare) where
  -- the same pairs in a tree of another shape
  pub same_index : IsIndexed n rows clients → IsIndexed n rows' clients
  same_index i =
      let l = ap length same in
      record {
        own = subst (λ es. Each (λ e. client_of e.1 ≡ e.0) es) (sym same) i.own;
        rows_rise = subst (λ es. IsStrictlySortedBy nat_cmp (keys_of es)) (sym same) i.rows_rise;
        commits_rise = i.commits_rise;
        linked = subst (λ es. IsLinked (λ client. lookup (is_at (nat_cmp client)) es) (client_at_commit clients)) (sym same) i.linked;
        even = omega (arith, l, i.even);
        some_capacity = i.some_capacity;
        not_over = omega (arith, l, i.not_over);
        rows_fit = omega (arith, l, spare, i.rows_fit);
        clients_fit = i.clients_fit;
      }

  pub same_oldest : FindsOldest n rows clients → FindsOldest n rows' clients
  same_oldest f =
      let l = ap length same in
      record {
        indexed = same_index f.indexed;
        first = λ full commit client row at here. f.first (omega (arith, l, full)) commit client row at (ap (λ es. lookup (is_at (nat_cmp client)) es) (sym same) ∙ here);
      }

module _ (rows rows' : Map ℕ Row) (k : ℕ) (row left : Row) (found : kept_row rows k ≡ Some row) (is : entries rows' ≡ set_value (is_at (nat_cmp k)) (entries rows) left) where
  -- if the row is left as it was
  entries_kept : left ≡ row → entries rows' ≡ entries rows
  entries_kept same = is ∙ ap (λ v. set_value (is_at (nat_cmp k)) (entries rows) v) same ∙ set_value_same (is_at (nat_cmp k)) (entries rows) row found

  -- if it is left so, or replaced by a later row of the client
  module _ {n : ℕ} {clients : Map ℕ ℕ} (i : IsIndexed n rows clients) (renewal : IsRenewal (values_of (entries rows)) row left) where
    own_left : client_of left ≡ k
    own_left =
        let own = found_key client_of k row (values_of (entries rows)) (sym (found-row client_of k (entries rows) i.own) ∙ found) in
        ⊎_elim (λ (same : left ≡ row). ap client_of same ∙ own) (λ (l : IsLater (values_of (entries rows)) row left). l.own ∙ own) renewal

    rows_after : values_of (entries rows') ≡ replaced client_of left (values_of (entries rows))
    rows_after = ap values_of is ∙ rows-replaced client_of left k (entries rows) own_left i.own

    index_after : rows'.spare ≡ rows.spare → IsIndexed n rows' clients
    index_after spare = ⊎_elim as_it_was later renewal
      where
        as_it_was : left ≡ row → IsIndexed n rows' clients
        as_it_was same = same_index rows' (entries_kept same) spare i

        later : IsLater (values_of (entries rows)) row left → IsIndexed n rows' clients
        later l =
            let of : k ≡ left.client = sym own_left in
            index_renewed i left row (subst (λ q. kept_row rows q ≡ Some row) of found) l.later (subst (λ q. entries rows' ≡ set_value (is_at (nat_cmp q)) (entries rows) left) of is) spare

module _ {F A : Type 0} (c : Serving F A) {f : F} {r : Message} {rows : Map ℕ Row} (f' : F) (r' : Message) (rows' : Map ℕ Row) where
  -- what a call leaves that returned Ok
  module _ {n : ℕ} {clients : Map ℕ ℕ} (answer : A) (kept : ServedKept c rows f r (Ok answer) rows' f' r') (i : IsIndexed n rows clients) (renews : Renews c f (values_of (entries rows)) r) where
    new : IsNewBeside (values_of (entries rows)) r kept.row
    new = record { here = sym (found-row client_of r.client (entries rows) i.own) ∙ kept.found; new = kept.beside.new }

    renewal : IsRenewal (values_of (entries rows)) kept.row kept.left
    renewal = renews kept.row answer f' r' kept.left new kept.beside.served

    pub index_served : rows'.spare ≡ rows.spare → IsIndexed n rows' clients
    index_served spare = index_after rows rows' r.client kept.row kept.left kept.found kept.written i renewal spare

    pub rows_served : ServedBy c f (values_of (entries rows)) r answer f' r' (values_of (entries rows'))
    rows_served = record { row = kept.row; left = kept.left; new = new; served = kept.beside.served; put = rows_after rows rows' r.client kept.row kept.left kept.found kept.written i renewal }

  -- what is left where the class was returned
  module _ (class : Class) (kept : ServedKept c rows f r (Err class) rows' f' r') where
    pub entries_left : entries rows' ≡ entries rows
    entries_left = entries_kept rows rows' r.client kept.row kept.left kept.found kept.written kept.beside.same_row
