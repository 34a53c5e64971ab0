-- What callers see of a map m whose root is exchanged for another one.
use Rattle.std.proofs.Common.{◌≡◌, ℕ, Bool, true, false, Option, None, Some, IfSome, IfNone, refl, sym, ap, subst, ◌∙◌}
use Rattle.std.proofs.lemmas.Bool.{false≢true}
use Rattle.std.specs.declared.cmp.Ordering.{Ordering}
use Rattle.std.specs.Fn.{Mut}
use Rattle.std.specs.Map.{set_value}
use Rattle.std.specs.BTreeMap.{is_at}
use Rattle.avl_tree.specs.Changes.{Changed, Changes, TakesFound}
use Rattle.avl_tree.specs.Map.{Map, entries, get}
use Rattle.avl_tree.specs.Nodes.{entries as entries_below, search_of, Exchanges}
use Rattle.avl_tree.specs.declared.tree.Tree.{Tree}
use Rattle.avl_tree.proofs.Shape.{entries_search_of}
use denote.Ref.{MutBor}
use denote.Param.Always.{always_mut, mut_next}

-- the map of this root
abbrev pub seen_at : {K V A : Type 0} → Tree K V A → ℕ → Map K V
seen_at root spare = record { tree = search_of root; spare = spare }

pub spare_seen : {K V A : Type 0} (root : Tree K V A) (spare : ℕ) (m : Map K V) → seen_at root spare ≡ m → spare ≡ m.spare
spare_seen {K} {V} root spare m is = ap (λ (n : Map K V). n.spare) is

module _ {K V A : Type 0} (cmp : K → K → Ordering) (k : K) (root root' : Tree K V A) (spare : ℕ) (m : Map K V) (is : seen_at root spare ≡ m) where
  seen : entries m ≡ entries_below root
  seen = ap entries (sym is) ∙ entries_search_of root

  same_map : root' ≡ root → seen_at root' spare ≡ m
  same_map same = ap (λ t. seen_at t spare) same ∙ is

  pub exchanged_old : (b : Bool) (v v' : V) → Exchanges (is_at (cmp k)) root v b root' v' → b ≡ true → get cmp m k ≡ Some v'
  exchanged_old true v v' x told = rw seen x.found
  exchanged_old false v v' x told = absurd (false≢true told)

  pub exchanged_written : (b : Bool) (v v' : V) → Exchanges (is_at (cmp k)) root v b root' v' → b ≡ true → entries (seen_at root' spare) ≡ set_value (is_at (cmp k)) (entries m) v
  exchanged_written true v v' x told = rw seen (entries_search_of root' ∙ x.written)
  exchanged_written false v v' x told = absurd (false≢true told)

  pub exchanged_absent : (b : Bool) (v v' : V) → Exchanges (is_at (cmp k)) root v b root' v' → b ≡ false → (get cmp m k ≡ None) × (v' ≡ v) × (seen_at root' spare ≡ m)
  exchanged_absent true v v' x told = absurd (false≢true (sym told))
  exchanged_absent false v v' x told = (rw seen x.0, x.2, same_map x.1)

  module _ {F R : Type 0} (c : Mut F (MutBor V × Unit {0}) (R × (MutBor V × Unit {0}))) (f f' : F) where
    pub takes_seen : TakesFound c (is_at (cmp k)) (entries m) f → TakesFound c (is_at (cmp k)) (entries_below root) f
    takes_seen takes = λ v found. takes v (rw seen found)

    pub changed_seen : (o : Option R) → Changes c (is_at (cmp k)) root f o f' root' → IfSome o (λ r. Changed c (is_at (cmp k)) (entries m) f r f' (entries (seen_at root' spare)))
    changed_seen (Some r) x =
        rw (seen, entries_search_of root') x.0
    changed_seen None x = tt

    pub unchanged_seen : (o : Option R) → Changes c (is_at (cmp k)) root f o f' root' → IfNone o ((get cmp m k ≡ None) × (f' ≡ f) × (seen_at root' spare ≡ m))
    unchanged_seen (Some r) x = tt
    unchanged_seen None x = (rw seen x.0, x.1, same_map x.2)

    pub still_callable : (o : Option R) → Changes c (is_at (cmp k)) root f o f' root' → always_mut c f → always_mut c f'
    still_callable (Some r) x always = mut_next c f _ _ f' f' x.0.called.called refl always
    still_callable None x always = subst (always_mut c) (sym x.1) always
