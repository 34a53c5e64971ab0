-- A change of a value in one side of a tree is a change in the tree.
use Rattle.std.proofs.Common.{Bool, true, false, List, Option, None, Some, IsSome, IfSome, ap, ◌∙◌}
use Rattle.std.specs.declared.cmp.Ordering.{Ordering}
use Rattle.std.specs.Fn.{Mut, CalledAtMut}
use Rattle.std.specs.BTreeMap.{is_at}
use Rattle.avl_tree.specs.Nodes.{Exchanges}
use Rattle.avl_tree.specs.Changes.{Changes}
use Rattle.avl_tree.specs.declared.tree.Node.{Node}
use Rattle.avl_tree.specs.declared.tree.Tree.{Tree}
use Rattle.avl_tree.proofs.Steps.{GoesTo, StandsHere, found, written}
use denote.Ref.{MutBor}

module _ {K V A : Type 0} {cmp : K → K → Ordering} {k : K} {t side : Tree K V A} {put : Tree K V A → Tree K V A} {beside : List (K × V) → List (K × V)} (w : GoesTo cmp k t side put beside) where
  pub exchanges : (did : Bool) (u : Tree K V A) (v v' : V) → Exchanges (is_at (cmp k)) side v did u v' → Exchanges (is_at (cmp k)) t v did (put u) v'
  exchanges true u v v' x =
      let kept = w.keeps u (record { balanced = x.balanced; height = x.height }) in
      record { found = found w ∙ x.found; balanced = kept.balanced; height = kept.height; written = written w v u x.written }
  exchanges false u v v' x = (found w ∙ x.0, ap put x.1 ∙ w.whole, x.2)

  pub changes : {F R : Type 0} (c : Mut F (MutBor V × Unit {0}) (R × (MutBor V × Unit {0}))) (o : Option R) (u : Tree K V A) (f f' : F) → Changes c (is_at (cmp k)) side f o f' u → Changes c (is_at (cmp k)) t f o f' (put u)
  changes c (Some r) u f f' x =
      let y = x.0 in
      (record { value = y.value; left = y.left; found = found w ∙ y.found; called = y.called; written = written w y.left u y.written }, w.keeps u x.1)
  changes c None u f f' x = (found w ∙ x.0, x.1, ap put x.2 ∙ w.whole)

pub changes_here : {F K V A R : Type 0} (c : Mut F (MutBor V × Unit {0}) (R × (MutBor V × Unit {0}))) {cmp : K → K → Ordering} {k : K} {t : Tree K V A} {n : Node K V A} {put : V → Tree K V A} → StandsHere cmp k t n put → (r : R) (v : V) (f f' : F) → CalledAtMut c f n.value r f' v → Changes c (is_at (cmp k)) t f (Some r) f' (put v)
changes_here c {n = n} w r v f f' called =
    (record { value = n.value; left = v; found = w.found; called = called; written = w.written v }, w.keeps v)

-- the same for a result that was put into its place
pub changes_into : {F K V A R : Type 0} (c : Mut F (MutBor V × Unit {0}) (R × (MutBor V × Unit {0}))) {cmp : K → K → Ordering} {k : K} {t : Tree K V A} {n : Node K V A} {put : V → Tree K V A} → StandsHere cmp k t n put → (o : Option R) (v : V) (f f' : F) → IsSome o → IfSome o (λ r. CalledAtMut c f n.value r f' v) → Changes c (is_at (cmp k)) t f o f' (put v)
changes_into c w (Some r) v f f' some called = changes_here c w r v f f' called
changes_into c w None v f f' some called = absurd (cc)
