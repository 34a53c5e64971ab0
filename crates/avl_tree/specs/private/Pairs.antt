-- What a closure leaves that was called on two values of a tree, while the search for them goes on.
use Rattle.std.specs.Prelude.{◌≡◌, Bool, true, false, List, Option, None, Some, ◌⊎◌}
use Rattle.std.specs.BTreeMap.{is_at}
use Rattle.std.specs.declared.cmp.Ordering.{Ordering}
use Rattle.std.specs.Fn.{Mut, CalledAtPairMut}
use Rattle.std.specs.Map.{lookup, set_value}
use Rattle.avl_tree.specs.Nodes.{entries}
use Rattle.avl_tree.specs.Changes.{KeepsLinks}
use Rattle.avl_tree.specs.declared.tree.Tree.{Tree}
use denote.Ref.{MutBor}

-- a closure that takes two values and returns an R
abbrev pub Taking : Type 0 → Type 0 → Type 0 → Type 1
Taking F V R = Mut F (MutBor V × (MutBor V × Unit {0})) (R × (MutBor V × (MutBor V × Unit {0})))

-- a call of f on x and y, or on y and x if they are not in order, returned r and left f', x' and y'
abbrev pub CalledAtBoth : {F V R : Type 0} → Taking F V R → Bool → F → V → V → R → F → V → V → Type 0
CalledAtBoth c true f x y r f' x' y' = CalledAtPairMut c f x y r f' x' y'
CalledAtBoth c false f x y r f' x' y' = CalledAtPairMut c f y x r f' y' x'

-- such a call on the value d and the value of the key that passes the test
pub record ChangedBeside {F K V R : Type 0} (c : Taking F V R) (in_order : Bool) (test : K → Bool) (d : V) (es : List (K × V)) (f : F) (r : R) (f' : F) (d' : V) (es' : List (K × V)) : Type 0 where
  pub value : V
  pub left : V
  pub found : lookup test es ≡ Some value
  pub called : CalledAtBoth c in_order f d value r f' d' left
  pub written : es' ≡ set_value test es left

-- such a call on the values of two keys, each in a list of its own
pub record ChangedApart {F K V R : Type 0} (c : Taking F V R) (in_order : Bool) (low high : K → Bool) (es ds : List (K × V)) (f : F) (r : R) (f' : F) (es' ds' : List (K × V)) : Type 0 where
  pub value : V
  pub left : V
  pub other : V
  pub other_left : V
  pub found : lookup low es ≡ Some value
  pub other_found : lookup high ds ≡ Some other
  pub called : CalledAtBoth c in_order f value other r f' left other_left
  pub written : es' ≡ set_value low es left
  pub other_written : ds' ≡ set_value high ds other_left

-- such a call on the values of two keys of one list
pub record ChangedBoth {F K V R : Type 0} (c : Taking F V R) (in_order : Bool) (low high : K → Bool) (es : List (K × V)) (f : F) (r : R) (f' : F) (es' : List (K × V)) : Type 0 where
  pub value : V
  pub left : V
  pub other : V
  pub other_left : V
  pub found : lookup low es ≡ Some value
  pub other_found : lookup high es ≡ Some other
  pub called : CalledAtBoth c in_order f value other r f' left other_left
  pub written : es' ≡ set_value high (set_value low es left) other_left

-- the same for trees, by the order of their keys: f was called, or nothing changed because a key is missing
module _ {F K V A R : Type 0} (c : Taking F V R) (in_order : Bool) (cmp : K → K → Ordering) where
  abbrev pub ChangesBeside : K → V → Tree K V A → F → Option R → F → V → Tree K V A → Type 0
  ChangesBeside key d t f (Some r) f' d' t' = ChangedBeside c in_order (is_at (cmp key)) d (entries t) f r f' d' (entries t') × KeepsLinks t t'
  ChangesBeside key d t f None f' d' t' = (lookup (is_at (cmp key)) (entries t) ≡ None) × (f' ≡ f) × (d' ≡ d) × (t' ≡ t)

  abbrev pub ChangesApart : K → K → Tree K V A → Tree K V A → F → Option R → F → Tree K V A → Tree K V A → Type 0
  ChangesApart low high t u f (Some r) f' t' u' = ChangedApart c in_order (is_at (cmp low)) (is_at (cmp high)) (entries t) (entries u) f r f' (entries t') (entries u') × KeepsLinks t t' × KeepsLinks u u'
  ChangesApart low high t u f None f' t' u' = ((lookup (is_at (cmp low)) (entries t) ≡ None) ⊎ (lookup (is_at (cmp high)) (entries u) ≡ None)) × (f' ≡ f) × (t' ≡ t) × (u' ≡ u)

  abbrev pub ChangesBoth : K → K → Tree K V A → F → Option R → F → Tree K V A → Type 0
  ChangesBoth low high t f (Some r) f' t' = ChangedBoth c in_order (is_at (cmp low)) (is_at (cmp high)) (entries t) f r f' (entries t') × KeepsLinks t t'
  ChangesBoth low high t f None f' t' = ((lookup (is_at (cmp low)) (entries t) ≡ None) ⊎ (lookup (is_at (cmp high)) (entries t) ≡ None)) × (f' ≡ f) × (t' ≡ t)
