-- What a closure leaves that was called on values of a map.
use Rattle.std.specs.Prelude.{◌≡◌, Bool, List, Option, None, Some}
use Rattle.std.specs.Fn.{Mut, CalledAtMut, CalledAtPairMut}
use Rattle.std.specs.Map.{lookup, set_value}
use Rattle.avl_tree.specs.Nodes.{entries, stored_height, IsAvl}
use Rattle.avl_tree.specs.declared.tree.Tree.{Tree}
use denote.Ref.{MutBor}

-- f may be called on a `&mut` to x
abbrev pub TakesAtMut : {F V R : Type 0} → Mut F (MutBor V × Unit {0}) (R × (MutBor V × Unit {0})) → F → V → Type 0
TakesAtMut {F} {V} c f x = (y : MutBor V) → y.now ≡ x → c.pre f (y, tt)

-- f may be called on the value of the key that passes the test
abbrev pub TakesFound : {F K V R : Type 0} → Mut F (MutBor V × Unit {0}) (R × (MutBor V × Unit {0})) → (K → Bool) → List (K × V) → F → Type 0
TakesFound {F} {K} {V} c test es f = (v : V) → lookup test es ≡ Some v → TakesAtMut c f v

-- a call of f on the value of the key that passes the test returned r, left f', and left another value there
pub record Changed {F K V R : Type 0} (c : Mut F (MutBor V × Unit {0}) (R × (MutBor V × Unit {0}))) (test : K → Bool) (es : List (K × V)) (f : F) (r : R) (f' : F) (es' : List (K × V)) : Type 0 where
  pub value : V
  pub left : V
  pub found : lookup test es ≡ Some value
  pub called : CalledAtMut c f value r f' left
  pub written : es' ≡ set_value test es left

-- a call of f on the values of the keys that pass two tests returned r, left f', and left other values there
pub record ChangedTwo {F K V R : Type 0} (c : Mut F (MutBor V × (MutBor V × Unit {0})) (R × (MutBor V × (MutBor V × Unit {0})))) (test test' : K → Bool) (es : List (K × V)) (f : F) (r : R) (f' : F) (es' : List (K × V)) : Type 0 where
  pub value : V
  pub left : V
  pub other : V
  pub other_left : V
  pub found : lookup test es ≡ Some value
  pub other_found : lookup test' es ≡ Some other
  pub called : CalledAtPairMut c f value other r f' left other_left
  pub written : es' ≡ set_value test' (set_value test es left) other_left

-- t' is balanced, and as high as t
pub record KeepsLinks {K V A : Type 0} (t t' : Tree K V A) : Type 0 where
  pub balanced : IsAvl t'
  pub height : stored_height t' ≡ stored_height t

-- f was called on the value in the tree t, or nothing changed because no key passes the test
abbrev pub Changes : {F K V A R : Type 0} → Mut F (MutBor V × Unit {0}) (R × (MutBor V × Unit {0})) → (K → Bool) → Tree K V A → F → Option R → F → Tree K V A → Type 0
Changes c test t f (Some r) f' t' = Changed c test (entries t) f r f' (entries t') × KeepsLinks t t'
Changes c test t f None f' t' = (lookup test (entries t) ≡ None) × (f' ≡ f) × (t' ≡ t)
