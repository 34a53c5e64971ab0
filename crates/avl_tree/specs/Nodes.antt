-- What the boxed nodes hold, and when they are balanced.
use Rattle.std.specs.Prelude.{◌≡◌, ◌≢◌, ℕ, ◌+◌, ◌≤◌, ◌<◌, max, List, [], ◌∷◌, ◌++◌, ◌^◌, length, Option, None, Some, Bool, true, false}
use Rattle.std.specs.Map.{keys_of, lookup, set_value}
use Rattle.std.specs.BTreeMap.{is_at}
use Rattle.std.specs.Option.{option_map}
use Rattle.std.specs.declared.boxed.Box.{Box}
use Rattle.std.specs.List.Sorted.{IsStrictlySortedBy}
use Rattle.std.specs.declared.cmp.Ordering.{Ordering}
use Rattle.avl_tree.specs.Search.{Search, leaf, fork}
use Rattle.avl_tree.specs.declared.tree.Tree.{Tree}
use Rattle.avl_tree.specs.declared.tree.Tree.TheVariants.{Empty, Fork'}
use Rattle.avl_tree.specs.declared.tree.Node.{Node}

-- es, after the entry if there is one
abbrev pub with_first : {E : Type 0} → Option E → List E → List E
with_first None es = es
with_first (Some e) es = e ∷ es

-- the entry of a node
abbrev pub entry : {K V A : Type 0} → Node K V A → K × V
entry n = (n.key, n.value)

-- the entries of a tree from the left to the right
abbrev pub entries : {K V A : Type 0} → Tree K V A → List (K × V)
entries Empty = []
entries (Fork' h p k l r v) = entries l ++ (k, v) ∷ entries r

-- the entries of a node and of its sides from the left to the right
abbrev pub entries_at : {K V A : Type 0} → Node K V A → List (K × V)
entries_at n = entries n.left ++ entry n ∷ entries n.right

-- the entry of a node, if there is one
abbrev pub entry_in : {K V A : Type 0} → Option (Box (Node K V A) A) → Option (K × V)
entry_in node = option_map (λ b. entry b.value) node

-- the height that the link to a tree keeps
abbrev pub stored_height : {K V A : Type 0} → Tree K V A → ℕ
stored_height Empty = 0
stored_height (Fork' h p k l r v) = h

-- the height of a node over its sides
abbrev pub height_at : {K V A : Type 0} → Node K V A → ℕ
height_at n = max (stored_height n.left) (stored_height n.right) + 1

-- neither height is more than this above the other
abbrev pub DifferByAtMost : ℕ → ℕ → ℕ → Type 0
DifferByAtMost by l r = (l ≤ r + by) × (r ≤ l + by)

-- each height is right, and no two sides of a node differ by more than one
abbrev pub IsAvl : {K V A : Type 0} → Tree K V A → Type 0
IsAvl Empty = Unit {0}
IsAvl (Fork' h p k l r v) =
    IsAvl l
    × IsAvl r
    × (h ≡ max (stored_height l) (stored_height r) + 1)
    × DifferByAtMost 1 (stored_height l) (stored_height r)

-- the root of a balanced tree, after one of its sides has become one level higher or lower
abbrev pub IsNearlyAvl : {K V A : Type 0} → Tree K V A → Type 0
IsNearlyAvl Empty = Unit {0}
IsNearlyAvl (Fork' h p k l r v) =
    IsAvl l
    × IsAvl r
    × (max (stored_height l) (stored_height r) < 250)
    × DifferByAtMost 2 (stored_height l) (stored_height r)

-- the sides of the root differ by at most one, and h is its height over them
abbrev pub IsLevelAt : {K V A : Type 0} → ℕ → Tree K V A → Type 0
IsLevelAt h Empty = Unit {0}
IsLevelAt h (Fork' _ p k l r v) =
    DifferByAtMost 1 (stored_height l) (stored_height r)
    × (h ≡ max (stored_height l) (stored_height r) + 1)

-- the height h of the balanced tree of two sides and a node between them
abbrev pub IsHeightOver : ℕ → ℕ → ℕ → Type 0
IsHeightOver l r h = (max l r ≤ h) × (h ≤ max l r + 1) × (DifferByAtMost 1 l r → h ≡ max l r + 1)

-- t after its root is balanced again: the same entries, and a height that its sides allow
abbrev pub SettlesTo : {K V A : Type 0} → Tree K V A → Tree K V A → Type 0
SettlesTo Empty u = u ≡ Empty
SettlesTo (Fork' h p k l r v) u =
    IsAvl u
    × (entries u ≡ entries l ++ (k, v) ∷ entries r)
    × IsHeightOver (stored_height l) (stored_height r) (stored_height u)

-- a node with no side
abbrev pub IsBare : {K V A : Type 0} → Node K V A → Type 0
IsBare n = (n.left ≡ Empty) × (n.right ≡ Empty)

-- the keys rise
abbrev pub IsOrdered : {K V : Type 0} → (K → K → Ordering) → List (K × V) → Type 0
IsOrdered cmp es = IsStrictlySortedBy cmp (keys_of es)

-- a balanced tree whose keys rise
abbrev pub IsSearchTree : {K V A : Type 0} → (K → K → Ordering) → Tree K V A → Type 0
IsSearchTree cmp t = IsAvl t × IsOrdered cmp (entries t)

-- a search for k in t may go on in u
pub record LeadsTo {K V A : Type 0} (cmp : K → K → Ordering) (k : K) (t u : Tree K V A) : Type 0 where
  pub searched : IsSearchTree cmp u
  pub same : lookup (is_at (cmp k)) (entries u) ≡ lookup (is_at (cmp k)) (entries t)

-- the shape of the tree, with its entries
abbrev pub search_of : {K V A : Type 0} → Tree K V A → Search (K × V)
search_of Empty = leaf
search_of (Fork' h p k l r v) = fork (search_of l) (k, v) (search_of r)

-- a tree of height h has height h' after an insert
abbrev pub IsGrown : ℕ → ℕ → Type 0
IsGrown h h' = (h ≤ h') × (h' ≤ h + 1)

-- a tree of height h has height h' after a removal
abbrev pub IsShrunk : ℕ → ℕ → Type 0
IsShrunk h h' = (h' ≤ h) × (h ≤ h' + 1)

-- exactly a change of the height is reported
abbrev pub IsTold : Bool → ℕ → ℕ → Type 0
IsTold told h h' = (told ≡ false → h' ≡ h) × (told ≡ true → h' ≡ h → ⊥)

-- after an insert the height is the same or one more, as reported
abbrev pub IsGrownAsTold : Bool → ℕ → ℕ → Type 0
IsGrownAsTold told h h' = IsGrown h h' × IsTold told h h'

-- after a removal the height is the same or one less, as reported
abbrev pub IsShrunkAsTold : Bool → ℕ → ℕ → Type 0
IsShrunkAsTold told h h' = IsShrunk h h' × IsTold told h h'

-- the root has no left side
abbrev pub HasNoLeft : {K V A : Type 0} → Tree K V A → Type 0
HasNoLeft Empty = Unit {0}
HasNoLeft (Fork' h p k l r v) = l ≡ Empty

-- the entries of the two sides of the root
abbrev pub beside_root : {K V A : Type 0} → Tree K V A → List (K × V)
beside_root Empty = []
beside_root (Fork' h p k l r v) = entries l ++ entries r

-- the entry of the root
abbrev pub root_entry : {K V A : Type 0} → Tree K V A → Option (K × V)
root_entry Empty = None
root_entry (Fork' h p k l r v) = Some (k, v)

-- a tree t and a value v after the value at the key that passes the test was exchanged for v, if there is one
pub record Exchanged {K V A : Type 0} (test : K → Bool) (t : Tree K V A) (v : V) (t' : Tree K V A) (v' : V) : Type 0 where
  pub found : lookup test (entries t) ≡ Some v'
  pub balanced : IsAvl t'
  pub height : stored_height t' ≡ stored_height t
  pub written : entries t' ≡ set_value test (entries t) v

abbrev pub Exchanges : {K V A : Type 0} → (K → Bool) → Tree K V A → V → Bool → Tree K V A → V → Type 0
Exchanges test t v true t' v' = Exchanged test t v t' v'
Exchanges test t v false t' v' = (lookup test (entries t) ≡ None) × (t' ≡ t) × (v' ≡ v)

-- the nodes of a chain through left sides have no right side
abbrev pub IsSpareChain : {K V A : Type 0} → Tree K V A → Type 0
IsSpareChain Empty = Unit {0}
IsSpareChain (Fork' h p k l r v) = IsSpareChain l × (r ≡ Empty)

-- how many nodes such a chain has
abbrev pub nodes_in_chain : {K V A : Type 0} → Tree K V A → ℕ
nodes_in_chain Empty = 0
nodes_in_chain (Fork' h p k l r v) = nodes_in_chain l + 1

-- what holds of the fields of a map: a balanced tree whose keys rise, its size, and a count of all nodes that fits
pub record IsWholeTree {K V A : Type 0} (cmp : K → K → Ordering) (root : Tree K V A) (len spare : ℕ) : Type 0 where
  pub balanced : IsAvl root
  pub sorted : IsOrdered cmp (entries root)
  pub counted : len ≡ length (entries root)
  pub fits : len + spare < 2 ^ 64
