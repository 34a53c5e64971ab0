-- What callers see of a map.
use Rattle.std.specs.Prelude.{ℕ, ◌≤◌, List, length, Option, refl}
use Rattle.std.specs.Coded.{Coded, code_by, coded×, coded_ℕ}
use Rattle.std.specs.Map.{lookup}
use Rattle.std.specs.BTreeMap.{is_at}
use Rattle.std.specs.declared.cmp.Ordering.{Ordering}
use Rattle.avl_tree.specs.Search.{Search, entries_of, least, coded_search}

-- the shape of the tree, with its entries, and the number of nodes that wait for an entry
pub record Map (K V : Type 0) : Type 0 where
  pub tree : Search (K × V)
  pub spare : ℕ

-- the pairs, by rising key
abbrev pub entries : {K V : Type 0} → Map K V → List (K × V)
entries m = entries_of m.tree

-- the value of the key that compares equal
abbrev pub get : {K V : Type 0} → (K → K → Ordering) → Map K V → K → Option V
get cmp m k = lookup (is_at (cmp k)) (entries m)

-- n is at most a height that a balanced tree of so many keys can have
abbrev pub IsShallow : {K V : Type 0} → Map K V → ℕ → Type 0
IsShallow m n = (h : ℕ) × (n ≤ h) × (least h ≤ length (entries m))

-- how a proof distinguishes two maps: by the tree and the count
abbrev pub map_code : {K V : Type 0} → Coded K → Coded V → Coded (Map K V)
map_code {K} {V} k v =
    code_by (Search (K × V) × ℕ) (coded× (coded_search (coded× k v)) coded_ℕ) (λ m. (m.tree, m.spare)) (λ p. record { tree = p.0; spare = p.1 }) (λ _. refl)
