-- The shape of a tree: how long a path is at most, and how many nodes a height needs.
use Rattle.std.proofs.Common.{◌≡◌, ℕ, zero, suc, ◌+◌, ◌-◌, ◌*◌, ◌^◌, ◌<◌, ◌≤◌, max, ◌∷◌, ◌++◌, length, sym, refl, ap, ◌∙◌, inl, inr, arith, length-append}
use Rattle.std.proofs.lemmas.Bool.{cases_lt}
use Rattle.std.proofs.Math.Nat.{pow-suc}
use Rattle.std.specs.declared.cmp.Ordering.{Ordering}
use Rattle.std.specs.declared.cmp.Ordering.TheVariants.{Less, Equal, Greater}
use Rattle.std.specs.Ordering.{match_ordering}
use Rattle.avl_tree.specs.Search.{Search, fork, entries_of, path_length, least}
use Rattle.avl_tree.specs.Nodes.{entries, stored_height, search_of, IsAvl}
use Rattle.avl_tree.specs.declared.tree.Tree.{Tree}
use Rattle.avl_tree.specs.declared.tree.Tree.TheVariants.{Empty, Fork'}

module _ {K V : Type 0} (compare : K → Ordering) (l r : Search (K × V)) (e : K × V) where
  pub path-left : Less ≡ compare e.0 → path_length compare (fork l e r) ≡ 1 + path_length compare l
  path-left p = let q = sym p in rw q refl

  pub path-right : Greater ≡ compare e.0 → path_length compare (fork l e r) ≡ 1 + path_length compare r
  path-right p = let q = sym p in rw q refl

-- the entries of the shape are those of the nodes
pub entries_search_of : {K V A : Type 0} (t : Tree K V A) → entries_of (search_of t) ≡ entries t
entries_search_of Empty = refl
entries_search_of (Fork' h p k l r v) =
    ap (λ m. m ++ (k, v) ∷ entries_of (search_of r)) (entries_search_of l) ∙ ap (λ m. entries l ++ (k, v) ∷ m) (entries_search_of r)

-- no path is longer than the tree is high
path-fork : {K V : Type 0} (compare : K → Ordering) (l r : Search (K × V)) (e : K × V) (n : ℕ) → path_length compare l ≤ n → path_length compare r ≤ n → path_length compare (fork l e r) ≤ n + 1
path-fork compare l r e n a b =
    elim (compare e.0) as (λ o. 1 + match_ordering o (path_length compare l) 0 (path_length compare r) ≤ n + 1) [
      | Less ↦ omega arith
      | Equal ↦ omega arith
      | Greater ↦ omega arith
    ]

pub path-le-height : {K V A : Type 0} (compare : K → Ordering) (t : Tree K V A) → IsAvl t → path_length compare (search_of t) ≤ stored_height t
path-le-height compare Empty a = omega arith
path-le-height compare (Fork' h p k l r v) a =
    let x = path-le-height compare l a.0 in
    let y = path-le-height compare r a.1 in
    let z = path-fork compare (search_of l) (search_of r) (k, v) (max (stored_height l) (stored_height r)) (omega (arith, x)) (omega (arith, y)) in
    omega (arith, z, a.2)

-- more height needs more nodes
least_suc : (h : ℕ) → least h ≤ least (suc h)
least_suc zero = omega arith
least_suc (suc h) = omega arith

least_more : (a d c : ℕ) → c ≡ a + d → least a ≤ least c
least_more a zero c e = let q : c ≡ a = omega arith in rw q (omega arith)
least_more a (suc d) zero e = absurd (omega arith)
least_more a (suc d) (suc c) e = let x = least_more a d c (omega arith) in omega (arith, x, least_suc c)

least_monotone : (a c : ℕ) → a ≤ c → least a ≤ least c
least_monotone a c h = least_more a (c - a) c (omega arith)

least_cases : (a b h n m : ℕ) → h ≡ max a b + 1 → a ≤ b + 1 → b ≤ a + 1 → least a ≤ n → least b ≤ m → least h ≤ n + (m + 1)
least_cases a b zero n m e p q x y = absurd (omega arith)
least_cases a b (suc zero) n m e p q x y = omega arith
least_cases a b (suc (suc h)) n m e p q x y =
    elim (cases_lt a b) [
      | inl l ↦ let u : suc h ≡ b = omega arith in let v = least_monotone h a (omega arith) in omega (arith, v, ap least u)
      | inr l ↦ let u : suc h ≡ a = omega arith in let v = least_monotone h b (omega arith) in omega (arith, v, ap least u)
    ]

-- a balanced tree has at least the nodes that its height needs
pub least-le-length : {K V A : Type 0} (t : Tree K V A) → IsAvl t → least (stored_height t) ≤ length (entries t)
least-le-length Empty a = omega arith
least-le-length (Fork' h p k l r v) a =
    let x = least-le-length l a.0 in
    let y = least-le-length r a.1 in
    let z = least_cases (stored_height l) (stored_height r) h (length (entries l)) (length (entries r)) a.2 a.3.0 a.3.1 x y in
    omega (arith, z, length-append (entries l) ((k, v) ∷ entries r))

-- so a number of nodes that fits 64 bits bounds the height
double : ℕ → ℕ
double zero = zero
double (suc k) = suc (suc (double k))

pow-le-least : (k : ℕ) → 2 ^ k ≤ least (double k) + 1
unfolding double
pow-le-least zero = omega arith
pow-le-least (suc k) =
    let x = pow-le-least k in
    let y = least_suc (double k) in
    let z : 2 ^ suc k ≡ 2 ^ k * 2 = pow-suc 2 k in
    omega (arith, x, y, z)

height_below : (k h n : ℕ) → least h ≤ n → n + 1 < 2 ^ k → h < double k
height_below k h n l f =
    elim (cases_lt h (double k)) [
      | inl x ↦ x
      | inr x ↦ absurd (omega (arith, least_monotone (double k) h x, pow-le-least k))
    ]

fits_below : (n : ℕ) → n < 2 ^ 64 → n + 1 < 2 ^ 65
fits_below n f = omega arith

pub low : (h n : ℕ) → least h ≤ n → n < 2 ^ 64 → h < 130
unfolding double
low h n l f = height_below 65 h n l (fits_below n f)
