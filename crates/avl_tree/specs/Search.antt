-- The shape of a binary search tree, and how far a search in it goes.
use base.Stored.{Gv, gnil, gnum, gcons, Coded}
use Rattle.std.proofs.Common.{subst, sym, ap}
use Rattle.std.specs.Prelude.{◌≡◌, refl, ℕ, zero, suc, ◌+◌, List, [], ◌∷◌, ◌++◌}
use Rattle.std.specs.Ordering.{match_ordering}
use Rattle.std.specs.declared.cmp.Ordering.{Ordering}

-- a tree with an entry at each fork
pub data Search (E : Type 0) : Type 0 where
  leaf : Search E
  fork : Search E → E → Search E → Search E

-- the entries from the left to the right
abbrev pub entries_of : {E : Type 0} → Search E → List E
entries_of leaf = []
entries_of (fork l e r) = entries_of l ++ e ∷ entries_of r

-- the number of nodes visited on the way from the root to the key that compares equal, or to where it would be
abbrev pub path_length : {K V : Type 0} → (K → Ordering) → Search (K × V) → ℕ
path_length compare leaf = 0
path_length compare (fork l e r) =
    1 + match_ordering (compare e.0) (path_length compare l) 0 (path_length compare r)

-- the least number of nodes that a balanced tree of height h has
abbrev pub least : ℕ → ℕ
least zero = 0
least (suc zero) = 1
least (suc (suc h)) = 1 + least (suc h) + least h

-- the heights 0 to 19
abbrev pub first_heights : List ℕ
first_heights = 0 ∷ 1 ∷ 2 ∷ 3 ∷ 4 ∷ 5 ∷ 6 ∷ 7 ∷ 8 ∷ 9 ∷ 10 ∷ 11 ∷ 12 ∷ 13 ∷ 14 ∷ 15 ∷ 16 ∷ 17 ∷ 18 ∷ 19 ∷ []

-- the least numbers of nodes of these heights
abbrev pub fewest_nodes : List ℕ
fewest_nodes = 0 ∷ 1 ∷ 2 ∷ 4 ∷ 7 ∷ 12 ∷ 20 ∷ 33 ∷ 54 ∷ 88 ∷ 143 ∷ 232 ∷ 376 ∷ 609 ∷ 986 ∷ 1596 ∷ 2583 ∷ 4180 ∷ 6764 ∷ 10945 ∷ []

-- how a proof distinguishes two trees, by the code c of their entries
module _ {E : Type 0} (c : Coded E) where
  abbrev pub search_code : Search E → Gv
  search_code leaf = gnil
  search_code (fork l e r) = gcons (search_code l) (gcons (c.code e) (search_code r))

  abbrev head : Gv → Gv
  head gnil = gnil
  head (gnum n) = gnil
  head (gcons a b) = a

  abbrev tail : Gv → Gv
  tail gnil = gnil
  tail (gnum n) = gnil
  tail (gcons a b) = b

  abbrev IsPair : Gv → Type 0
  IsPair gnil = ⊥
  IsPair (gnum n) = ⊥
  IsPair (gcons a b) = Unit {0}

  pub search_inj : (x y : Search E) → search_code x ≡ search_code y → x ≡ y
  search_inj leaf leaf p = refl
  search_inj leaf (fork l e r) p = absurd (subst IsPair (sym p) tt)
  search_inj (fork l e r) leaf p = absurd (subst IsPair p tt)
  search_inj (fork l e r) (fork l' e' r') p = λ i. fork (search_inj l l' (ap head p) i) (c.inj e e' (ap (λ g. head (tail g)) p) i) (search_inj r r' (ap (λ g. tail (tail g)) p) i)

  abbrev pub coded_search : Coded (Search E)
  coded_search = record { code = search_code; inj = search_inj }
