-- What a table keeps in a tree.
use Rattle.std.specs.Prelude.{ℕ, ◌≡◌, ◌≢◌, ◌<◌, ◌≤◌, ◌==◌, find, map, true, List, [], ◌∷◌, Option, Some, if◌then◌else◌, ◌⊎◌, None}
use Rattle.std.specs.Fn.{Mut, CalledAtMut, CalledAtPairMut}
use denote.Ref.{MutBor}
use Rattle.std.specs.Option.{is_some, option_map_or}
use Rattle.std.specs.Map.{values_of}
use Rattle.tb_records.specs.Ordered.{replaced, Each, Rising}
use Rattle.avl_tree.specs.Map.{Map, entries}
use Rattle.avl_tree.specs.Search.{least}
use Rattle.tb_ledger.specs.declared.tables.absent_ids.AbsentIds.{AbsentIds}

-- a map that is made only once there is something to keep: its pairs, its rows, and the number of spare nodes
abbrev pub pairs_in : {K V : Type 0} → Option (Map K V) → List (K × V)
pairs_in m = option_map_or (λ m. entries m) m []

abbrev pub rows_in : {K V : Type 0} → Option (Map K V) → List V
rows_in m = values_of (pairs_in m)

abbrev pub spare_in : {K V : Type 0} → Option (Map K V) → ℕ
spare_in m = option_map_or (λ m. m.spare) m 0

-- what a table keeps, in its order, and its spare rows
pub record Stored (V : Type 0) : Type 0 where
  pub items : List V
  pub spare : ℕ

-- the number of rows that become spare when something is removed
abbrev pub freed : {X : Type 0} → Option X → ℕ
freed o = if is_some o then 1 else 0

-- each row is at its own key, and keys rise
pub record IsTable {V : Type 0} (key : V → ℕ) (es : List (ℕ × V)) : Type 0 where
  pub own : Each (λ e. key e.1 ≡ e.0) es
  pub rising : Rising key (values_of es)

-- by what a table knows of its keys, k may be a key: it is at most the top, and if ids were looked up, it differs from each that was not found (0
-- means no id)
pub record MayBeKey (known : AbsentIds) (k : ℕ) : Type 0 where
  pub at_most : k ≤ known.top
  pub unlike : known.sought ≡ true → Each (λ id. 0 < id → k ≢ id) known.absent

-- a table, and what it knows of its keys
pub record KnowsAbsent {V : Type 0} (key : V → ℕ) (known : AbsentIds) (es : List (ℕ × V)) : Type 0 where
  pub table : IsTable key es
  pub may : Each (λ row. MayBeKey known (key row)) (values_of es)

-- the ids that were not found, with 0 for each id that was found
abbrev pub unfound : {V : Type 0} → List ℕ → List (Option V) → List ℕ
unfound [] rows = []
unfound (id ∷ ids) [] = []
unfound (id ∷ ids) (row ∷ rows) = (if is_some row then 0 else id) ∷ unfound ids rows

-- the ids, with 0 in the place of one
abbrev pub without_id : ℕ → List ℕ → List ℕ
without_id id ids = map (λ x. if x == id then 0 else x) ids

-- a search among so many rows visited so many nodes: at most the height of a balanced tree of them, and none only if there are no rows
pub record IsShortSearch (rows visits : ℕ) : Type 0 where
  pub height : ℕ
  pub at_most : visits ≤ height
  pub enough : least height ≤ rows
  pub none : visits ≡ 0 → rows ≡ 0

-- a call at a row does not change its key
abbrev pub KeepsKey : {F V R : Type 0} → (V → ℕ) → Mut F (MutBor V × Unit {0}) (R × (MutBor V × Unit {0})) → Type 0
KeepsKey {F} {V} {R} key c = (f : F) (x : V) (r : R) (f' : F) (x' : V) → CalledAtMut c f x r f' x' → key x' ≡ key x

-- a call of f at the row of a key returned r, left f', and left another row there
pub record ChangedRow {F V R : Type 0} (key : V → ℕ) (c : Mut F (MutBor V × Unit {0}) (R × (MutBor V × Unit {0}))) (id : ℕ) (rows : List V) (f : F) (r : R) (f' : F) (later : List V) : Type 0 where
  pub row : V
  pub left : V
  pub found : find (λ x. key x == id) rows ≡ Some row
  pub called : CalledAtMut c f row r f' left
  pub written : later ≡ replaced key left rows

-- a call at two rows does not change the keys
abbrev pub KeepsKeys : {F V R : Type 0} → (V → ℕ) → Mut F (MutBor V × (MutBor V × Unit {0})) (R × (MutBor V × (MutBor V × Unit {0}))) → Type 0
KeepsKeys {F} {V} {R} key c = (f : F) (x y : V) (r : R) (f' : F) (x' y' : V) → CalledAtPairMut c f x y r f' x' y' → (key x' ≡ key x) × (key y' ≡ key y)

-- a call of f at the rows of two keys returned r, left f', and left other rows there
pub record ChangedRows {F V R : Type 0} (key : V → ℕ) (c : Mut F (MutBor V × (MutBor V × Unit {0})) (R × (MutBor V × (MutBor V × Unit {0})))) (a b : ℕ) (rows : List V) (f : F) (r : R) (f' : F) (later : List V) : Type 0 where
  pub row : V
  pub left : V
  pub other : V
  pub other_left : V
  pub found : find (λ x. key x == a) rows ≡ Some row
  pub other_found : find (λ x. key x == b) rows ≡ Some other
  pub called : CalledAtPairMut c f row other r f' left other_left
  pub written : later ≡ replaced key other_left (replaced key left rows)

-- no row has one of two keys
abbrev pub LacksOneOf : {V : Type 0} → (V → ℕ) → ℕ → ℕ → List V → Type 0
LacksOneOf key a b rows = (find (λ x. key x == a) rows ≡ None) ⊎ (find (λ x. key x == b) rows ≡ None)
