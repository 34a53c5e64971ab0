-- Records in the order of a key: finite maps as lists by rising key. No contract of this crate uses it.
use Rattle.std.specs.Prelude.{ℕ, ◌==◌, nat_lt, ◌<◌, List, [], ◌∷◌, if◌then◌else◌}

-- with one more record, in its place
abbrev pub put : {X : Type 0} → (X → ℕ) → X → List X → List X
put key x [] = x ∷ []
put key x (y ∷ ys) = if nat_lt (key y) (key x) then y ∷ put key x ys else x ∷ y ∷ ys

-- with a record in the place of the one that has its key
abbrev pub replaced : {X : Type 0} → (X → ℕ) → X → List X → List X
replaced key x [] = []
replaced key x (y ∷ ys) = if key y == key x then x ∷ ys else y ∷ replaced key x ys

-- without the record that has the key
abbrev pub taken_out : {X : Type 0} → (X → ℕ) → ℕ → List X → List X
taken_out key id [] = []
taken_out key id (y ∷ ys) = if key y == id then ys else y ∷ taken_out key id ys

-- with the record that has the key changed, if there is one
abbrev pub changed : {X : Type 0} → (X → ℕ) → ℕ → (X → X) → List X → List X
changed key id f [] = []
changed key id f (y ∷ ys) = if key y == id then f y ∷ ys else y ∷ changed key id f ys

-- P holds of each
abbrev pub Each : {X : Type 0} → (X → Type 0) → List X → Type 0
Each P [] = Unit {0}
Each P (x ∷ xs) = P x × Each P xs

-- keys rise strictly
abbrev pub Rising : {X : Type 0} → (X → ℕ) → List X → Type 0
Rising key [] = Unit {0}
Rising key (x ∷ xs) = Each (λ y. key x < key y) xs × Rising key xs
