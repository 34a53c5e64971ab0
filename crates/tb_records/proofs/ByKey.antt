-- Records in the order of a key: what a change leaves, and what is found after it.
use Rattle.std.proofs.Common.{◌≡◌, ◌≢◌, ℕ, ◌+◌, ◌<◌, Bool, true, false, if◌then◌else◌, eqb, ◌==◌, List, [], ◌∷◌, map, find, sum_by, Some, None, option_map, refl, sym, ap, subst, ◌∙◌, arith}
use Rattle.std.proofs.lemmas.Bool.Decides.{nat_tests}
use Rattle.std.proofs.lemmas.List.Sums.{sum_by-cons}
use Rattle.tb_records.specs.Ordered.{put, replaced, taken_out, changed, Each, Rising}

-- sums

-- equal shares give equal sums
pub sum_by-same : {X : Type 0} (f g : X → ℕ) (xs : List X) → Each (λ x. f x ≡ g x) xs → sum_by f xs ≡ sum_by g xs
sum_by-same f g [] same = refl
sum_by-same f g (x ∷ xs) same = let later = sum_by-same f g xs same.1 in let here : f x ≡ g x = same.0 in omega (arith, sum_by-cons f x xs, sum_by-cons g x xs)

-- a sum over what g makes of the records
pub sum_by-through : {X Y : Type 0} (f : Y → ℕ) (g : X → Y) (xs : List X) → sum_by f (map g xs) ≡ sum_by (λ x. f (g x)) xs
sum_by-through f g [] = refl
sum_by-through f g (x ∷ xs) = omega (arith, sum_by-cons f (g x) (map g xs), sum_by-cons (λ x. f (g x)) x xs, sum_by-through f g xs)

-- a record more adds its share
pub sum_by-put : {X : Type 0} (key : X → ℕ) (f : X → ℕ) (x : X) (xs : List X) → sum_by f (put key x xs) ≡ f x + sum_by f xs
sum_by-put key f x [] = omega arith
sum_by-put key f x (y ∷ ys) = grind (arith, sum_by-cons f y (put key x ys), sum_by-cons f y ys, sum_by-cons f x (y ∷ ys), sum_by-put key f x ys)

-- a record in the place of another adds its share and removes the other's
pub sum_by-replaced : {X : Type 0} (key : X → ℕ) (f : X → ℕ) (x old : X) (xs : List X) → find (λ y. key y == key x) xs ≡ Some old → sum_by f (replaced key x xs) + f old ≡ sum_by f xs + f x
sum_by-replaced key f x old [] found = absurd (cc)
sum_by-replaced key f x old (y ∷ ys) found = grind (arith, sum_by-replaced key f x old ys, sum_by-cons)

-- what is found

-- what is found passes the test
pub find_passes : {X : Type 0} (p : X → Bool) (x : X) (xs : List X) → find p xs ≡ Some x → p x ≡ true
find_passes p x [] found = absurd (cc)
find_passes p x (y ∷ ys) found = grind (arith, find_passes p x ys)

-- what is found by its key has the key
pub found_key : {X : Type 0} (key : X → ℕ) (id : ℕ) (x : X) (xs : List X) → find (λ y. key y == id) xs ≡ Some x → key x ≡ id
found_key key id x xs found = let e : eqb (key x) id ≡ true = find_passes (λ y. key y == id) x xs found in grind (arith, nat_tests)

pub find-put_other : {X : Type 0} (key : X → ℕ) (p : X → Bool) (x : X) (xs : List X) → p x ≡ false → find p (put key x xs) ≡ find p xs
find-put_other key p x [] fails = rw fails refl
find-put_other key p x (y ∷ ys) fails = grind (arith, find-put_other key p x ys fails)

pub find-put_here : {X : Type 0} (key : X → ℕ) (p : X → Bool) (x : X) (xs : List X) → p x ≡ true → find p xs ≡ None → find p (put key x xs) ≡ Some x
find-put_here key p x [] passes none = rw passes refl
find-put_here key p x (y ∷ ys) passes none = grind (arith, find-put_here key p x ys)

-- if nothing is found after a record was added, the record is not found and nothing was found before
pub find-put_none : {X : Type 0} (key : X → ℕ) (p : X → Bool) (x : X) (xs : List X) → find p (put key x xs) ≡ None → (p x ≡ false) × (find p xs ≡ None)
find-put_none key p x [] none = grind arith
find-put_none key p x (y ∷ ys) none = grind (arith, find-put_none key p x ys)

-- a test that no record of x's key passes finds the same
pub find-replaced_other : {X : Type 0} (key : X → ℕ) (p : X → Bool) (x : X) (xs : List X) → ((y : X) → key y ≡ key x → p y ≡ false) → find p (replaced key x xs) ≡ find p xs
find-replaced_other key p x [] fails = refl
find-replaced_other key p x (y ∷ ys) fails =
    let later = find-replaced_other key p x ys fails in
    grind (arith, nat_tests, fails y, fails x refl)

-- the record in another's place is found by its key
pub find-replaced_here : {X : Type 0} (key : X → ℕ) (x old : X) (xs : List X) → find (λ y. key y == key x) xs ≡ Some old → find (λ y. key y == key x) (replaced key x xs) ≡ Some x
find-replaced_here key x old [] found = absurd (cc)
find-replaced_here key x old (y ∷ ys) found = grind (arith, nat_tests, find-replaced_here key x old ys)

pub find-map : {X Y : Type 0} (p : Y → Bool) (g : X → Y) (xs : List X) → find p (map g xs) ≡ option_map g (find (λ x. p (g x)) xs)
find-map p g [] = refl
find-map p g (x ∷ xs) = grind (arith, find-map p g xs)

-- what holds of each

pub each-map : {X : Type 0} (P Q : X → Type 0) (xs : List X) → ((x : X) → P x → Q x) → Each P xs → Each Q xs
each-map P Q [] leads each = tt
each-map P Q (x ∷ xs) leads each = (leads x each.0, each-map P Q xs leads each.1)

-- what holds of whatever there is
pub each-all : {X : Type 0} (P : X → Type 0) (xs : List X) → ((x : X) → P x) → Each P xs
each-all P [] all = tt
each-all P (x ∷ xs) all = (all x, each-all P xs all)

-- two facts of each
pub each-both : {X : Type 0} (P Q R : X → Type 0) (xs : List X) → ((x : X) → P x → Q x → R x) → Each P xs → Each Q xs → Each R xs
each-both P Q R [] leads ps qs = tt
each-both P Q R (x ∷ xs) leads ps qs = (leads x ps.0 qs.0, each-both P Q R xs leads ps.1 qs.1)

-- of each of what g makes of the records
pub each-through : {X Y : Type 0} (P : Y → Type 0) (g : X → Y) (xs : List X) → Each (λ x. P (g x)) xs → Each P (map g xs)
each-through P g [] each = tt
each-through P g (x ∷ xs) each = (each.0, each-through P g xs each.1)

pub each-back : {X Y : Type 0} (P : Y → Type 0) (g : X → Y) (xs : List X) → Each P (map g xs) → Each (λ x. P (g x)) xs
each-back P g [] each = tt
each-back P g (x ∷ xs) each = (each.0, each-back P g xs each.1)

pub each-find : {X : Type 0} (P : X → Type 0) (p : X → Bool) (x : X) (xs : List X) → Each P xs → find p xs ≡ Some x → P x
each-find P p x [] each found = absurd (cc)
each-find P p x (y ∷ ys) each found = grind (arith, each-find P p x ys)

-- a test that each record fails finds nothing
pub none-found : {X : Type 0} (p : X → Bool) (xs : List X) → Each (λ x. p x ≡ false) xs → find p xs ≡ None
none-found p [] fails = refl
none-found p (x ∷ xs) fails = rw (fails.0, none-found p xs fails.1) refl

pub none-fails : {X : Type 0} (p : X → Bool) (xs : List X) → find p xs ≡ None → Each (λ x. p x ≡ false) xs
none-fails p [] none = tt
none-fails p (x ∷ xs) none = grind (arith, none-fails p xs)

pub each-put : {X : Type 0} (key : X → ℕ) (P : X → Type 0) (x : X) (xs : List X) → P x → Each P xs → Each P (put key x xs)
each-put key P x [] here each = (here, tt)
each-put key P x (y ∷ ys) here each = grind (arith, each-put key P x ys here each.1)

-- what holds of keys
each-replaced_key : {X : Type 0} (key : X → ℕ) (Q : ℕ → Type 0) (x : X) (xs : List X) → Each (λ y. Q (key y)) xs → Each (λ y. Q (key y)) (replaced key x xs)
each-replaced_key key Q x [] each = tt
each-replaced_key key Q x (y ∷ ys) each = grind (arith, nat_tests, each-replaced_key key Q x ys each.1)

-- of the others their key differs
pub each-replaced : {X : Type 0} (key : X → ℕ) (P Q : X → Type 0) (x : X) (xs : List X) → Rising key xs → Q x → ((y : X) → key y ≢ key x → P y → Q y) → Each P xs → Each Q (replaced key x xs)
each-replaced key P Q x [] rising here others each = tt
each-replaced key P Q x (y ∷ ys) rising here others each =
    let later = each-replaced key P Q x ys rising.1 here others each.1 in
    let behind : key y ≡ key x → Each Q ys = λ same. each-both (λ z. key y < key z) P Q ys (λ z above is. let other : key z ≢ key x = omega arith in others z other is) rising.0 each.1 in
    grind (arith, nat_tests, others y)

-- of all of them the same holds
pub each-replaced_all : {X : Type 0} (key : X → ℕ) (P : X → Type 0) (x : X) (xs : List X) → P x → Each P xs → Each P (replaced key x xs)
each-replaced_all key P x [] here each = tt
each-replaced_all key P x (y ∷ ys) here each = grind (arith, each-replaced_all key P x ys here each.1)

pub each-taken_out : {X : Type 0} (key : X → ℕ) (P : X → Type 0) (id : ℕ) (xs : List X) → Each P xs → Each P (taken_out key id xs)
each-taken_out key P id [] each = tt
each-taken_out key P id (y ∷ ys) each = grind (arith, each-taken_out key P id ys each.1)

-- the order stays

pub rising-put : {X : Type 0} (key : X → ℕ) (x : X) (xs : List X) → find (λ y. key y == key x) xs ≡ None → Rising key xs → Rising key (put key x xs)
rising-put key x [] none rising = (tt, tt)
rising-put key x (y ∷ ys) none rising =
    let further : key x < key y → Each (λ z. key x < key z) ys = λ above. each-map (λ z. key y < key z) (λ z. key x < key z) ys (λ z more. omega arith) rising.0 in
    let behind : key y < key x → Each (λ z. key y < key z) (put key x ys) = λ below. each-put key (λ z. key y < key z) x ys below rising.0 in
    grind (arith, nat_tests, rising-put key x ys)

pub rising-replaced : {X : Type 0} (key : X → ℕ) (x : X) (xs : List X) → Rising key xs → Rising key (replaced key x xs)
rising-replaced key x [] rising = tt
rising-replaced key x (y ∷ ys) rising =
    let above = each-replaced_key key (λ k. key y < k) x ys rising.0 in
    let here : key y ≡ key x → Each (λ z. key x < key z) ys = λ same. subst (λ k. Each (λ z. k < key z) ys) same rising.0 in
    grind (arith, nat_tests, rising-replaced key x ys rising.1)

pub rising-taken_out : {X : Type 0} (key : X → ℕ) (id : ℕ) (xs : List X) → Rising key xs → Rising key (taken_out key id xs)
rising-taken_out key id [] rising = tt
rising-taken_out key id (y ∷ ys) rising =
    let above = each-taken_out key (λ z. key y < key z) id ys rising.0 in
    grind (arith, rising-taken_out key id ys rising.1)

-- the view of a changed list

-- a row more is a record more
pub map-put : {X Y : Type 0} (key : Y → ℕ) (g : X → Y) (x : X) (xs : List X) → map g (put (λ x. key (g x)) x xs) ≡ put key (g x) (map g xs)
map-put key g x [] = refl
map-put key g x (y ∷ ys) = grind (arith, map-put key g x ys)

-- a row whose record stays is no change
pub map-replaced : {X Y : Type 0} (key : X → ℕ) (g : X → Y) (x old : X) (xs : List X) → find (λ y. key y == key x) xs ≡ Some old → g x ≡ g old → map g (replaced key x xs) ≡ map g xs
map-replaced key g x old [] found same = refl
map-replaced key g x old (y ∷ ys) found same = grind (arith, map-replaced key g x old ys)

-- undo

pub taken_out-put : {X : Type 0} (key : X → ℕ) (x : X) (xs : List X) → find (λ y. key y == key x) xs ≡ None → taken_out key (key x) (put key x xs) ≡ xs
taken_out-put key x [] none = grind (arith, nat_tests)
taken_out-put key x (y ∷ ys) none = grind (arith, nat_tests, taken_out-put key x ys)

pub replaced-replaced : {X : Type 0} (key : X → ℕ) (x old : X) (xs : List X) → find (λ y. key y == key x) xs ≡ Some old → replaced key old (replaced key x xs) ≡ xs
replaced-replaced key x old [] found = refl
replaced-replaced key x old (y ∷ ys) found =
    let has : key old ≡ key x = found_key key (key x) old (y ∷ ys) found in
    grind (arith, nat_tests, replaced-replaced key x old ys)

-- a record changed

-- of the others their key differs
pub each-changed : {X : Type 0} (key : X → ℕ) (P Q : X → Type 0) (id : ℕ) (f : X → X) (xs : List X) → Rising key xs → ((y : X) → key y ≡ id → P y → Q (f y)) → ((y : X) → key y ≢ id → P y → Q y) → Each P xs → Each Q (changed key id f xs)
each-changed key P Q id f [] rising here others each = tt
each-changed key P Q id f (y ∷ ys) rising here others each =
    let later = each-changed key P Q id f ys rising.1 here others each.1 in
    let behind : key y ≡ id → Each Q ys = λ same. each-both (λ z. key y < key z) P Q ys (λ z above is. let other : key z ≢ id = omega arith in others z other is) rising.0 each.1 in
    grind (arith, nat_tests, here y, others y)

-- a row whose record stays is no change
pub map-changed : {X Y : Type 0} (key : X → ℕ) (g : X → Y) (id : ℕ) (f : X → X) (xs : List X) → ((y : X) → g (f y) ≡ g y) → map g (changed key id f xs) ≡ map g xs
map-changed key g id f [] same = refl
map-changed key g id f (y ∷ ys) same = grind (arith, map-changed key g id f ys same, same y)

each-changed_key : {X : Type 0} (key : X → ℕ) (Q : ℕ → Type 0) (id : ℕ) (f : X → X) (xs : List X) → ((y : X) → key (f y) ≡ key y) → Each (λ y. Q (key y)) xs → Each (λ y. Q (key y)) (changed key id f xs)
each-changed_key key Q id f [] same each = tt
each-changed_key key Q id f (y ∷ ys) same each = grind (arith, each-changed_key key Q id f ys same each.1, same y)

pub rising-changed : {X : Type 0} (key : X → ℕ) (id : ℕ) (f : X → X) (xs : List X) → ((y : X) → key (f y) ≡ key y) → Rising key xs → Rising key (changed key id f xs)
rising-changed key id f [] same rising = tt
rising-changed key id f (y ∷ ys) same rising =
    let above = each-changed_key key (λ k. key y < k) id f ys same rising.0 in
    let kept : Each (λ z. key (f y) < key z) ys = subst (λ k. Each (λ z. k < key z) ys) (sym (same y)) rising.0 in
    grind (arith, rising-changed key id f ys same rising.1)

-- by any key, what is found is what was found, changed if it is the changed record
pub find-changed : {X : Type 0} (key : X → ℕ) (id : ℕ) (f : X → X) (k : ℕ) (xs : List X) → ((y : X) → key (f y) ≡ key y) → find (λ y. key y == k) (changed key id f xs) ≡ option_map (λ y. if key y == id then f y else y) (find (λ y. key y == k) xs)
find-changed key id f k [] same = refl
find-changed {X = X} key id f k (y ∷ ys) same =
    let has : (z : X) → find (λ y. key y == k) ys ≡ Some z → key z ≡ k = λ z. found_key key k z ys in
    let later = find-changed key id f k ys same in
    grind (arith, nat_tests, same y, has)

-- the change of a record that is there is another record in its place
pub changed_found : {X : Type 0} (key : X → ℕ) (id : ℕ) (f : X → X) (y : X) (xs : List X) → ((y : X) → key (f y) ≡ key y) → find (λ y. key y == id) xs ≡ Some y → changed key id f xs ≡ replaced key (f y) xs
changed_found key id f y [] same found = refl
changed_found key id f y (z ∷ zs) same found =
    let has : key (f y) ≡ id = same y ∙ found_key key id y (z ∷ zs) found in
    grind (arith, nat_tests, changed_found key id f y zs same)

-- undo
pub replaced-changed : {X : Type 0} (key : X → ℕ) (id : ℕ) (f : X → X) (old : X) (xs : List X) → ((y : X) → key (f y) ≡ key y) → find (λ y. key y == id) xs ≡ Some old → replaced key old (changed key id f xs) ≡ xs
replaced-changed key id f old xs same found =
    let has : key (f old) ≡ id = same old ∙ found_key key id old xs found in
    let there : find (λ y. key y == key (f old)) xs ≡ Some old = subst (λ k. find (λ y. key y == k) xs ≡ Some old) (sym has) found in
    ap (replaced key old) (changed_found key id f old xs same found) ∙ replaced-replaced key (f old) old xs there
