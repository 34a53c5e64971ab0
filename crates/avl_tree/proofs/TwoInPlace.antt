-- A change of two values in the sides of a tree is a change in the tree.
use Rattle.std.proofs.Common.{◌≡◌, ℕ, [], ◌∷◌, inl, inr, not, Bool, true, false, cond, List, Option, None, Some, sym, ap, ◌∙◌, refl}
use Rattle.std.specs.declared.boxed.Box.{Box}
use Rattle.std.specs.declared.cmp.Ordering.{Ordering}
use Rattle.std.specs.declared.cmp.Ordering.TheVariants.{Less, Equal, Greater}
use Rattle.std.specs.Box.{with_value}
use Rattle.std.specs.Ordering.{ordering_reverse}
use Rattle.std.specs.Cmp.{IsTotalOrder, Equal-is, tied_back}
use Rattle.std.specs.Option.{IsSome, IfSome}
use Rattle.std.specs.Map.{lookup, set_value}
use Rattle.std.specs.BTreeMap.{is_at}
use Rattle.avl_tree.specs.Nodes.{entries, IsSearchTree}
use Rattle.avl_tree.specs.Changes.{ChangedTwo, KeepsLinks}
use Rattle.avl_tree.specs.private.Pairs.{Taking, CalledAtBoth, ChangesBeside, ChangesApart, ChangesBoth}
use Rattle.avl_tree.specs.declared.tree.Node.{Node}
use Rattle.avl_tree.specs.declared.tree.Tree.{Tree}
use Rattle.avl_tree.specs.declared.tree.Tree.TheViews.{Fork}
use Rattle.avl_tree.proofs.SplitEntries.{reversed_Greater}
use Rattle.avl_tree.proofs.Steps.{GoesTo, StandsHere, goes, stands_here, found, written, carried, keeps_both, searched_after}

-- a call at y and x in the other order
pub other_way : {F V R : Type 0} (c : Taking F V R) (b : Bool) (f f' : F) (x y x' y' : V) (r : R) → CalledAtBoth c (not b) f y x r f' y' x' → CalledAtBoth c b f x y r f' x' y'
other_way c true f f' x y x' y' r p = p
other_way c false f f' x y x' y' r p = p

module _ {F K V A R : Type 0} (c : Taking F V R) (b : Bool) {cmp : K → K → Ordering} {k : K} {t : Tree K V A} (f f' : F) where
  module _ {side : Tree K V A} {put : Tree K V A → Tree K V A} {beside : List (K × V) → List (K × V)} (w : GoesTo cmp k t side put beside) where
    pub beside_side : (d d' : V) (o : Option R) (u : Tree K V A) → ChangesBeside c b cmp k d side f o f' d' u → ChangesBeside c b cmp k d t f o f' d' (put u)
    beside_side d d' (Some v) u x =
        let y = x.0 in
        (record { value = y.value; left = y.left; found = found w ∙ y.found; called = y.called; written = written w y.left u y.written }, w.keeps u x.1)
    beside_side d d' None u x = (found w ∙ x.0, x.1, x.2, ap put x.3 ∙ w.whole)

    -- the trees are passed on in the other order
    pub apart_side : (k2 : K) (u : Tree K V A) (o : Option R) (s' u' : Tree K V A) → ChangesApart c (not b) cmp k2 k u side f o f' u' s' → ChangesApart c b cmp k k2 t u f o f' (put s') u'
    apart_side k2 u (Some v) s' u' x =
        let y = x.0 in (
          record {
            value = y.other;
            left = y.other_left;
            other = y.value;
            other_left = y.left;
            found = found w ∙ y.other_found;
            other_found = y.found;
            called = other_way c b f f' y.other y.value y.other_left y.left v y.called;
            written = written w y.other_left s' y.other_written;
            other_written = y.written;
          },
          w.keeps s' x.2,
          x.1,
        )
    apart_side k2 u None s' u' x =
        (elim x.0 [ inl n ↦ inr n | inr n ↦ inl (found w ∙ n) ], x.1, ap put x.3 ∙ w.whole, x.2)

  module _ {n : Node K V A} {put : V → Tree K V A} (w : StandsHere cmp k t n put) where
    pub beside_here : (d d' : V) (o : Option R) (z' : V) → IsSome o → IfSome o (λ v. CalledAtBoth c b f d n.value v f' d' z') → ChangesBeside c b cmp k d t f o f' d' (put z')
    beside_here d d' (Some v) z' there called =
        (record { value = n.value; left = z'; found = w.found; called = called; written = w.written z' }, w.keeps z')
    beside_here d d' None z' there called = absurd (cc)

    pub apart_here : put n.value ≡ t → (k2 : K) (u : Tree K V A) (o : Option R) (z' : V) (u' : Tree K V A) → ChangesBeside c b cmp k2 n.value u f o f' z' u' → ChangesApart c b cmp k k2 t u f o f' (put z') u'
    apart_here whole k2 u (Some v) z' u' x =
        let y = x.0 in (
          record {
            value = n.value;
            left = z';
            other = y.value;
            other_left = y.left;
            found = w.found;
            other_found = y.found;
            called = y.called;
            written = w.written z';
            other_written = y.written;
          },
          w.keeps z',
          x.1,
        )
    apart_here whole k2 u None z' u' x = (inr x.0, x.1, ap put x.2 ∙ whole, x.3)

-- one key is below the other: if the lower one does not go left, the higher one goes right
module _ {K : Type 0} {cmp : K → K → Ordering} (o : IsTotalOrder cmp) (low high : K) where
  pub higher : (x : K) → cmp low high ≡ Less → Greater ≡ cmp low x → Greater ≡ cmp high x
  higher x q n =
      let b = reversed_Greater (cmp x low) (sym (o.antisymm low x) ∙ sym n) in
      sym (o.antisymm high x ∙ ap ordering_reverse (o.trans x low high b q))

  pub higher_here : (x : K) → cmp low high ≡ Less → Equal ≡ cmp low x → Greater ≡ cmp high x
  higher_here x q n = sym (o.antisymm high x ∙ ap ordering_reverse (sym (o.congr low x high (sym n)) ∙ q))

module _ {F K V A R : Type 0} (c : Taking F V R) (in_order : Bool) {cmp : K → K → Ordering} (o : IsTotalOrder cmp) (low high : K) {t : Tree K V A} (f f' : F) where
  -- both keys are looked up in one side
  pub both_side : {side : Tree K V A} {put : Tree K V A → Tree K V A} {beside : List (K × V) → List (K × V)} → GoesTo cmp low t side put beside → GoesTo cmp high t side put beside → (v : Option R) (u : Tree K V A) → ChangesBoth c in_order cmp low high side f v f' u → ChangesBoth c in_order cmp low high t f v f' (put u)
  both_side w x (Some v) u d =
      let y = d.0 in (
        record {
          value = y.value;
          left = y.left;
          other = y.other;
          other_left = y.other_left;
          found = found w ∙ y.found;
          other_found = found x ∙ y.other_found;
          called = y.called;
          written = carried w (λ es. set_value (is_at (cmp high)) (set_value (is_at (cmp low)) es y.left) y.other_left)
              (λ m. ap (λ es. set_value (is_at (cmp high)) es y.other_left) (w.passes.written y.left m) ∙ x.passes.written y.other_left (set_value (is_at (cmp low)) m y.left)) u y.written;
        },
        w.keeps u d.1,
      )
  both_side {put = put} w x None u d =
      (elim d.0 [ inl q ↦ inl (found w ∙ q) | inr q ↦ inr (found x ∙ q) ], d.1, ap put d.2 ∙ w.whole)

  -- the two values are written one after the other
  in_turn : {t₁ t₂ : Tree K V A} {r : R} (value left other other_left : V) → lookup (is_at (cmp low)) (entries t) ≡ Some value → lookup (is_at (cmp high)) (entries t) ≡ Some other → CalledAtBoth c in_order f value other r f' left other_left
      → KeepsLinks t t₁ → entries t₁ ≡ set_value (is_at (cmp low)) (entries t) left → KeepsLinks t₁ t₂ → entries t₂ ≡ set_value (is_at (cmp high)) (entries t₁) other_left → ChangesBoth c in_order cmp low high t f (Some r) f' t₂
  in_turn value left other other_left found other_found called kept first then second = (
    record {
      value = value;
      left = left;
      other = other;
      other_left = other_left;
      found = found;
      other_found = other_found;
      called = called;
      written = second ∙ ap (λ es. set_value (is_at (cmp high)) es other_left) first;
    },
    keeps_both kept then,
  )

  module _ {h : ℕ} {b : Box (Node K V A) A} (is : t ≡ Fork h b) (s : IsSearchTree cmp t) where
    pub both_apart : Less ≡ cmp low b.value.key → Greater ≡ cmp high b.value.key → (v : Option R) (l r : Tree K V A) → ChangesApart c in_order cmp low high b.value.left b.value.right f v f' l r → ChangesBoth c in_order cmp low high t f v f' (Fork h (with_value b (record b.value { left = l; right = r })))
    both_apart p q (Some v) l r x =
        let y = x.0 in
        let lower = goes o low is Less p refl s in
        let first = written lower y.left l y.written in
        let kept = lower.keeps l x.1 in
        let then = goes o high refl Greater q refl (searched_after cmp (is_at (cmp low)) y.left s kept first) in
        in_turn y.value y.left y.other y.other_left (found lower ∙ y.found) (found (goes o high is Greater q refl s) ∙ y.other_found) y.called kept first (then.keeps r x.2) (written then y.other_left r y.other_written)
    both_apart p q None l r x = (
      elim x.0 [
        | inl none ↦ inl (found (goes o low is Less p refl s) ∙ none)
        | inr none ↦ inr (found (goes o high is Greater q refl s) ∙ none)
      ],
      x.1,
      (λ i. Fork h (with_value b (record b.value { left = x.2 i; right = x.3 i }))) ∙ sym is,
    )

    pub both_here_right : Equal ≡ cmp low b.value.key → Greater ≡ cmp high b.value.key → (v : Option R) (r : Tree K V A) (z : V) → ChangesBeside c in_order cmp high b.value.value b.value.right f v f' z r → ChangesBoth c in_order cmp low high t f v f' (Fork h (with_value b (record b.value { right = r; value = z })))
    both_here_right p q (Some v) r z x =
        let y = x.0 in
        let here = stands_here o low is p s in
        let then = goes o high refl Greater q refl (searched_after cmp (is_at (cmp low)) z s (here.keeps z) (here.written z)) in
        in_turn b.value.value z y.value y.left here.found (found (goes o high is Greater q refl s) ∙ y.found) y.called (here.keeps z) (here.written z) (then.keeps r x.1) (written then y.left r y.written)
    both_here_right p q None r z x =
        (inr (found (goes o high is Greater q refl s) ∙ x.0), x.1, (λ i. Fork h (with_value b (record b.value { right = x.3 i; value = x.2 i }))) ∙ sym is)

    pub both_left_here : Less ≡ cmp low b.value.key → Equal ≡ cmp high b.value.key → (v : Option R) (l : Tree K V A) (z : V) → ChangesBeside c (not in_order) cmp low b.value.value b.value.left f v f' z l → ChangesBoth c in_order cmp low high t f v f' (Fork h (with_value b (record b.value { left = l; value = z })))
    both_left_here p q (Some v) l z x =
        let y = x.0 in
        let lower = goes o low is Less p refl s in
        let first = written lower y.left l y.written in
        let kept = lower.keeps l x.1 in
        let here = stands_here o high refl q (searched_after cmp (is_at (cmp low)) y.left s kept first) in
        let called = other_way c in_order f f' y.value b.value.value y.left z v y.called in
        in_turn y.value y.left b.value.value z (found lower ∙ y.found) (stands_here o high is q s).found called kept first (here.keeps z) (here.written z)
    both_left_here p q None l z x =
        (inl (found (goes o low is Less p refl s) ∙ x.0), x.1, (λ i. Fork h (with_value b (record b.value { left = x.3 i; value = x.2 i }))) ∙ sym is)

-- two keys of which one is below the other are not at one place, so the order of the writes makes no difference
module _ {K : Type 0} {cmp : K → K → Ordering} (o : IsTotalOrder cmp) (low high : K) (q : cmp low high ≡ Less) where
  not_both : (x : K) → is_at (cmp low) x ≡ true → is_at (cmp high) x ≡ true → ⊥
  not_both x a b =
      let at = tied_back o high x ((Equal-is (cmp high x)).0 b) in
      let same = o.congr low x high ((Equal-is (cmp low x)).0 a) ∙ at in
      cc

  set_value-other_way : {V : Type 0} (v w : V) (es : List (K × V)) → set_value (is_at (cmp high)) (set_value (is_at (cmp low)) es v) w ≡ set_value (is_at (cmp low)) (set_value (is_at (cmp high)) es w) v
  set_value-other_way v w [] = refl
  set_value-other_way v w (x ∷ es) = by (is_at (cmp low) x.0) (is_at (cmp high) x.0) refl refl (set_value-other_way v w es)
    where
      by : (a b : Bool) → is_at (cmp low) x.0 ≡ a → is_at (cmp high) x.0 ≡ b → set_value (is_at (cmp high)) (set_value (is_at (cmp low)) es v) w ≡ set_value (is_at (cmp low)) (set_value (is_at (cmp high)) es w) v → set_value (is_at (cmp high)) (cond a ((x.0, v) ∷ es) (x ∷ set_value (is_at (cmp low)) es v)) w ≡ set_value (is_at (cmp low)) (cond b ((x.0, w) ∷ es) (x ∷ set_value (is_at (cmp high)) es w)) v
      by true true a b rest = absurd (not_both x.0 a b)
      by true false a b rest = rw (a, b) refl
      by false true a b rest = rw (a, b) refl
      by false false a b rest = rw (a, b) (ap (λ m. x ∷ m) rest)

-- a call in the other order, as the caller put the keys
pub changed_other_way : {F K V A R : Type 0} (c : Taking F V R) {cmp : K → K → Ordering} (o : IsTotalOrder cmp) (low high : K) (t t' : Tree K V A) (f f' : F) → cmp low high ≡ Less → (v : Option R) → ChangesBoth c false cmp low high t f v f' t' → IfSome v (λ r. ChangedTwo c (is_at (cmp high)) (is_at (cmp low)) (entries t) f r f' (entries t'))
changed_other_way c o low high t t' f f' q None x = tt
changed_other_way c o low high t t' f f' q (Some r) x =
    let y = x.0 in
    record {
      value = y.other;
      left = y.other_left;
      other = y.value;
      other_left = y.left;
      found = y.other_found;
      other_found = y.found;
      called = y.called;
      written = y.written ∙ set_value-other_way o low high q y.left y.other_left (entries t);
    }
