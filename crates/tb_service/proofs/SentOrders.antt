-- The orders sent, which grow at their end.
use Rattle.std.proofs.Common.{◌≡◌, ◌≢◌, ℕ, Bool, true, false, true≢false, ◌==◌, ◌&&◌, ◌||◌, List, [], ◌∷◌, ◌++◌, if◌then◌else◌, refl, sym, ap, ◌∙◌, append_assoc, append-nil, eq-eqb, ne_eqb}
use Rattle.tb_records.specs.Messages.{Message}
use Rattle.tb_service.specs.declared.orders.Order.{Order}
use Rattle.tb_service.specs.Sent.{requests_in, closes, requests_of, is_port_closed, has_none_of, ends_at_close}

-- two lists of orders, one after the other

append_if : (b : Bool) (x a c : List Message) → (if b then x ++ (a ++ c) else a ++ c) ≡ (if b then x ++ a else a) ++ c
append_if true x a c = sym (append_assoc x a c)
append_if false x a c = refl

pub requests_of-append : (p : ℕ) (a b : List Order) → requests_of p (a ++ b) ≡ requests_of p a ++ requests_of p b
requests_of-append p [] b = refl
requests_of-append p (o ∷ os) b =
    ap (λ (l : List Message). if o.port == p then requests_in o.what ++ l else l) (requests_of-append p os b)
    ∙ append_if (o.port == p) (requests_in o.what) (requests_of p os) (requests_of p b)

or_assoc : (x y z : Bool) → (x || (y || z)) ≡ ((x || y) || z)
or_assoc true y z = refl
or_assoc false y z = refl

pub is_port_closed-append : (p : ℕ) (a b : List Order) → is_port_closed p (a ++ b) ≡ (is_port_closed p a || is_port_closed p b)
is_port_closed-append p [] b = refl
is_port_closed-append p (o ∷ os) b =
    ap (λ (l : Bool). (o.port == p && closes o.what) || l) (is_port_closed-append p os b)
    ∙ or_assoc (o.port == p && closes o.what) (is_port_closed p os) (is_port_closed p b)

and_if : (b x y : Bool) → (if b then false else (x && y)) ≡ ((if b then false else x) && y)
and_if true x y = refl
and_if false x y = refl

pub has_none_of-append : (p : ℕ) (a b : List Order) → has_none_of p (a ++ b) ≡ (has_none_of p a && has_none_of p b)
has_none_of-append p [] b = refl
has_none_of-append p (o ∷ os) b =
    ap (λ (l : Bool). if o.port == p then false else l) (has_none_of-append p os b)
    ∙ and_if (o.port == p) (has_none_of p os) (has_none_of p b)

-- if no order of a port was sent

none_requests : (b : Bool) (x l : List Message) (none : Bool) → (if b then false else none) ≡ true → (none ≡ true → l ≡ []) → (if b then x ++ l else l) ≡ []
none_requests true x l none h rest = absurd (true≢false (sym h))
none_requests false x l none h rest = rest h

pub requests_of-none : (p : ℕ) (l : List Order) → has_none_of p l ≡ true → requests_of p l ≡ []
requests_of-none p [] h = refl
requests_of-none p (o ∷ os) h = none_requests (o.port == p) (requests_in o.what) (requests_of p os) (has_none_of p os) h (requests_of-none p os)

none_closed : (b c l none : Bool) → (if b then false else none) ≡ true → (none ≡ true → l ≡ false) → ((b && c) || l) ≡ false
none_closed true c l none h rest = absurd (true≢false (sym h))
none_closed false c l none h rest = rest h

pub is_port_closed-none : (p : ℕ) (l : List Order) → has_none_of p l ≡ true → is_port_closed p l ≡ false
is_port_closed-none p [] h = refl
is_port_closed-none p (o ∷ os) h = none_closed (o.port == p) (closes o.what) (is_port_closed p os) (has_none_of p os) h (is_port_closed-none p os)

-- one more order: of the port itself, and of another

module _ (sent_orders : List Order) (o : Order) where
  pub requests_of-own : (p : ℕ) → o.port ≡ p → requests_of p (sent_orders ++ o ∷ []) ≡ requests_of p sent_orders ++ requests_in o.what
  requests_of-own p own =
      requests_of-append p sent_orders (o ∷ [])
      ∙ ap (λ (b : Bool). requests_of p sent_orders ++ (if b then requests_in o.what ++ [] else [])) (eq-eqb o.port p own)
      ∙ ap (λ (l : List Message). requests_of p sent_orders ++ l) (append-nil (requests_in o.what))

  pub requests_of-other : (p : ℕ) → o.port ≢ p → requests_of p (sent_orders ++ o ∷ []) ≡ requests_of p sent_orders
  requests_of-other p other =
      requests_of-append p sent_orders (o ∷ [])
      ∙ ap (λ (b : Bool). requests_of p sent_orders ++ (if b then requests_in o.what ++ [] else [])) (ne_eqb o.port p other)
      ∙ append-nil (requests_of p sent_orders)

  or_false : (b : Bool) → (b || false) ≡ b
  or_false true = refl
  or_false false = refl

  pub is_port_closed-own : (p : ℕ) → o.port ≡ p → is_port_closed p sent_orders ≡ false → is_port_closed p (sent_orders ++ o ∷ []) ≡ closes o.what
  is_port_closed-own p own before =
      is_port_closed-append p sent_orders (o ∷ [])
      ∙ ap (λ (b : Bool). b || ((o.port == p && closes o.what) || false)) before
      ∙ or_false (o.port == p && closes o.what)
      ∙ ap (λ (b : Bool). b && closes o.what) (eq-eqb o.port p own)

  pub is_port_closed-other : (p : ℕ) → o.port ≢ p → is_port_closed p (sent_orders ++ o ∷ []) ≡ is_port_closed p sent_orders
  is_port_closed-other p other =
      is_port_closed-append p sent_orders (o ∷ [])
      ∙ ap (λ (b : Bool). is_port_closed p sent_orders || ((b && closes o.what) || false)) (ne_eqb o.port p other)
      ∙ or_false (is_port_closed p sent_orders)

  pub has_none_of-other : (p : ℕ) → o.port ≢ p → has_none_of p sent_orders ≡ true → has_none_of p (sent_orders ++ o ∷ []) ≡ true
  has_none_of-other p other none =
      has_none_of-append p sent_orders (o ∷ [])
      ∙ ap (λ (b : Bool). b && (if o.port == p then false else true)) none
      ∙ ap (λ (b : Bool). if b then false else true) (ne_eqb o.port p other)

-- an order may join if its port isn't closed
ends_step : (b : Bool) (none more none' more' : Bool) → (if b then none else more) ≡ true → (b ≡ true → none' ≡ true) → (b ≡ false → more' ≡ true) → (if b then none' else more') ≡ true
ends_step true none more none' more' h close on = close refl
ends_step false none more none' more' h close on = on refl

or_left : (a b : Bool) → (a || b) ≡ false → a ≡ false
or_left true b h = absurd (true≢false h)
or_left false b h = refl

or_right : (a b : Bool) → (a || b) ≡ false → b ≡ false
or_right true b h = absurd (true≢false h)
or_right false b h = h

if_true : (b x y : Bool) → b ≡ true → (if b then x else y) ≡ true → x ≡ true
if_true true x y is h = h
if_true false x y is h = absurd (true≢false (sym is))

if_false : (b x y : Bool) → b ≡ false → (if b then x else y) ≡ true → y ≡ true
if_false true x y is h = absurd (true≢false is)
if_false false x y is h = h

if_both : (b : Bool) → (if b then true else true) ≡ true
if_both true = refl
if_both false = refl

pub ends_at_close-own : (p : ℕ) (sent_orders : List Order) (o : Order) → is_port_closed p sent_orders ≡ false → ends_at_close p sent_orders ≡ true → ends_at_close p (sent_orders ++ o ∷ []) ≡ true
ends_at_close-own p [] o before ends = if_both (o.port == p && closes o.what)
ends_at_close-own p (x ∷ xs) o before ends =
    let here : (x.port == p && closes x.what) ≡ false = or_left (x.port == p && closes x.what) (is_port_closed p xs) before in
    ends_step (x.port == p && closes x.what) (has_none_of p xs) (ends_at_close p xs) (has_none_of p (xs ++ o ∷ [])) (ends_at_close p (xs ++ o ∷ [])) ends
    (λ is. absurd (true≢false (sym is ∙ here)))
    (λ is. ends_at_close-own p xs o (or_right (x.port == p && closes x.what) (is_port_closed p xs) before) (if_false (x.port == p && closes x.what) (has_none_of p xs) (ends_at_close p xs) is ends))

pub ends_at_close-other : (p : ℕ) (sent_orders : List Order) (o : Order) → o.port ≢ p → ends_at_close p sent_orders ≡ true → ends_at_close p (sent_orders ++ o ∷ []) ≡ true
ends_at_close-other p [] o other ends = if_both (o.port == p && closes o.what)
ends_at_close-other p (x ∷ xs) o other ends =
    ends_step (x.port == p && closes x.what) (has_none_of p xs) (ends_at_close p xs) (has_none_of p (xs ++ o ∷ [])) (ends_at_close p (xs ++ o ∷ [])) ends
    (λ is. has_none_of-other xs o p other (if_true (x.port == p && closes x.what) (has_none_of p xs) (ends_at_close p xs) is ends))
    (λ is. ends_at_close-other p xs o other (if_false (x.port == p && closes x.what) (has_none_of p xs) (ends_at_close p xs) is ends))

-- nothing of a port comes after its close

and_right : (a b : Bool) → (a && b) ≡ true → b ≡ true
and_right true b h = h
and_right false b h = absurd (true≢false (sym h))

pub has_none_here : (a : List Order) (o : Order) (b : List Order) → has_none_of o.port (a ++ o ∷ b) ≡ true → ⊥
has_none_here a o b none =
    let here : (if o.port == o.port then false else has_none_of o.port b) ≡ true = and_right (has_none_of o.port a) (if o.port == o.port then false else has_none_of o.port b) (sym (has_none_of-append o.port a (o ∷ b)) ∙ none) in
    true≢false (sym here ∙ ap (λ (c : Bool). if c then false else has_none_of o.port b) (eq-eqb o.port o.port refl))

none_behind : (p : ℕ) (a b : List Order) → has_none_of p (a ++ b) ≡ true → requests_of p b ≡ []
none_behind p a b none = requests_of-none p b (and_right (has_none_of p a) (has_none_of p b) (sym (has_none_of-append p a b) ∙ none))

by_close : (G : Type 0) (c closed none more : Bool) → (c || closed) ≡ true → (if c then none else more) ≡ true → (none ≡ true → G) → (closed ≡ true → more ≡ true → G) → G
by_close G true closed none more is ends at on = at ends
by_close G false closed none more is ends at on = on is ends

pub nothing_behind : (p : ℕ) (a b : List Order) → is_port_closed p a ≡ true → ends_at_close p (a ++ b) ≡ true → requests_of p b ≡ []
nothing_behind p [] b closed ends = absurd (true≢false (sym closed))
nothing_behind p (x ∷ xs) b closed ends =
    by_close (requests_of p b ≡ []) (x.port == p && closes x.what) (is_port_closed p xs) (has_none_of p (xs ++ b)) (ends_at_close p (xs ++ b)) closed ends
    (none_behind p xs b)
    (nothing_behind p xs b)
