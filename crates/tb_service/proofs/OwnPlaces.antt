-- The places of a port, and the requests there.
use Rattle.std.proofs.Common.{◌≡◌, ◌≢◌, ℕ, take, ◌+◌, ◌-◌, ◌<◌, Bool, true, false, ◌==◌, List, [], ◌∷◌, ◌++◌, length, map, replicate, slice_get, get_or, Option, Some, if◌then◌else◌, refl, sym, ap, ◌∙◌, subst, append_assoc, append-nil, length-append, add-zero, eq-eqb, ne_eqb, arith}
use Rattle.std.proofs.lemmas.List.{map-append, length-take-le, take_more}
use Rattle.std.proofs.lemmas.Option.{slice_get-get_or}
use Rattle.std.proofs.Math.Seq.{get_or-append_seam}
use Rattle.tb_records.specs.Messages.{Message}
use Rattle.tb_service.specs.declared.orders.Order.{Order}
use Rattle.tb_service.specs.declared.rule.View.{View}
use Rattle.tb_service.specs.declared.ends.Ended.{Ended}
use Rattle.tb_service.specs.declared.ends.Ended.TheVariants as way
use Rattle.tb_service.specs.Sent.{requests_in, requests_of, is_port_closed}
use Rattle.tb_service.specs.Names.{Name}
use Rattle.tb_service.specs.Ports.{Offers, AreNumbered}
use Rattle.tb_service.specs.private.Rule.{taken_in, TalliesOrders}
use Rattle.tb_service.specs.Places.{requests, ports, places_from}
use Rattle.tb_service.specs.Finished.{IsOffered}

-- one more place

by_owner : (b : Bool) (n : ℕ) (longer here more : List ℕ) → longer ≡ here ++ more → (if b then n ∷ longer else longer) ≡ (if b then n ∷ here else here) ++ more
by_owner true n longer here more is = ap (λ (l : List ℕ). n ∷ l) is
by_owner false n longer here more is = is

pub places_from-snoc : (p n m q : ℕ) (qs : List ℕ) → n + length qs ≡ m → places_from p n (qs ++ q ∷ []) ≡ places_from p n qs ++ (if q == p then m ∷ [] else [])
places_from-snoc p n m q [] is = ap (λ (k : ℕ). if q == p then k ∷ [] else []) (omega arith)
places_from-snoc p n m q (x ∷ xs) is =
    by_owner (x == p) n (places_from p (n + 1) (xs ++ q ∷ [])) (places_from p (n + 1) xs) (if q == p then m ∷ [] else []) (places_from-snoc p (n + 1) m q xs (omega arith))

-- the requests at places

abbrev get_at : List Message → ℕ → Option Message
get_at whole place = slice_get whole (place - 1)

get_here : (front : List Message) (r : Message) (rest : List Message) (n : ℕ) → length front ≡ n → slice_get (front ++ r ∷ rest) n ≡ Some r
get_here front r rest n is =
    let there : n < length (front ++ r ∷ rest) = simp length-append (omega arith) in
    slice_get-get_or (front ++ r ∷ rest) n r there ∙ ap (λ (k : ℕ). Some (get_or (front ++ r ∷ rest) k r)) (sym is) ∙ ap Some (get_or-append_seam front r rest r)

none_more : (b : Bool) (l : List (Option Message)) → l ≡ (if b then [] else []) ++ l
none_more true l = refl
none_more false l = refl

one_more : (b : Bool) (get : ℕ → Option Message) (k : ℕ) (w : Option Message) (places : List ℕ) (here rest : List (Option Message)) → get k ≡ w
    → map get places ≡ (if b then here else []) ++ rest → map get (if b then k ∷ places else places) ≡ (if b then w ∷ here else []) ++ rest
one_more true get k w places here rest is more = λ i. is i ∷ more i
one_more false get k w places here rest is more = more

-- those of one order, and those after it
block : (p q n : ℕ) (front rs rest whole : List Message) (ps : List ℕ) → whole ≡ front ++ (rs ++ rest) → length front ≡ n
    → map (get_at whole) (places_from p (n + 1) (replicate (length rs) q ++ ps)) ≡ (if q == p then map Some rs else []) ++ map (get_at whole) (places_from p (n + 1 + length rs) ps)
block p q n front [] rest whole ps is long =
    ap (λ (k : ℕ). map (get_at whole) (places_from p k ps)) (sym (add-zero (n + 1))) ∙ none_more (q == p) (map (get_at whole) (places_from p (n + 1 + 0) ps))
block p q n front (r ∷ rs) rest whole ps is long =
    let here : get_at whole (n + 1) ≡ Some r = ap (λ (k : ℕ). slice_get whole k) (omega arith) ∙ ap (λ (l : List Message). slice_get l n) is ∙ get_here front r (rs ++ rest) n long in
    let tail : List ℕ = replicate (length rs) q ++ ps in
    let more = block p q (n + 1) (front ++ r ∷ []) rs rest whole ps (is ∙ sym (append_assoc front (r ∷ []) (rs ++ rest))) (length-append front (r ∷ []) ∙ ap (λ (k : ℕ). k + 1) long) in
    let end : n + 1 + 1 + length rs ≡ n + 1 + length (r ∷ rs) = omega arith in
    one_more (q == p) (get_at whole) (n + 1) (Some r) (places_from p (n + 1 + 1) tail) (map Some rs) (map (get_at whole) (places_from p (n + 1 + length (r ∷ rs)) ps)) here
    (more ∙ ap (λ (k : ℕ). (if q == p then map Some rs else []) ++ map (get_at whole) (places_from p k ps)) end)

joined : (b : Bool) (rs more : List Message) → (if b then map Some rs else []) ++ map Some more ≡ map Some (if b then rs ++ more else more)
joined true rs more = sym (map-append Some rs more)
joined false rs more = refl

by_place : (p n : ℕ) (front whole : List Message) (os : List Order) → whole ≡ front ++ requests os → length front ≡ n
    → map (get_at whole) (places_from p (n + 1) (ports os)) ≡ map Some (requests_of p os)
by_place p n front whole [] is long = refl
by_place p n front whole (o ∷ os) is long =
    let rs : List Message = requests_in o.what in
    let rest = by_place p (n + length rs) (front ++ rs) whole os (is ∙ sym (append_assoc front rs (requests os))) (length-append front rs ∙ ap (λ (k : ℕ). k + length rs) long) in
    let start : n + 1 + length rs ≡ n + length rs + 1 = omega arith in
    block p o.port n front rs (requests os) whole (ports os) is long
    ∙ ap (λ (k : ℕ). (if o.port == p then map Some rs else []) ++ map (get_at whole) (places_from p k (ports os))) start
    ∙ ap (λ (l : List (Option Message)). (if o.port == p then map Some rs else []) ++ l) rest
    ∙ joined (o.port == p) rs (requests_of p os)

-- what a port offered is at its places, as far as it was taken
pub accounted : (v u w : View) (items : List Order) (number : ℕ) (places : List ℕ) (ended : Ended) → w ≡ taken_in v u → TalliesOrders w items → number ≡ u.port
    → places ≡ places_from number 1 (ports v.taken) → (ended ≡ way.Closed → (p : ℕ) → p < v.ports → is_port_closed p v.taken ≡ true)
    → IsOffered u.offered (requests v.taken) places ended
accounted v u w items number places ended is account mine here over =
    let learnt : TalliesOrders (taken_in v u) items = subst (λ (x : View). TalliesOrders x items) is account in
    let there : map (get_at (requests v.taken)) places ≡ map Some (requests_of u.port v.taken) =
    ap (map (get_at (requests v.taken))) (here ∙ ap (λ (k : ℕ). places_from k 1 (ports v.taken)) mine) ∙ by_place u.port 0 [] (requests v.taken) v.taken refl refl in
    record {
      rest = requests_of u.port items;
      whole = ap (map Some) (sym learnt.whole) ∙ map-append Some (requests_of u.port v.taken) (requests_of u.port items)
          ∙ ap (λ (l : List (Option Message)). l ++ map Some (requests_of u.port items)) (sym there);
      all = λ e. learnt.ended (over e u.port learnt.made);
    }

-- one more port
pub numbered-snoc : (name : Name) (n m : ℕ) (ports : List Offers) (port : Offers) → AreNumbered name n ports → n + length ports ≡ m → port.service ≡ name → port.number ≡ m → port.offered ≡ []
    → AreNumbered name n (ports ++ port ∷ [])
numbered-snoc name n m [] port these is s number empty = (s, number ∙ omega arith, empty, tt)
numbered-snoc name n m (x ∷ xs) port these is s number empty = (these.0, these.1, these.2, numbered-snoc name (n + 1) m xs port these.3 (omega arith) s number empty)

-- one more port was looked at

module _ (port at : ℕ) (ports places longer : List ℕ) (there : at < length ports) (so_far : places ≡ places_from port 1 (take at ports)) where
  next_place : places_from port 1 (take (at + 1) ports) ≡ places ++ (if get_or ports at 0 == port then (at + 1) ∷ [] else [])
  next_place =
      let long : length (take at ports) ≡ at = length-take-le at ports (omega arith) in
      ap (places_from port 1) (take_more ports at 0 there)
      ∙ places_from-snoc port 1 (at + 1) (get_or ports at 0) (take at ports) (omega arith)
      ∙ ap (λ (l : List ℕ). l ++ (if get_or ports at 0 == port then (at + 1) ∷ [] else [])) (sym so_far)

  pub place_added : get_or ports at 0 ≡ port → longer ≡ places ++ (at + 1) ∷ [] → longer ≡ places_from port 1 (take (at + 1) ports)
  place_added own added = added ∙ ap (λ (b : Bool). places ++ (if b then (at + 1) ∷ [] else [])) (sym (eq-eqb (get_or ports at 0) port own)) ∙ sym next_place

  pub place_passed : get_or ports at 0 ≢ port → longer ≡ places → longer ≡ places_from port 1 (take (at + 1) ports)
  place_passed other same =
      same ∙ sym (append-nil places) ∙ ap (λ (b : Bool). places ++ (if b then (at + 1) ∷ [] else [])) (sym (ne_eqb (get_or ports at 0) port other)) ∙ sym next_place

-- the last port
pub numbered-last : (name : Name) (n : ℕ) (all ports : List Offers) (port : Offers) → all ≡ ports ++ port ∷ [] → AreNumbered name n all → AreNumbered name n ports × (port.service ≡ name)
numbered-last name n all ports port is these = split n ports (subst (AreNumbered name n) is these)
  where
    split : (n : ℕ) (ports : List Offers) → AreNumbered name n (ports ++ port ∷ []) → AreNumbered name n ports × (port.service ≡ name)
    split n [] these = (tt, these.0)
    split n (x ∷ xs) these = let rest = split (n + 1) xs these.3 in ((these.0, these.1, these.2, rest.0), rest.1)
