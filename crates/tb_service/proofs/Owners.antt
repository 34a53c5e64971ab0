-- Each request that was taken was offered by the port of its place, and each entry of a run has a request that was taken.
use Rattle.std.proofs.Common.{◌≡◌, ℕ, zero, suc, ◌+◌, ◌-◌, ◌<◌, Bool, true, false, ◌==◌, ◌⊎◌, inl, inr, List, [], ◌∷◌, ◌++◌, length, map, slice_get, slice_index_or, Option, Some, None, if◌then◌else◌, refl, sym, ap, ◌∙◌, subst, ⊎_elim, append_assoc, append-nil, add-zero, eq-eqb, arith}
use Rattle.std.specs.List.{All, Contains}
use Rattle.std.proofs.lemmas.List.Elements.{All-nil, All-cons, All-head, All-tail, All-append}
use Rattle.std.proofs.lemmas.Option.{slice_get-get_or}
use Rattle.tb_records.specs.Messages.{Message}
use Rattle.tb_machine.specs.declared.entries.Entry.{Entry}
use Rattle.tb_machine.specs.Scripts.{Pair, entry_of, is_entered}
use Rattle.tb_published.specs.declared.faults.TakeFault.{TakeFault}
use Rattle.tb_published.specs.Openings.{Opening, after_in}
use Rattle.tb_service.specs.declared.ends.Ended.{Ended}
use Rattle.tb_service.specs.History.{accepted_in, Turn, requests_at, unless, pairs_kept}
use Rattle.tb_service.specs.Places.{places_from, HaveOwners}
use Rattle.tb_service.specs.Finished.{IsOffered}
use Rattle.tb_service.specs.OfferedLaws.{HasOwner, NoOfferInvented}

-- x is in a list

abbrev Stands : {X : Type 0} → X → List X → Type 0
Stands x [] = ⊥
Stands x (y ∷ ys) = (y ≡ x) ⊎ Stands x ys

stands_left : {X : Type 0} (x : X) (xs ys : List X) → Stands x xs → Stands x (xs ++ ys)
stands_left x [] ys s = absurd s
stands_left x (y ∷ xs) ys s = ⊎_elim (λ e. inl e) (λ t. inr (stands_left x xs ys t)) s

stands_map : {X Y : Type 0} (f : X → Y) (x : X) (xs : List X) → Stands x xs → Stands (f x) (map f xs)
stands_map f x [] s = s
stands_map f x (y ∷ xs) s = ⊎_elim (λ e. inl (ap f e)) (λ t. inr (stands_map f x xs t)) s

some_stands : (x : Message) (xs : List Message) → Stands (Some x) (map Some xs) → Contains xs x
some_stands x [] s = absurd s
some_stands x (y ∷ xs) s =
    ⊎_elim (λ (e : Some y ≡ Some x). let same : y ≡ x = cc e in (0, omega arith, same))
    (λ t. let h = some_stands x xs t in let lt = h.1 in (suc h.0, omega arith, h.2))
    s

-- a place is among those of its port

behind : (b : Bool) (x n : ℕ) (rest : List ℕ) → Stands x rest → Stands x (if b then n ∷ rest else rest)
behind true x n rest s = inr s
behind false x n rest s = s

place_stands : (p n k : ℕ) (ps : List ℕ) → k < length ps → slice_index_or ps k 0 ≡ p → Stands (n + k) (places_from p n ps)
place_stands p n k [] lt is = absurd (omega arith)
place_stands p n zero (q ∷ qs) lt is =
    let rest : List ℕ = places_from p (n + 1) qs in
    subst (λ (b : Bool). Stands (n + 0) (if b then n ∷ rest else rest)) (sym (eq-eqb q p is)) (inl (sym (add-zero n)))
place_stands p n (suc k) (q ∷ qs) lt is =
    let rest : List ℕ = places_from p (n + 1) qs in
    let there : Stands (n + 1 + k) rest = place_stands p (n + 1) k qs (omega arith) is in
    behind (q == p) (n + suc k) n rest (subst (λ (m : ℕ). Stands m rest) (omega arith) there)

-- each request taken was offered
module _ (count : ℕ) (offered : ℕ → List Message) (taken : List Message) (owners : List ℕ) (ended : Ended) (have : HaveOwners count taken owners) where
  owner : ((p : ℕ) → p < count → IsOffered (offered p) taken (places_from p 1 owners) ended) → All (HasOwner count offered) taken
  owner claims k d lt =
      let whole = have.whole in
      let here : k < length owners = omega arith in
      let p : ℕ = slice_index_or owners k 0 in
      let made : p < count = have.made k 0 here in
      let claim = claims p made in
      let get : ℕ → Option Message = λ place. slice_get taken (place - 1) in
      let places : List ℕ = places_from p 1 owners in
      let r : Message = slice_index_or taken k d in
      let is : get (1 + k) ≡ Some r = ap (slice_get taken) (omega arith) ∙ slice_get-get_or taken k d lt in
      let stands : Stands (get (1 + k)) (map get places ++ map Some claim.rest) =
      stands_left (get (1 + k)) (map get places) (map Some claim.rest) (stands_map get (1 + k) places (place_stands p 1 k owners here refl)) in
      record {
        port = p;
        made = made;
        offers = some_stands r (offered p) (subst (λ (t : Option Message × List (Option Message)). Stands t.0 t.1) (λ i. (is i, sym claim.whole i)) stands);
      }

-- what is accepted is entered
module _ (o : Opening) (Owned : Message → Type 0) where
  abbrev OwnedPair : Pair → Type 0
  OwnedPair p = Owned p.1

  abbrev OwnedEntry : Entry → Type 0
  OwnedEntry e = Owned e.request

  abbrev Grows : List Entry → List Entry → Type 0
  Grows h m = (more : List Entry) × (m ≡ h ++ more) × All OwnedEntry more

  by_entry : (b : Bool) (h : List Entry) (e : Entry) (ps : List Pair) → Owned e.request → ((m : List Entry) → Grows m (accepted_in o m ps)) → Grows h (accepted_in o (if b then h ++ e ∷ [] else h) ps)
  by_entry true h e ps own rest = let r = rest (h ++ e ∷ []) in (e ∷ r.0, r.1 ∙ append_assoc h (e ∷ []) r.0, All-cons OwnedEntry e r.0 own r.2)
  by_entry false h e ps own rest = rest h

  grows : (h : List Entry) (ps : List Pair) → All OwnedPair ps → Grows h (accepted_in o h ps)
  grows h [] all = ([], sym (append-nil h), All-nil OwnedEntry)
  grows h (p ∷ ps) all = by_entry (is_entered (after_in o h) p) h (entry_of (after_in o h) p) ps (All-head OwnedPair p ps all) (λ m. grows m ps (All-tail OwnedPair p ps all))

  unless_owned : (f : Option TakeFault) (p : Pair) → Owned p.1 → All OwnedPair (unless f p)
  unless_owned None p own = All-cons OwnedPair p [] own (All-nil OwnedPair)
  unless_owned (Some f) p own = All-nil OwnedPair

  kept_owned : (ts : List Turn) → All Owned (requests_at ts) → All OwnedPair (pairs_kept ts)
  kept_owned [] all = All-nil OwnedPair
  kept_owned (t ∷ ts) all =
      All-append OwnedPair (unless t.fault (t.moment, t.request)) (pairs_kept ts) (unless_owned t.fault (t.moment, t.request) (All-head Owned t.request (requests_at ts) all))
      (kept_owned ts (All-tail Owned t.request (requests_at ts) all))

pub none_invented : {M G : Type 0} (o : Opening) (tells : M → ℕ → M → Type 0) (passes : G → ℕ → G → Type 0) → NoOfferInvented o tells passes
none_invented o tells passes before taken owners refused history count offered ended run have claims =
    let Owned : Message → Type 0 = HasOwner count offered in
    let turns : List Turn = run.serves.turns in
    let all : All Owned (requests_at turns) = subst (All Owned) (sym run.serves.served) (owner count offered taken owners ended have claims) in
    let grown = grows o Owned before.history (pairs_kept turns) (kept_owned o Owned turns all) in
    record { more = grown.0; grown = sym run.serves.history ∙ grown.1; owned = grown.2 }
