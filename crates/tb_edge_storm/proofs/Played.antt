-- The history of a storm's server holds each call of its clients once, and nothing else.
use Rattle.std.proofs.Common.{◌≡◌, inl, inr, ℕ, zero, suc, ◌+◌, ◌-◌, ◌<◌, ◌≤◌, ◌==◌, Bool, true, false, cond, List, [], ◌∷◌, refl, sym, ap, ◌∙◌, subst, arith, eq-eqb, eqb-true}
use Rattle.std.proofs.lemmas.Bool.{eqb-false, ne_eqb}
use Rattle.std.specs.List.{All}
use Rattle.tb_records.specs.declared.bodies.Body.{Body}
use Rattle.tb_records.specs.Messages.{Message}
use Rattle.tb_records.specs.Ordered.{Each}
use Rattle.tb_records.proofs.ByKey.{each-map}
use Rattle.tb_machine.specs.declared.entries.Entry.{Entry}
use Rattle.tb_published.specs.Openings.{Opening, LegalIn}
use Rattle.tb_service.specs.OfferedLaws.{HasOwner, GrowsByOffers}
use Rattle.tb_service.specs.Finished.{Finish}
use Rattle.tb_caller.specs.Endpoints.{IsAmong}
use Rattle.tb_caller.proofs.Lists.{each_among}
use Rattle.tb_caller_laws.specs.PortCalls.{OffersSent}
use Rattle.tb_caller_laws.proofs.Offered.{none_invented, in_service}
use Rattle.tb_edge_storm.specs.Calls.{sent_in_session, accounts_call, transfer_call, HasCalled, IsStormClient, IsPlayed}
use Rattle.tb_edge_storm.specs.Served.{IsClientLeft, AreLeft, IsServed, number_at, call_at, count_at}
use Rattle.tb_edge_storm.specs.private.Playing.{HasRun}
use Rattle.tb_edge_storm.proofs.Sessions.{are_of_one}

all_each : {X : Type 0} (P Q : X → Type 0) (xs : List X) → ((x : X) → P x → Q x) → Each P xs → All Q xs
all_each P Q (x ∷ xs) f each zero d lt = f x each.0
all_each P Q (x ∷ xs) f each (suc k) d lt = all_each P Q xs f each.1 k d (omega (arith, lt))
all_each P Q [] f each k d lt = absurd (omega (arith, lt))

each_all : {X : Type 0} (P Q : X → Type 0) (xs : List X) → ((x : X) → P x → Q x) → All P xs → Each Q xs
each_all P Q [] f all = tt
each_all P Q (x ∷ xs) f all = (f x (all 0 x (omega arith)), each_all P Q xs f (λ k d lt. all (suc k) d (omega (arith, lt))))

each_client : (id session : ℕ) (call : ℕ → Body) (count : ℕ) → Each (λ (r : Message). r.client ≡ id) (sent_in_session id session call count)
each_client id session call zero = (refl, tt)
each_client id session call (suc count) = (refl, each_client id session call count)

-- clients by their ports
module _ (o : Opening) (finish : Finish) (ports : ℕ) (id : ℕ → ℕ) (call : ℕ → ℕ → Body) (count : ℕ → ℕ) (sent : ℕ → List Message)
    (left : (p : ℕ) → p < ports → IsClientLeft o finish p (id p) (call p) (count p) (sent p)) (apart : (p q : ℕ) → p < ports → q < ports → id p ≡ id q → p ≡ q)
    (legal : LegalIn o finish.publisher.history) (grows : GrowsByOffers ports sent [] finish.publisher.history) where
  -- what a port sent is its client's
  own_client : (p : ℕ) → p < ports → All (λ (r : Message). r.client ≡ id p) (sent p)
  own_client p lt =
      all_each (λ (r : Message). IsAmong r (sent_in_session (id p) (left p lt).session (call p) (count p))) (λ (r : Message). r.client ≡ id p) (sent p)
      (λ r is. each_among (λ (r : Message). r.client ≡ id p) r (sent_in_session (id p) (left p lt).session (call p) (count p)) (each_client (id p) (left p lt).session (call p) (count p)) is)
      (left p lt).own

  offers_sent : (p : ℕ) (lt : p < ports) → OffersSent (id p) (sent_in_session (id p) (left p lt).session (call p) (count p)) ports sent
  offers_sent p lt q within k d here client =
      let calls : List Message = sent_in_session (id p) (left p lt).session (call p) (count p) in
      let own : All (λ (r : Message). IsAmong r calls) (sent p) = all_each (λ (r : Message). IsAmong r calls) (λ (r : Message). IsAmong r calls) (sent p) (λ r is. is) (left p lt).own in
      let same : q ≡ p = apart q p within lt (sym (own_client q within k d here) ∙ client) in
      subst (λ (n : ℕ). All (λ (r : Message). IsAmong r calls) (sent n)) (sym same) own k d here

  pub has_called : (p : ℕ) → p < ports → HasCalled o finish.publisher.history (id p) (call p) (count p)
  has_called p lt =
      let h : List Entry = finish.publisher.history in
      let l = left p lt in
      let calls : List Message = sent_in_session (id p) l.session (call p) (count p) in
      record {
        session = l.session;
        returned = l.returned;
        all = l.all;
        none = none_invented (id p) calls ports sent [] h grows tt (offers_sent p lt);
        hold = in_service o [] h ports sent (id p) calls l.returned legal grows (are_of_one (id p) l.session (call p) (count p) l.lawful) tt (offers_sent p lt) l.taken l.given;
      }

  -- an entry's client has one of the ports
  pub record IsOf (e : Entry) : Type 0 where
    pub port : ℕ
    pub made : port < ports
    pub client : e.request.client ≡ id port

  of_owner : (e : Entry) → HasOwner ports sent e.request → IsOf e
  of_owner e owner = record {
    port = owner.port;
    made = owner.made;
    client = ap (λ (m : Message). m.client) (sym owner.offers.2) ∙ own_client owner.port owner.made owner.offers.0 e.request owner.offers.1;
  }

  pub all_are_of : Each IsOf finish.publisher.history
  all_are_of = subst (Each IsOf) (sym grows.grown) (each_all (λ (e : Entry). HasOwner ports sent e.request) IsOf grows.more of_owner grows.owned)

-- the clients of a storm

module _ (n : ℕ) (few : n ≤ 16) where
  apart_at : (p q : ℕ) → p < n + 1 → q < n + 1 → number_at n p ≡ number_at n q → p ≡ q
  apart_at p q one two same = by (p == n) (q == n) refl refl same
    where
      by : (b c : Bool) → (p == n) ≡ b → (q == n) ≡ c → cond b 100 (n - p) ≡ cond c 100 (n - q) → p ≡ q
      by true true e f same = eqb-true p n e ∙ sym (eqb-true q n f)
      by true false e f same = absurd (omega (arith, same, few))
      by false true e f same = absurd (omega (arith, same, few))
      by false false e f same = omega (arith, same, one, two)

  -- at client 100's port, and at another's
  at_last : (P : Bool → Type 0) → P (n == n) → P true
  at_last P p = subst P (eq-eqb n n refl) p

  at_other : (P : Bool → Type 0) (c : ℕ) → 1 ≤ c → c ≤ n → P ((n - c) == n) → P false
  at_other P c from to p = subst P (ne_eqb (n - c) n (λ same. omega (arith, same, from, to))) p

  is_client : (id port : ℕ) → port < n + 1 → id ≡ number_at n port → IsStormClient n id
  is_client id port lt is = by (port == n) refl is
    where
      by : (b : Bool) → (port == n) ≡ b → id ≡ cond b 100 (n - port) → IsStormClient n id
      by true e is = inl is
      by false e is = let other : port ≡ n → ⊥ = eqb-false port n e in inr (omega (arith, lt, is, other), omega (arith, is))

pub played : (o : Opening) (n transfers : ℕ) (finish : Finish) → n ≤ 16 → HasRun (n + 1) [] finish → LegalIn o finish.publisher.history → AreLeft o finish n transfers
    → IsPlayed o n transfers finish.publisher.history
played o n transfers finish few run legal left =
    let h : List Entry = finish.publisher.history in
    let grows : GrowsByOffers (n + 1) left.sent [] h = run left.sent (λ p lt. (left.each p lt).offered) in
    let called : (p : ℕ) → p < n + 1 → HasCalled o h (number_at n p) (call_at n p) (count_at n transfers p) =
    has_called o finish (n + 1) (number_at n) (call_at n) (count_at n transfers) left.sent left.each (apart_at n few) legal grows in
    record {
      first = at_last n few (λ (b : Bool). HasCalled o h (cond b 100 (n - n)) (cond b (accounts_call n) (transfer_call (n - n))) (cond b 1 transfers)) (called n (omega arith));
      others = λ c from to.
          let is : n - (n - c) ≡ c = omega (arith, to) in
          let there = at_other n few (λ (b : Bool). HasCalled o h (cond b 100 (n - (n - c))) (cond b (accounts_call n) (transfer_call (n - (n - c)))) (cond b 1 transfers)) c from to
          (called (n - c) (omega arith)) in
          subst (λ (k : ℕ). HasCalled o h k (transfer_call k) transfers) is there;
      alone = each-map (IsOf o finish (n + 1) (number_at n) (call_at n) (count_at n transfers) left.sent left.each (apart_at n few) legal grows) (λ (e : Entry). IsStormClient n e.request.client) h
          (λ e is. is_client n few e.request.client is.port is.made is.client)
          (all_are_of o finish (n + 1) (number_at n) (call_at n) (count_at n transfers) left.sent left.each (apart_at n few) legal grows);
    }

pub served_by : (o : Opening) (n transfers : ℕ) (finish : Finish) → HasRun (n + 1) [] finish → AreLeft o finish n transfers → IsServed o n transfers finish.publisher.history
served_by o n transfers finish run left = record { finish = finish; history_is = refl; left = left; grows = run left.sent (λ p lt. (left.each p lt).offered) }
