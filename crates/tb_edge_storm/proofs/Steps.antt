-- What a client has made of its session after each call and each repeat.
use Rattle.std.proofs.Common.{◌≡◌, ◌==◌, ◌%◌, ◌-◌, inl, inr, ℕ, zero, suc, ◌+◌, ◌≤◌, Bool, true, false, cond, List, [], ◌∷◌, ◌++◌, length, Option, Some, None, Result, Ok, Err, IfOk, OnOk, IsTrue, if◌then◌else◌, refl, sym, ap, ◌∙◌, subst, arith, append_assoc, append-nil, length-append, add-one}
use mathlib.Core.List.{IsPrefix}
use Rattle.tb_records.specs.declared.bodies.Body.{Body}
use Rattle.tb_records.specs.declared.bodies.Body.TheVariants.{Register}
use Rattle.tb_records.specs.declared.operations.Operation.TheVariants as op
use Rattle.tb_records.specs.Operations.{operation_code}
use Rattle.tb_records.specs.Messages.{Message, Answer, asked, operation, is_register}
use Rattle.tb_records.specs.Ordered.{Each}
use Rattle.tb_records.proofs.ByKey.{each-map}
use Rattle.tb_machine.specs.declared.entries.Entry.{Entry}
use Rattle.tb_machine.specs.Histories.{is_lawful}
use Rattle.tb_published.specs.Openings.{Opening, AnswersIn}
use Rattle.tb_published.proofs.Prefixes.{prefix_self, prefix_trans}
use Rattle.tb_service.specs.Names.{Name}
use Rattle.tb_service.specs.Ports.{Offers}
use Rattle.tb_service.specs.Calls.{OffersOnce}
use Rattle.tb_caller.specs.declared.callers.Heard.{Heard}
use Rattle.tb_caller.specs.declared.callers.Heard.TheVariants as hearing
use Rattle.tb_caller.specs.declared.callers.Phase.TheVariants.{Idle}
use Rattle.tb_caller.specs.Clients.{fresh, client_with, open_request, made, called, heard, moved, received, session_with as session_after}
use Rattle.tb_caller.specs.Clients.{Client as Session}
use Rattle.tb_caller.specs.Endpoints.{IsAmong}
use Rattle.tb_caller.specs.Calls.{IsTaken}
use Rattle.tb_caller.proofs.Own.{IsOwn, IsOf, own_called, open_of, Returns as ReturnsOf, returns_of}
use Rattle.tb_caller_laws.specs.SeatCalls.{IsFromSeat}
use Rattle.tb_edge_storm.specs.declared.clients.Client.{Client}
use Rattle.tb_edge_storm.specs.Calls.{sent_in_session, transfer_call}
use Rattle.tb_edge_storm.specs.private.Clients.{port_of, more_by, offered_by, offers, repeats_at, repeat_count, Waits, Hears, Returns, Repeats, Stands, Plays, TransfersMore}
use Rattle.tb_edge_storm.proofs.Sessions.{among}

-- ports

abbrev port_with : Name → ℕ → List Message → Offers
port_with s n xs = record { service = s; number = n; offered = xs }

pub more_none : (p : Option Offers) → more_by p [] ≡ p
more_none None = refl
more_none (Some p) = ap (λ (l : List Message). Some (record { service = p.service; number = p.number; offered = l })) (append-nil p.offered)

pub more_more : (p : Option Offers) (xs ys : List Message) → more_by (more_by p xs) ys ≡ more_by p (xs ++ ys)
more_more None xs ys = refl
more_more (Some p) xs ys = ap (λ (l : List Message). Some (record { service = p.service; number = p.number; offered = l })) (append_assoc p.offered xs ys)

same_port : (s t : Name) (n m : ℕ) (xs ys : List Message) → s ≡ t → n ≡ m → xs ≡ ys → port_with s n xs ≡ port_with t m ys
same_port s t n m xs ys e f g = cc (e, f, g)

some_more : (p : Offers) (q : Offers) (xs : List Message) → q.service ≡ p.service → q.number ≡ p.number → q.offered ≡ p.offered ++ xs → Some q ≡ more_by (Some p) xs
some_more p q xs service number offered = ap (λ (r : Offers). Some r) (same_port q.service p.service q.number p.number q.offered (p.offered ++ xs) service number offered)

each_join : {X : Type 0} (P : X → Type 0) (xs ys : List X) → Each P xs → Each P ys → Each P (xs ++ ys)
each_join P [] ys one two = two
each_join P (x ∷ xs) ys one two = (one.0, each_join P xs ys one.1 two)

-- a session

seat_on : (o : Opening) (old new : List Entry) (a : Answer) → IsPrefix old new → IsFromSeat o old a → IsFromSeat o new a
seat_on o old new a grows is = record { seen = is.seen; request = is.request; prefix = prefix_trans is.seen old new is.prefix grows; answers = is.answers }

same_client : (id m : ℕ) (s t : ℕ) (k l : ℕ) → id ≡ m → s ≡ t → k ≡ l → client_with id s k Idle ≡ client_with m t l Idle
same_client id m s t k l e f g = cc (e, f, g)

made_call : (c : Session) (body : Body) → is_register body ≡ false → made c body ≡ asked c.id c.session (c.last + 1) body
made_call c body e = ap (λ (b : Bool). cond b (asked c.id 0 0 body) (asked c.id c.session (c.last + 1) body)) e

session_kept : (s : ℕ) (a : Answer) (body : Body) → a.operation ≡ operation body → is_register body ≡ false → session_after s a ≡ s
session_kept s a body same e = ap (λ (b : Bool). cond b a.session s) (ap (λ (n : ℕ). n == operation_code op.Register) same ∙ e)

-- asking

module _ {J : Type 0} where
  pub waits_self : (c : Client J) → Waits c c
  waits_self c = record { number_is = refl; seen = prefix_self c.seat; more = []; sent = sym (more_none (port_of c.line)); each = tt }

  pub waits_on : (a b c : Client J) → b.caller ≡ a.caller → Waits a b → Waits b c → Waits a c
  waits_on a b c same one two = record {
    number_is = two.number_is ∙ one.number_is;
    seen = prefix_trans a.seat b.seat c.seat one.seen two.seen;
    more = one.more ++ two.more;
    sent = two.sent ∙ (ap (λ (p : Option Offers). more_by p two.more) one.sent ∙ more_more (port_of a.line) one.more two.more);
    each = each_join (λ (r : Message). open_request a.caller.phase ≡ Some r) one.more two.more one.each
        (subst (λ (s : Session). Each (λ (r : Message). open_request s.phase ≡ Some r) two.more) same two.each);
  }

  module _ (o : Opening) where
    pub hears_on : (h : Heard) (a b c : Client J) → b.caller ≡ a.caller → Waits a b → Hears o h b c → Hears o h a c
    hears_on h a b c same waits hears = record {
      waits = waits_on a b c same waits hears.waits;
      answer = hears.answer;
      heard_is = hears.heard_is ∙ ap (λ (s : Session). heard s hears.answer) same;
      caller_is = hears.caller_is ∙ ap (λ (s : Session). received s hears.answer) same;
      given = hears.given;
    }

    -- a reply that is not for the request, or refuses it, leaves the session as it was
    pub still_refused : (a b : Client J) → Hears o hearing.Refused a b → b.caller ≡ a.caller
    still_refused a b hears = hears.caller_is ∙ ap (λ (h : Heard). moved h a.caller hears.answer) (sym hears.heard_is)

    pub still_other : (a b : Client J) → Hears o hearing.Other a b → b.caller ≡ a.caller
    still_other a b hears = hears.caller_is ∙ ap (λ (h : Heard). moved h a.caller hears.answer) (sym hears.heard_is)

    -- a call of a port, and the reply that was taken
    pub hears : (a b : Client J) (r : Message) (answer : Answer) (h : Heard) (p q : Offers)
        → b.number ≡ a.number → IsPrefix a.seat b.seat → port_of a.line ≡ Some p → port_of b.line ≡ Some q → q.service ≡ p.service → q.number ≡ p.number
        → OffersOnce o a.seat b.seat r p q → open_request a.caller.phase ≡ Some r → h ≡ heard a.caller answer → b.caller ≡ received a.caller answer
        → AnswersIn o b.seat r answer → Hears o h a b
    hears a b r answer h p q number seen from to service port_number once open_is heard_is caller_is answers = record {
      waits = by once;
      answer = answer;
      heard_is = heard_is;
      caller_is = caller_is;
      given = record { seen = b.seat; request = r; prefix = prefix_self b.seat; answers = answers };
    }
      where
        sent_is : (xs : List Message) → q.offered ≡ p.offered ++ xs → port_of b.line ≡ more_by (port_of a.line) xs
        sent_is xs e = to ∙ (some_more p q xs service port_number e ∙ ap (λ (o : Option Offers). more_by o xs) (sym from))

        by : OffersOnce o a.seat b.seat r p q → Waits a b
        by (inl none) = record { number_is = number; seen = seen; more = []; sent = sent_is [] (none ∙ sym (append-nil p.offered)); each = tt }
        by (inr one) = record { number_is = number; seen = seen; more = r ∷ []; sent = sent_is (r ∷ []) one.0; each = (open_is, tt) }

    -- a call is one more of the session

    module _ (id : ℕ) (call : ℕ → Body) (start : Option Offers) where
      -- the client sent more of what it had sent, or saw more
      pub stands_on : (count : ℕ) (c d : Client J) (more : List Message) → d.number ≡ c.number → d.caller ≡ c.caller → IsPrefix c.seat d.seat
          → port_of d.line ≡ more_by (port_of c.line) more
          → (Stands o id call count start c → Each (λ (r : Message). IsAmong r (sent_in_session id c.caller.session call count)) more)
          → Stands o id call count start c → Stands o id call count start d
      stands_on count c d more number same grows sent each s =
          let session : d.caller.session ≡ c.caller.session = ap (λ (x : Session). x.session) same in
          let back : c.caller.session ≡ d.caller.session = sym session in
          record {
            number_is = number ∙ s.number_is;
            caller_is = same ∙ (s.caller_is ∙ ap (λ (n : ℕ). client_with id n count Idle) back);
            returned = s.returned;
            all = s.all ∙ ap (λ (n : ℕ). sent_in_session id n call count) back;
            lawful = subst (λ (n : ℕ). Each (λ (r : Message). IsTrue (is_lawful r)) (sent_in_session id n call count)) back s.lawful;
            taken = subst (λ (n : ℕ). Each (IsTaken (sent_in_session id n call count)) s.returned) back s.taken;
            given = each-map (λ (p : Message × Answer). IsFromSeat o c.seat p.1) (λ (p : Message × Answer). IsFromSeat o d.seat p.1) s.returned (λ p is. seat_on o c.seat d.seat p.1 grows is) s.given;
            more = s.more ++ more;
            sent = sent ∙ (ap (λ (p : Option Offers). more_by p more) s.sent ∙ more_more start s.more more);
            own = subst (λ (n : ℕ). Each (λ (r : Message). IsAmong r (sent_in_session id n call count)) (s.more ++ more)) back
                (each_join (λ (r : Message). IsAmong r (sent_in_session id c.caller.session call count)) s.more more s.own (each s));
          }

      -- a reply was taken for a call

      pub record Took (body : Body) (old new : Client J) : Type 0 where
        pub answer : Answer
        pub is : new.caller ≡ client_with old.caller.id (session_after old.caller.session answer) (made old.caller body).request Idle
        pub number_is : new.number ≡ old.number
        pub client : answer.client ≡ (made old.caller body).client
        pub request : answer.request ≡ (made old.caller body).request
        pub operation_is : answer.operation ≡ operation (made old.caller body).body
        pub taken : IsTaken (made old.caller body ∷ []) (made old.caller body, answer)
        pub lawful : IsTrue (is_lawful (made old.caller body))
        pub given : IsFromSeat o new.seat answer
        pub seen : IsPrefix old.seat new.seat
        pub more : List Message
        pub sent : port_of new.line ≡ more_by (port_of old.line) more
        pub each : Each (λ (m : Message). m ≡ made old.caller body) more

      took : (body : Body) (old new : Client J) → IsOwn id [] old.caller → Returns o body old new → Took body old new
      took body old new own r =
          let call : Message = made old.caller body in
          let waiting : Session = called old.caller call in
          let is_waiting : r.waiting.caller ≡ waiting = r.caller_is in
          let a : Answer = r.hears.answer in
          let returned : heard waiting a ≡ hearing.Returned = sym (r.hears.heard_is ∙ ap (λ (s : Session). heard s a) is_waiting) in
          let back : ReturnsOf (Some call) a = returns_of (Some call) a returned in
          let same : back.request ≡ call = cc back.waits in
          let its : IsOf id waiting.session waiting.last call = open_of id [] waiting call (own_called id [] old.caller body own r.free) refl in
          let client : a.client ≡ call.client = back.names_it.client ∙ ap (λ (m : Message). m.client) same in
          let number : a.request ≡ call.request = back.names_it.number ∙ ap (λ (m : Message). m.request) same in
          record {
            answer = a;
            is = r.hears.caller_is ∙ (ap (λ (s : Session). received s a) is_waiting ∙ ap (λ (h : Heard). moved h waiting a) returned);
            number_is = r.hears.waits.number_is ∙ r.number_is;
            client = client;
            request = number;
            operation_is = back.names_it.operation_is ∙ ap (λ (m : Message). operation m.body) same;
            taken = record { sent_it = inl refl; client = client; number = number; reply = back.reply };
            lawful = its.lawful;
            given = r.hears.given;
            seen = subst (λ (s : List Entry). IsPrefix s new.seat) r.seat_is r.hears.waits.seen;
            more = r.hears.waits.more;
            sent = r.hears.waits.sent ∙ ap (λ l. more_by (port_of l) r.hears.waits.more) r.line_is;
            each = each-map (λ (m : Message). open_request r.waiting.caller.phase ≡ Some m) (λ (m : Message). m ≡ call) r.hears.waits.more
                (λ m is. let here : Some call ≡ Some m = sym (ap (λ (s : Session). open_request s.phase) is_waiting) ∙ is in cc here) r.hears.waits.each;
          }

      -- the register
      pub registered : (old new : Client J) → id ≡ old.number → start ≡ port_of old.line → old.caller ≡ fresh id → Returns o Register old new → Stands o id call zero start new
      registered old new number_is start_is new_is r =
          let own : IsOwn id [] old.caller = subst (IsOwn id []) (sym new_is) (record { id_is = refl; start = refl; open_is = tt; within = tt }) in
          let t = took Register old new own r in
          let request : made old.caller Register ≡ asked id 0 0 Register = ap (λ (s : Session). made s Register) new_is in
          let taken : IsTaken (asked id 0 0 Register ∷ []) (asked id 0 0 Register, t.answer) = subst (λ (m : Message). IsTaken (m ∷ []) (m, t.answer)) request t.taken in
          record {
            number_is = t.number_is ∙ sym number_is;
            caller_is = t.is ∙ same_client old.caller.id id (session_after old.caller.session t.answer) new.caller.session (made old.caller Register).request 0
                (ap (λ (s : Session). s.id) new_is) (sym (ap (λ (s : Session). s.session) t.is)) (ap (λ (m : Message). m.request) request);
            returned = (asked id 0 0 Register, t.answer) ∷ [];
            all = refl;
            lawful = (subst (λ (m : Message). IsTrue (is_lawful m)) request t.lawful, tt);
            taken = (taken, tt);
            given = (t.given, tt);
            more = t.more;
            sent = t.sent ∙ ap (λ (p : Option Offers). more_by p t.more) (sym start_is);
            own = each-map (λ (m : Message). m ≡ made old.caller Register) (λ (m : Message). IsAmong m (asked id 0 0 Register ∷ [])) t.more (λ m is. inl (is ∙ request)) t.each;
          }

      -- a call after its register
      pub called_next : (count : ℕ) (old new : Client J) → is_register (call (count + 1)) ≡ false → Stands o id call count start old → Returns o (call (count + 1)) old new
          → Stands o id call (suc count) start new
      called_next count old new calls s r =
          let body : Body = call (count + 1) in
          let own : IsOwn id [] old.caller = subst (IsOwn id []) (sym s.caller_is) (record { id_is = refl; start = tt; open_is = tt; within = tt }) in
          let t = took body old new own r in
          let n : ℕ = new.caller.session in
          let m : Message = made old.caller body in
          let made_is : m ≡ asked old.caller.id old.caller.session (old.caller.last + 1) body = made_call old.caller body calls in
          let kept : session_after old.caller.session t.answer ≡ old.caller.session =
          session_kept old.caller.session t.answer body (t.operation_is ∙ ap (λ (x : Message). operation x.body) made_is) calls in
          let back : old.caller.session ≡ n = sym (ap (λ (x : Session). x.session) t.is ∙ kept) in
          let of_id : old.caller.id ≡ id = ap (λ (x : Session). x.id) s.caller_is in
          let of_last : old.caller.last ≡ count = ap (λ (x : Session). x.last) s.caller_is in
          let request : m ≡ asked id n (count + 1) body = made_is ∙ asks old.caller.id id old.caller.session n old.caller.last count body of_id back of_last in
          let older : List Message = sent_in_session id n call count in
          let earlier : List Message = sent_in_session id old.caller.session call count in
          let list : earlier ≡ older = ap (λ (k : ℕ). sent_in_session id k call count) back in
          let taken : IsTaken (asked id n (count + 1) body ∷ []) (asked id n (count + 1) body, t.answer) = subst (λ (x : Message). IsTaken (x ∷ []) (x, t.answer)) request t.taken in
          record {
            number_is = t.number_is ∙ s.number_is;
            caller_is = t.is ∙ same_client old.caller.id id (session_after old.caller.session t.answer) n m.request (suc count)
                of_id (kept ∙ back) (ap (λ (x : Message). x.request) request ∙ add-one count);
            returned = (asked id n (count + 1) body, t.answer) ∷ s.returned;
            all = ap (λ (l : List Message). asked id n (count + 1) body ∷ l) (s.all ∙ list);
            lawful = (subst (λ (x : Message). IsTrue (is_lawful x)) request t.lawful, subst (Each (λ (x : Message). IsTrue (is_lawful x))) list s.lawful);
            taken = (
              record { sent_it = inl refl; client = taken.client; number = taken.number; reply = taken.reply },
              each-map (IsTaken earlier) (IsTaken (asked id n (count + 1) body ∷ older)) s.returned
                  (λ p is. record { sent_it = inr (subst (IsAmong p.0) list is.sent_it); client = is.client; number = is.number; reply = is.reply }) s.taken,
            );
            given = (
              t.given,
              each-map (λ (p : Message × Answer). IsFromSeat o old.seat p.1) (λ (p : Message × Answer). IsFromSeat o new.seat p.1) s.returned (λ p is. seat_on o old.seat new.seat p.1 t.seen is) s.given,
            );
            more = s.more ++ t.more;
            sent = t.sent ∙ (ap (λ (p : Option Offers). more_by p t.more) s.sent ∙ more_more start s.more t.more);
            own = each_join (λ (x : Message). IsAmong x (asked id n (count + 1) body ∷ older)) s.more t.more
                (each-map (λ (x : Message). IsAmong x earlier) (λ (x : Message). IsAmong x (asked id n (count + 1) body ∷ older)) s.more (λ x is. inr (subst (IsAmong x) list is)) s.own)
                (each-map (λ (x : Message). x ≡ m) (λ (x : Message). IsAmong x (asked id n (count + 1) body ∷ older)) t.more (λ x is. inl (is ∙ request)) t.each);
          }
        where
          asks : (a b : ℕ) (s t : ℕ) (k l : ℕ) (body : Body) → a ≡ b → s ≡ t → k ≡ l → asked a s (k + 1) body ≡ asked b t (l + 1) body
          asks a b s t k l body e f g = cc (e, f, g)

-- what goes on

third : (k : ℕ) → 1 ≤ k → (k % 3 == 0) ≡ true → 3 ≤ k
third zero from e = absurd (omega (arith, from))
third (suc zero) from e = absurd cc
third (suc (suc zero)) from e = absurd cc
third (suc (suc (suc k))) from e = omega arith

own_repeats : (id session count k : ℕ) → 1 ≤ k → k ≤ count → Each (λ (r : Message). IsAmong r (sent_in_session id session (transfer_call id) count)) (repeats_at id session k)
own_repeats id session count k from to = (among id session (transfer_call id) count k from to, by (k % 3 == 0) refl)
  where
    by : (b : Bool) → (k % 3 == 0) ≡ b
        → Each (λ (r : Message). IsAmong r (sent_in_session id session (transfer_call id) count)) (if b then asked id session (k - 2) (transfer_call id (k - 2)) ∷ [] else [])
    by true e = let above : 3 ≤ k = third k from e in (among id session (transfer_call id) count (k - 2) (omega (arith, above)) (omega (arith, to)), tt)
    by false e = tt

module _ {J : Type 0} (o : Opening) where
  pub repeated : (id count k : ℕ) (start : Option Offers) (old new : Client J) → 1 ≤ k → k ≤ count → Stands o id (transfer_call id) count start old
      → Repeats (repeats_at old.number old.caller.session k) old new → Stands o id (transfer_call id) count start new
  repeated id count k start old new from to s r =
      stands_on o id (transfer_call id) start count old new (repeats_at old.number old.caller.session k) r.number_is r.caller_is
      (subst (λ (l : List Entry). IsPrefix old.seat l) (sym r.seat_is) (prefix_self old.seat)) r.sent
      (λ s. subst (λ (n : ℕ). Each (λ (r : Message). IsAmong r (sent_in_session id old.caller.session (transfer_call id) count)) (repeats_at n old.caller.session k)) (sym s.number_is)
      (own_repeats id old.caller.session count k from to))
      s

  pub closed_on : (id count : ℕ) (call : ℕ → Body) (start : Option Offers) (old new : Client J) → Stands o id call count start old → Repeats [] old new → Stands o id call count start new
  closed_on id count call start old new s r =
      stands_on o id call start count old new [] r.number_is r.caller_is (subst (λ (l : List Entry). IsPrefix old.seat l) (sym r.seat_is) (prefix_self old.seat)) r.sent (λ s. tt) s

  pub seen_on : (id count : ℕ) (call : ℕ → Body) (start : Option Offers) (old new : Client J) → new.number ≡ old.number → new.caller ≡ old.caller → new.line ≡ old.line → IsPrefix old.seat new.seat
      → Stands o id call count start old → Stands o id call count start new
  seen_on id count call start old new number caller line seen s =
      stands_on o id call start count old new [] number caller seen (ap port_of line ∙ sym (more_none (port_of old.line))) (λ s. tt) s

  -- a transfer that is created and delivered again
  pub goes_one : (done : ℕ) (body : Body) (old mid new : Client J) → body ≡ transfer_call old.number (done + 1) → Returns o body old mid
      → Repeats (repeats_at mid.number mid.caller.session (done + 1)) mid new → TransfersMore o done (done + 1) old new
  goes_one done body old mid new body_is called again start s =
      let r : Returns o (transfer_call old.number (done + 1)) old mid = subst (λ (b : Body). Returns o b old mid) body_is called in
      let t : Stands o old.number (transfer_call old.number) (suc done) start mid = called_next o old.number (transfer_call old.number) start done old mid refl s r in
      subst (λ (n : ℕ). Stands o old.number (transfer_call old.number) n start new) (sym (add-one done))
      (repeated old.number (suc done) (done + 1) start mid new (omega arith) (omega arith) t again)

  pub goes_none : (c : Client J) → TransfersMore o 0 0 c c
  goes_none c start s = s

  pub goes_more : (done : ℕ) (a b c : Client J) → TransfersMore o 0 done a b → TransfersMore o done (done + 1) b c → TransfersMore o 0 (done + 1) a c
  goes_more done a b c one two start s =
      let t : Stands o a.number (transfer_call a.number) done start b = one start s in
      let u : Stands o b.number (transfer_call b.number) done start b = subst (λ (n : ℕ). Stands o n (transfer_call n) done start b) (sym t.number_is) t in
      subst (λ (n : ℕ). Stands o n (transfer_call n) (done + 1) start c) t.number_is (two start u)

  -- whole sessions
  pub plays_transfers : (count : ℕ) (old mid new : Client J) → Returns o Register old mid → TransfersMore o 0 count mid new → Plays o (transfer_call old.number) count old new
  plays_transfers count old mid new first on new_is =
      let s : Stands o old.number (transfer_call old.number) 0 (port_of old.line) mid = registered o old.number (transfer_call old.number) (port_of old.line) old mid refl refl new_is first in
      let t : Stands o mid.number (transfer_call mid.number) 0 (port_of old.line) mid = subst (λ (n : ℕ). Stands o n (transfer_call n) 0 (port_of old.line) mid) (sym s.number_is) s in
      subst (λ (n : ℕ). Stands o n (transfer_call n) count (port_of old.line) new) s.number_is (on (port_of old.line) t)

  pub plays_once : (call : ℕ → Body) (body : Body) (old mid new : Client J) → body ≡ call 1 → is_register (call 1) ≡ false → Returns o Register old mid → Returns o body mid new → Plays o call 1 old new
  plays_once call body old mid new body_is calls first then_is new_is =
      called_next o old.number call (port_of old.line) 0 mid new calls (registered o old.number call (port_of old.line) old mid refl refl new_is first) (subst (λ (b : Body). Returns o b mid new) body_is then_is)

-- counts

grows : (p : Option Offers) (xs : List Message) → length (offered_by p) ≤ length (offered_by (more_by p xs))
grows None xs = omega arith
grows (Some p) xs = omega (arith, length-append p.offered xs)

module _ {J : Type 0} where
  -- a client that waits, or returns, sends no less
  pub waits_grows : (a b : Client J) → Waits a b → offers a.line ≤ offers b.line
  waits_grows a b w = subst (λ (p : Option Offers). length (offered_by (port_of a.line)) ≤ length (offered_by p)) (sym w.sent) (grows (port_of a.line) w.more)

  pub returns_grows : (o : Opening) (body : Body) (a b : Client J) → Returns o body a b → offers a.line ≤ offers b.line
  returns_grows o body a b r = subst (λ l. offers l ≤ offers b.line) r.line_is (waits_grows r.waiting b r.hears.waits)

pub one_repeat : (k : ℕ) → 1 ≤ repeat_count k
one_repeat k = by (k % 3 == 0)
  where
    by : (b : Bool) → 1 ≤ cond b 2 1
    by true = omega arith
    by false = omega arith

-- what follows from an Ok
pub on_ok : {A E P Q : Type 0} (r : Result A E) → (P → Q) → OnOk r P → OnOk r Q
on_ok (Ok x) f p = f p
on_ok (Err e) f p = tt

pub if_ok : {A E : Type 0} {P Q : A → Type 0} (r : Result A E) → ((x : A) → P x → Q x) → IfOk r P → IfOk r Q
if_ok (Ok x) f p = f x p
if_ok (Err e) f p = tt
