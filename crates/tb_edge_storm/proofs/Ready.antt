-- The clients of a storm: each on a port of its own.
use Rattle.std.proofs.Common.{◌≡◌, ℕ, zero, suc, ◌+◌, ◌-◌, ◌<◌, List, [], ◌∷◌, ◌++◌, length, get_or, Option, Some, None, IfSome, Bool, true, false, cond, ◌==◌, eqb-true, refl, sym, ap, ◌∙◌, subst, arith, length-append}
use Rattle.std.proofs.lemmas.Bool.{eqb-false}
use Rattle.std.proofs.Math.ListN.{get_or-append}
use Rattle.std.proofs.Math.Seq.{get_or-append_seam}
use Rattle.tb_records.specs.declared.bodies.Body.{Body}
use Rattle.tb_records.specs.Messages.{Message, Answer}
use Rattle.tb_records.specs.Ordered.{Each}
use Rattle.tb_records.proofs.ByKey.{each-map}
use Rattle.tb_published.specs.Openings.{Opening}
use Rattle.tb_published.proofs.Prefixes.{prefix_trans}
use Rattle.tb_service.specs.Names.{Name}
use Rattle.tb_service.specs.Ports.{Offers, AreNumbered, ArePortsOf}
use Rattle.tb_service.specs.Places.{places_from}
use Rattle.tb_service.specs.Finished.{Finish, IsOffered}
use Rattle.tb_caller.specs.Clients.{fresh}
use Rattle.tb_caller.specs.Endpoints.{IsAmong}
use Rattle.tb_caller_laws.specs.SeatCalls.{IsFromSeat}
use Rattle.tb_edge_storm.specs.declared.clients.Client.{Client}
use Rattle.tb_edge_storm.specs.declared.playing.Clients.{Clients}
use Rattle.tb_edge_storm.specs.declared.faults.StormFault.{StormFault}
use Rattle.tb_edge_storm.specs.declared.faults.StormFault.TheVariants as storm
use Rattle.tb_edge_storm.specs.Calls.{sent_in_session, accounts_call, transfer_call}
use Rattle.tb_edge_storm.specs.Served.{IsClientLeft, AreLeft}
use Rattle.tb_edge_storm.specs.private.Outcomes.{first_reported, fared}
use Rattle.tb_edge_storm.specs.private.Clients.{port_of, offered_by, IsNewClient, Stands, Plays, IsConcluded}
use Rattle.tb_edge_storm.specs.private.Playing.{new_port, IsNewOn, AreNew, AreReady, HasMade, HaveMade, MakeTransfers, IsClosed, AreClosed, AreOfService, HaveNoFault, AreServedBy, IsLearnt}
use Rattle.tb_edge_storm.proofs.Steps.{closed_on, seen_on}

-- the last of ports
pub record IsLast (name : Name) (n : ℕ) (ports : List Offers) (port : Offers) : Type 0 where
  pub before : AreNumbered name n ports
  pub service : port.service ≡ name
  pub number : port.number ≡ n + length ports
  pub nothing : port.offered ≡ []

last_in : (name : Name) (n : ℕ) (ports : List Offers) (port : Offers) → AreNumbered name n (ports ++ port ∷ []) → IsLast name n ports port
last_in name n [] port these = record { before = tt; service = these.0; number = these.1 ∙ omega arith; nothing = these.2 }
last_in name n (x ∷ xs) port these =
    let rest = last_in name (n + 1) xs port these.3 in
    record { before = (these.0, these.1, these.2, rest.before); service = rest.service; number = rest.number ∙ omega arith; nothing = rest.nothing }

module _ {J : Type 0} where
  -- a new client on the last of the ports
  pub record TakesLast (name : Name) (number : ℕ) (after : List Offers) (c : Client J) : Type 0 where
    pub before : AreNumbered name 0 after
    pub is_new : IsNewClient name (length after) number c

  takes_last : (name : Name) (number : ℕ) (before after : List Offers) (c : Client J) → AreNumbered name 0 before → IsNewOn number before after c → TakesLast name number after c
  takes_last name number before after c these on =
      let l = last_in name 0 after on.port (subst (AreNumbered name 0) on.last these) in
      let at : on.port.number ≡ length after = omega (arith, l.number) in
      record {
        before = l.before;
        is_new = subst (λ (n : ℕ). IsNewClient name n number c) at (subst (λ (s : Name). IsNewClient s on.port.number number c) l.service (on.is_new l.nothing));
      }

  count_last : (number : ℕ) (before after : List Offers) (c : Client J) → IsNewOn number before after c → length before ≡ length after + 1
  count_last number before after c on = ap length on.last ∙ length-append after (on.port ∷ [])

  -- `made` of the others are made
  pub record SoFar (name : Name) (count made : ℕ) (ports : List Offers) (others : List (Client J)) : Type 0 where
    pub before : AreNumbered name 0 ports
    pub left : length ports + made ≡ count
    pub count_is : length others ≡ made
    pub each : (i : ℕ) (d : Client J) → i < made → IsNewClient name (count - 1 - i) (i + 1) (get_or others i d)

  pub so_far_none : (name : Name) (count : ℕ) (ports : List Offers) → ArePortsOf name count ports → SoFar name count 0 ports []
  so_far_none name count ports these = record { before = these.0; left = omega (arith, these.1); count_is = refl; each = λ i d lt. absurd (omega (arith, lt)) }

  pub so_far_more : (name : Name) (count made : ℕ) (before after : List Offers) (others : List (Client J)) (c : Client J)
      → SoFar name count made before others → IsNewOn (made + 1) before after c → SoFar name count (made + 1) after (others ++ c ∷ [])
  so_far_more name count made before after others c so on =
      let takes = takes_last name (made + 1) before after c so.before on in
      let counts = count_last (made + 1) before after c on in
      let here : length after ≡ count - 1 - made = omega (arith, counts, so.left) in
      record {
        before = takes.before;
        left = omega (arith, counts, so.left);
        count_is = length-append others (c ∷ []) ∙ ap (λ (n : ℕ). n + 1) so.count_is;
        each = λ i d lt. by i d lt (i == made) refl (subst (λ (n : ℕ). IsNewClient name n (made + 1) c) here takes.is_new);
      }
    where
      by : (i : ℕ) (d : Client J) → i < made + 1 → (b : Bool) → (i == made) ≡ b → IsNewClient name (count - 1 - made) (made + 1) c
          → IsNewClient name (count - 1 - i) (i + 1) (get_or (others ++ c ∷ []) i d)
      by i d lt false e is =
          let other : i ≡ made → ⊥ = eqb-false i made e in
          let less : i < made = omega (arith, lt, other) in
          subst (IsNewClient name (count - 1 - i) (i + 1)) (sym (get_or-append others (c ∷ []) d i (omega (arith, less, so.count_is)))) (so.each i d less)
      by i d lt true e is =
          let same : i ≡ made = eqb-true i made e in
          let at : get_or (others ++ c ∷ []) i d ≡ c = ap (λ (k : ℕ). get_or (others ++ c ∷ []) k d) (same ∙ sym so.count_is) ∙ get_or-append_seam others c [] d in
          subst (IsNewClient name (count - 1 - i) (i + 1)) (sym at) (subst (λ (k : ℕ). IsNewClient name (count - 1 - k) (k + 1) c) (sym same) is)

  pub all_made : (name : Name) (count : ℕ) (ports : List Offers) (others : List (Client J)) → SoFar name count count ports others → AreNew name count others
  all_made name count ports others so = record { count_is = so.count_is; each = so.each }

  pub all_ready : (name : Name) (count : ℕ) (ports after : List Offers) (clients : Clients J) → IsNewOn 100 ports after clients.first
      → ((name : Name) → ArePortsOf name count after → AreNew name count clients.others.items) → ArePortsOf name (count + 1) ports → AreReady name count clients
  all_ready name count ports after clients on others these =
      let takes = takes_last name 100 ports after clients.first these.0 on in
      let counts : length after ≡ count = omega (arith, count_last 100 ports after clients.first on, these.1) in
      record { first = subst (λ (n : ℕ). IsNewClient name n 100 clients.first) counts takes.is_new; others = others name (takes.before, counts) }

-- what all made

module _ {J : Type 0} (o : Opening) where
  -- a new client made its calls
  pub has_made : (name : Name) (port number : ℕ) (call : ℕ → Body) (count : ℕ) (old new : Client J) → IsNewClient name port number old → (new.fault ≡ None → Plays o call count old new) → HasMade o name port number call count new
  has_made name port number call count old new is plays none =
      subst (λ (p : Option Offers). Stands o number call count p new) is.port_is
      (subst (λ (n : ℕ). Stands o n call count (port_of old.line) new) is.number_is (plays none (is.caller_is ∙ ap fresh (sym is.number_is))))

  pub closed_made : (name : Name) (port number : ℕ) (call : ℕ → Body) (count : ℕ) (old new : Client J) → HasMade o name port number call count old → IsClosed old new → HasMade o name port number call count new
  closed_made name port number call count old new made closed none = closed_on o number count call (Some (new_port name port)) old new (made (sym closed.fault_is ∙ none)) closed.same

  pub ready_made : (name : Name) (count transfers : ℕ) (old new : Clients J) → AreReady name count old
      → (new.first.fault ≡ None → Plays o (accounts_call count) 1 old.first new.first)
      → length new.others.items ≡ length old.others.items
      → (new.first.fault ≡ None → MakeTransfers o transfers old.others.items new.others.items)
      → HaveMade o name count transfers new
  ready_made name count transfers old new ready first same others = record {
    first = has_made name count 100 (accounts_call count) 1 old.first new.first ready.first first;
    count_is = same ∙ ready.others.count_is;
    others = λ none i d lt.
        let was : Client J = get_or old.others.items i d in
        let is : Client J = get_or new.others.items i d in
        let begun = ready.others.each i d lt in
        has_made name (count - 1 - i) (i + 1) (transfer_call (i + 1)) transfers was is begun
        (λ well. subst (λ (n : ℕ). Plays o (transfer_call n) transfers was is) begun.number_is ((others none).each i d (omega (arith, lt, ready.others.count_is)) well));
  }

  pub all_closed : (name : Name) (count transfers : ℕ) (old new : Clients J) → HaveMade o name count transfers old → IsClosed old.first new.first
      → AreClosed old.others.items new.others.items → HaveMade o name count transfers new
  all_closed name count transfers old new made first others = record {
    first = closed_made name count 100 (accounts_call count) 1 old.first new.first made.first first;
    count_is = others.count_is ∙ made.count_is;
    others = λ none i d lt.
        closed_made name (count - 1 - i) (i + 1) (transfer_call (i + 1)) transfers (get_or old.others.items i d) (get_or new.others.items i d)
        (made.others (sym first.fault_is ∙ none) i d lt) (others.each i d (omega (arith, lt, made.count_is)));
  }

  pub learnt_made : (name : Name) (count transfers : ℕ) (old new : Clients J) → HaveMade o name count transfers old → IsLearnt old new → HaveMade o name count transfers new
  learnt_made name count transfers old new made learnt = record {
    first = λ none. seen_on o 100 1 (accounts_call count) (Some (new_port name count)) old.first new.first learnt.number_is learnt.caller_is learnt.line_is learnt.seen
        (made.first (sym learnt.fault_is ∙ none));
    count_is = ap length learnt.others_are ∙ made.count_is;
    others = λ none i d lt.
        subst (λ (l : List (Client J)). HasMade o name (count - 1 - i) (i + 1) (transfer_call (i + 1)) transfers (get_or l i d)) (sym learnt.others_are)
        (made.others (sym learnt.fault_is ∙ none) i d lt);
  }

  -- the port is one of the service
  pub of_service : (name : Name) (port number : ℕ) (call : ℕ → Body) (count : ℕ) (c : Client J) → HasMade o name port number call count c → c.fault ≡ None
      → IfSome (port_of c.line) (λ p. p.service ≡ name)
  of_service name port number call count c made none = subst (λ (p : Option Offers). IfSome p (λ q. q.service ≡ name)) (sym (made none).sent) refl

  pub are_of : (name : Name) (count transfers : ℕ) (clients : Clients J) → HaveMade o name count transfers clients → clients.first.fault ≡ None → HaveNoFault clients.others.items
      → AreOfService name clients.others.items
  are_of name count transfers clients made none nones i d lt =
      of_service name (count - 1 - i) (i + 1) (transfer_call (i + 1)) transfers (get_or clients.others.items i d)
      (made.others none i d (omega (arith, lt, made.count_is))) (nones i d lt)

  -- what is left of a client
  pub is_left : (name : Name) (port number : ℕ) (call : ℕ → Body) (count : ℕ) (finish : Finish) (c : Client J) → HasMade o name port number call count c → c.fault ≡ None
      → IsConcluded finish c → IsClientLeft o finish port number call count (offered_by (port_of c.line))
  is_left name port number call count finish c made none served =
      let s : Stands o number call count (Some (new_port name port)) c = made none in
      let both : Some served.port ≡ Some (record { service = name; number = port; offered = s.more }) = sym served.port_is ∙ s.sent in
      let is : served.port ≡ record { service = name; number = port; offered = s.more } = cc both in
      let sent : s.more ≡ offered_by (port_of c.line) = sym (ap offered_by s.sent) in
      record {
        session = c.caller.session;
        returned = s.returned;
        all = s.all;
        lawful = s.lawful;
        taken = s.taken;
        given = each-map (λ (p : Message × Answer). IsFromSeat o c.seat p.1) (λ (p : Message × Answer). IsFromSeat o finish.publisher.history p.1) s.returned
            (λ p f. record { seen = f.seen; request = f.request; prefix = prefix_trans f.seen c.seat finish.publisher.history f.prefix served.seen; answers = f.answers }) s.given;
        own = subst (Each (λ (r : Message). IsAmong r (sent_in_session number c.caller.session call count))) sent s.own;
        offered = subst (λ (l : List Message). IsOffered l finish.taken (places_from port 1 finish.owners) finish.ended) sent
            (subst (λ (p : Offers). IsOffered p.offered finish.taken (places_from p.number 1 finish.owners) finish.ended) is served.offered);
      }

  pub are_left : (name : Name) (count transfers : ℕ) (finish : Finish) (clients : Clients J) → HaveMade o name count transfers clients → clients.first.fault ≡ None
      → HaveNoFault clients.others.items → IsConcluded finish clients.first → AreServedBy finish clients.others.items → AreLeft o finish count transfers
  are_left name count transfers finish clients made none nones first others = record {
    sent = λ p. cond (p == count) (offered_by (port_of clients.first.line)) (offered_by (port_of (other p).line));
    each = λ p lt. by p lt (p == count) refl;
  }
    where
      other : ℕ → Client J
      other p = get_or clients.others.items (count - 1 - p) clients.first

      by : (p : ℕ) → p < count + 1 → (b : Bool) → (p == count) ≡ b
          → IsClientLeft o finish p (cond b 100 (count - p)) (cond b (accounts_call count) (transfer_call (count - p))) (cond b 1 transfers)
          (cond b (offered_by (port_of clients.first.line)) (offered_by (port_of (other p).line)))
      by p lt true e =
          subst (λ (n : ℕ). IsClientLeft o finish n 100 (accounts_call count) 1 (offered_by (port_of clients.first.line))) (sym (eqb-true p count e))
          (is_left name count 100 (accounts_call count) 1 finish clients.first made.first none first)
      by p lt false e =
          let apart : p ≡ count → ⊥ = eqb-false p count e in
          let below : p < count = under p count lt apart in
          let i : ℕ = count - 1 - p in
          let within : i < count = omega (arith, below) in
          let here : i < length clients.others.items = omega (arith, within, made.count_is) in
          let port : count - 1 - i ≡ p = omega (arith, below) in
          let number : i + 1 ≡ count - p = omega (arith, below) in
          let l = is_left name (count - 1 - i) (i + 1) (transfer_call (i + 1)) transfers finish (other p) (made.others none i clients.first within) (nones i clients.first here)
          (others i clients.first here) in
          subst (λ (n : ℕ). IsClientLeft o finish p n (transfer_call n) transfers (offered_by (port_of (other p).line))) number
          (subst (λ (n : ℕ). IsClientLeft o finish n (i + 1) (transfer_call (i + 1)) transfers (offered_by (port_of (other p).line))) port l)
        where
          under : (p n : ℕ) → p < n + 1 → (p ≡ n → ⊥) → p < n
          under p n lt apart = omega (arith, lt, apart)

-- no client met a fault

none_first : (first next : Option StormFault) → first_reported first next ≡ None → (first ≡ None) × (next ≡ None)
none_first None next e = (refl, e)
none_first (Some storm.GaveUp) None e = absurd cc
none_first (Some storm.GaveUp) (Some f) e = absurd cc
none_first (Some storm.NoMemory) next e = absurd cc
none_first (Some storm.NoPlace) next e = absurd cc
none_first (Some storm.NoCopy) next e = absurd cc
none_first (Some storm.Device) next e = absurd cc

module _ {J : Type 0} where
  pub no_fault : (first : Option StormFault) (others : List (Client J)) → fared first others ≡ None → (first ≡ None) × HaveNoFault others
  no_fault first [] e = (e, λ i d lt. absurd (omega (arith, lt)))
  no_fault first (c ∷ cs) e =
      let rest = no_fault (first_reported first c.fault) cs e in
      let both = none_first first c.fault rest.0 in
      (both.0, at both.1 rest.1)
    where
      at : c.fault ≡ None → HaveNoFault cs → HaveNoFault (c ∷ cs)
      at here later zero d lt = here
      at here later (suc i) d lt = later i d (omega (arith, lt))
