-- Orders are served one after another.
use Rattle.std.proofs.Common.{◌≡◌, ℕ, ◌+◌, ◌<◌, List, [], ◌∷◌, ◌++◌, length, replicate, refl, sym, ap, ◌∙◌, subst, append_assoc, append-nil, length-append, arith}
use Rattle.std.specs.List.{All}
use Rattle.std.proofs.lemmas.List.{length-replicate}
use Rattle.std.proofs.lemmas.List.Elements.{All-nil, All-cons, All-head, All-tail, All-append, All-replicate}
use Rattle.crossbeam_channel.specs.Claims.{Pass, view}
use Rattle.tb_records.specs.Messages.{Message}
use Rattle.tb_machine.specs.declared.entries.Entry.{Entry}
use Rattle.tb_published.specs.declared.faults.TakeFault.{TakeFault}
use Rattle.tb_published.specs.Openings.{Opening}
use Rattle.tb_service.specs.declared.orders.Order.{Order}
use Rattle.tb_service.specs.declared.rule.View.{View}
use Rattle.tb_service.specs.declared.clerk.Clerk.{Clerk}
use Rattle.tb_service.specs.Sent.{requests_in}
use Rattle.tb_service.specs.Places.{requests, ports, HaveOwners}
use Rattle.tb_service.specs.Names.{service_of}
use Rattle.tb_service.specs.History.{Serves, ServesOn}
use Rattle.tb_service.specs.Clerks.{server_state, UsesPlaces}
use Rattle.tb_service.specs.private.Desks.{ServesOrders}
use Rattle.tb_service.specs.Servers.{Finishes}
use Rattle.tb_service.proofs.Turns.{serves_on_none, serves_on_more, serves_on_at}

-- places

pub requests-append : (xs ys : List Order) → requests (xs ++ ys) ≡ requests xs ++ requests ys
requests-append [] ys = refl
requests-append (o ∷ os) ys = ap (λ (l : List Message). requests_in o.what ++ l) (requests-append os ys) ∙ sym (append_assoc (requests_in o.what) (requests os) (requests ys))

pub ports-append : (xs ys : List Order) → ports (xs ++ ys) ≡ ports xs ++ ports ys
ports-append [] ys = refl
ports-append (o ∷ os) ys =
    let front : List ℕ = replicate (length (requests_in o.what)) o.port in
    ap (λ (l : List ℕ). front ++ l) (ports-append os ys) ∙ sym (append_assoc front (ports os) (ports ys))

-- each request has a port
pub length-ports : (xs : List Order) → length (ports xs) ≡ length (requests xs)
length-ports [] = refl
length-ports (o ∷ os) =
    let front : List ℕ = replicate (length (requests_in o.what)) o.port in
    let all = length-ports os in
    let here : length front ≡ length (requests_in o.what) = length-replicate (length (requests_in o.what)) o.port in
    length-append front (ports os) ∙ omega arith ∙ sym (length-append (requests_in o.what) (requests os))

-- those of orders of ports that were made are below the number of ports
ports_below : (n : ℕ) (os : List Order) → All (λ (o : Order). o.port < n) os → All (λ (p : ℕ). p < n) (ports os)
ports_below n [] owned = All-nil (λ (p : ℕ). p < n)
ports_below n (o ∷ os) owned =
    let Below : ℕ → Type 0 = λ p. p < n in
    let Owned : Order → Type 0 = λ o. o.port < n in
    let many : ℕ = length (requests_in o.what) in
    All-append Below (replicate many o.port) (ports os) (All-replicate Below many o.port (All-head Owned o os owned)) (ports_below n os (All-tail Owned o os owned))

pub have_owners : (n : ℕ) (os : List Order) → All (λ (o : Order). o.port < n) os → HaveOwners n (requests os) (ports os)
have_owners n os owned = record { whole = length-ports os; made = ports_below n os owned }

pub replicate-snoc : (rs : List Message) (r : Message) (p : ℕ) → replicate (length (rs ++ r ∷ [])) p ≡ replicate (length rs) p ++ p ∷ []
replicate-snoc [] r p = refl
replicate-snoc (x ∷ xs) r p = ap (λ (l : List ℕ). p ∷ l) (replicate-snoc xs r p)

-- one more order
pub places_after : (taken longer : List Order) (order : Order) (a b c d : List ℕ) → ports taken ≡ a → longer ≡ taken ++ order ∷ [] → b ≡ a
    → c ≡ b ++ replicate (length (requests_in order.what)) order.port → d ≡ c → ports longer ≡ d
places_after taken longer order a b c d before is room served shown =
    let more : List ℕ = replicate (length (requests_in order.what)) order.port in
    ap ports is ∙ ports-append taken (order ∷ []) ∙ ap (λ (l : List ℕ). ports taken ++ l) (append-nil more) ∙ ap (λ (l : List ℕ). l ++ more) (before ∙ sym room) ∙ sym served ∙ sym shown

module _ {J W M G : Type 0} where
  -- state

  pub uses_none : (c : Clerk J W M G) → UsesPlaces 0 c c
  uses_none c = record { ports = omega arith; refused = omega arith; places = refl; refusals = refl }

  pub uses_one_more : (n m : ℕ) (c d e : Clerk J W M G) → n + 1 ≡ m → UsesPlaces n c d → UsesPlaces 1 d e → UsesPlaces m c e
  uses_one_more n m c d e is these those =
      let a = these.ports in let b = these.refused in let x = those.ports in let y = those.refused in
      record { ports = omega arith; refused = omega arith; places = those.places ∙ these.places; refusals = those.refusals ∙ these.refusals }

  module _ (o : Opening) (tells : M → ℕ → M → Type 0) (passes : G → ℕ → G → Type 0) where
    -- no order was taken
    pub orders_none : (p q : Pass Order View) (c d : Clerk J W M G) → (view q).taken ≡ (view p).taken → (view q).ports ≡ (view p).ports → service_of q ≡ service_of p
        → server_state d ≡ server_state c → d.refused.items ≡ c.refused.items → ServesOrders o tells passes p c q d
    orders_none p q c d taken made named room refused = record {
      orders = [];
      taken = taken ∙ sym (append-nil (view p).taken);
      owned = All-nil (λ (o : Order). o.port < (view p).ports);
      served = serves_on_at o tells passes (server_state c) (server_state c) (server_state c) (server_state d) (length c.ports.items + 1) (length c.ports.items + 1) [] c.refused.items c.refused.items c.refused.items d.refused.items
          refl refl refl (sym refused) (sym room) (serves_on_none o tells passes (server_state c) (length c.ports.items + 1) c.refused.items);
      made = made;
      named = named;
    }

    -- an order was taken, by a clerk that had taken memory, and shown
    pub orders_one : (p q : Pass Order View) (order : Order) (c c' d' d : Clerk J W M G) → (view q).taken ≡ (view p).taken ++ order ∷ [] → order.port < (view p).ports → (view q).ports ≡ (view p).ports → service_of q ≡ service_of p
        → server_state c' ≡ server_state c → c'.ports.items ≡ c.ports.items → c'.refused.items ≡ c.refused.items
        → ServesOn o tells passes (server_state c') (length c'.ports.items + 1) (requests_in order.what) c'.refused.items d'.refused.items (server_state d')
        → server_state d ≡ server_state d' → d.refused.items ≡ d'.refused.items → ServesOrders o tells passes p c q d
    orders_one p q order c c' d' d taken owned made named room ports_are refused served shown kept = record {
      orders = order ∷ [];
      taken = taken;
      owned = All-cons (λ (o : Order). o.port < (view p).ports) order [] owned (All-nil (λ (o : Order). o.port < (view p).ports));
      served = subst (λ (l : List Message). ServesOn o tells passes (server_state c) (length c.ports.items + 1) l c.refused.items d.refused.items (server_state d)) (sym (append-nil (requests_in order.what)))
          (serves_on_at o tells passes (server_state c') (server_state c) (server_state d') (server_state d) (length c'.ports.items + 1) (length c.ports.items + 1) (requests_in order.what)
          c'.refused.items c.refused.items d'.refused.items d.refused.items
          room (ap (λ (l : List ℕ). length l + 1) ports_are) refused (sym kept) (sym shown) served);
      made = made;
      named = named;
    }

    -- the places of the orders taken are the clerk's
    pub orders_more : (p q r : Pass Order View) (c d e : Clerk J W M G) → ports (view p).taken ≡ c.ports.items → ports (view q).taken ≡ d.ports.items
        → ServesOrders o tells passes p c q d → ServesOrders o tells passes q d r e → ServesOrders o tells passes p c r e
    orders_more p q r c d e old new these those =
        let places : length d.ports.items ≡ length c.ports.items + length (requests these.orders) =
        ap length (sym new ∙ ap ports these.taken ∙ ports-append (view p).taken these.orders ∙ ap (λ (l : List ℕ). l ++ ports these.orders) old)
        ∙ length-append c.ports.items (ports these.orders)
        ∙ ap (λ (n : ℕ). length c.ports.items + n) (length-ports these.orders) in
        record {
          orders = these.orders ++ those.orders;
          taken = those.taken ∙ ap (λ (l : List Order). l ++ those.orders) these.taken ∙ append_assoc (view p).taken these.orders those.orders;
          owned = All-append (λ (o : Order). o.port < (view p).ports) these.orders those.orders these.owned (subst (λ (n : ℕ). All (λ (o : Order). o.port < n) those.orders) these.made those.owned);
          served = subst (λ (l : List Message). ServesOn o tells passes (server_state c) (length c.ports.items + 1) l c.refused.items e.refused.items (server_state e)) (sym (requests-append these.orders those.orders))
              (serves_on_more o tells passes (server_state c) (server_state d) (server_state e) (length c.ports.items + 1) (length d.ports.items + 1) (requests these.orders) (requests those.orders)
              c.refused.items d.refused.items e.refused.items (omega arith) these.served those.served);
          made = those.made ∙ these.made;
          named = those.named ∙ these.named;
        }

    -- all that a run did, which begins with no order taken
    pub finishes : (p q : Pass Order View) (c d : Clerk J W M G) (taken : List Message) (refused : List (ℕ × TakeFault)) (history : List Entry)
        → (view p).taken ≡ [] → ports (view p).taken ≡ c.ports.items → c.refused.items ≡ [] → ServesOrders o tells passes p c q d
        → taken ≡ requests (view q).taken → refused ≡ d.refused.items → history ≡ (server_state d).history → Finishes o tells passes (server_state c) taken refused history
    finishes p q c d taken refused history fresh places blameless run taken_is refused_is history_is =
        let begin : length c.ports.items + 1 ≡ 1 = ap (λ (l : List ℕ). length l + 1) (sym places ∙ ap ports fresh) in
        let orders : taken ≡ requests run.orders = taken_is ∙ ap requests (run.taken ∙ ap (λ (l : List Order). l ++ run.orders) fresh) in
        let faults : refused ≡ run.served.more = refused_is ∙ run.served.added ∙ ap (λ (l : List (ℕ × TakeFault)). l ++ run.served.more) blameless in
        record {
          moments = d.moments;
          gate = d.gate;
          serves = subst (λ (t : ℕ × List Message × List (ℕ × TakeFault) × List Entry). Serves o tells passes (server_state c) t.0 t.1 t.2 (record { history = t.3; moments = d.moments; gate = d.gate }))
              (λ i. (begin i, sym orders i, sym faults i, sym history_is i)) run.served.serves;
        }

    -- and each request taken has a port
    pub owners_of : (p q : Pass Order View) (c d : Clerk J W M G) (count : ℕ) (taken : List Message) (owners : List ℕ) → (view p).taken ≡ [] → count ≡ (view p).ports
        → ServesOrders o tells passes p c q d → taken ≡ requests (view q).taken → owners ≡ ports (view q).taken → HaveOwners count taken owners
    owners_of p q c d count taken owners fresh count_is run taken_is owners_are =
        let all : (view q).taken ≡ run.orders = run.taken ∙ ap (λ (l : List Order). l ++ run.orders) fresh in
        subst (λ (t : ℕ × List Message × List ℕ). HaveOwners t.0 t.1 t.2) (λ i. (sym count_is i, sym (taken_is ∙ ap requests all) i, sym (owners_are ∙ ap ports all) i))
        (have_owners (view p).ports run.orders run.owned)
