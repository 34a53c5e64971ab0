-- Each step of ports and server keeps the rule of the queue.
use Rattle.std.proofs.Common.{◌≡◌, ◌≢◌, ℕ, zero, suc, ◌+◌, ◌<◌, ◌≤◌, Bool, true, false, true≢false, ◌==◌, ◌⊎◌, inl, inr, List, [], ◌∷◌, ◌++◌, length, if◌then◌else◌, refl, sym, ap, ◌∙◌, subst, ⊎_elim, append_assoc, eq-eqb, ne_eqb, lt_of_not-le, arith}
use Rattle.std.proofs.Math.ListN.{set}
use mathlib.Core.Logic.{dite}
use mathlib.Core.Option.{some, some-injective, some-ne-none}
use native.Mathlib.Decide.{ℕ_discrete}
use lib.ListN.{get_elem?}
use Rattle.crossbeam_channel.specs.Fifo.{Pushes, Pops, Forks, Merges, Learns}
use Rattle.atomic_table.proofs.Lists.{at_set}
use Rattle.tb_records.specs.Messages.{Message}
use Rattle.tb_service.specs.declared.orders.Order.{Order}
use Rattle.tb_service.specs.declared.rule.View.{View}
use Rattle.tb_service.specs.Sent.{requests_in, requests_of, is_port_closed, has_none_of, ends_at_close}
use Rattle.tb_service.specs.private.Rule.{spent, port_view, server_view, server_with, sent, taken_in, IsPort, IsServer, FitsOrders, Queued, TalliesOrders}
use Rattle.tb_service.proofs.SentOrders.{requests_of-append, requests_of-none, is_port_closed-none, requests_of-own, requests_of-other, is_port_closed-own, is_port_closed-other, has_none_of-other, ends_at_close-own, ends_at_close-other, nothing_behind, has_none_here}

-- a fact of every view, after one is set or one is added

abbrev All : (ℕ → View → Type 0) → List View → Type 0
All F views = (pass : ℕ) (v : View) → get_elem? views pass ≡ some v → F pass v

all_set : (F : ℕ → View → Type 0) (views : List View) (pass : ℕ) (w : View) → F pass w → ((j : ℕ) (u : View) → j ≢ pass → get_elem? views j ≡ some u → F j u) → All F (set views pass w)
all_set F views pass w mine others j u e = ⊎_elim (λ (x : (j ≡ pass) × (w ≡ u)). subst (λ (y : ℕ × View). F y.0 y.1) (λ i. (sym x.0 i, x.1 i)) mine)
    (λ (x : (j ≢ pass) × (get_elem? views j ≡ some u)). others j u x.0 x.1) (at_set views pass j w u e)

at_end : (l : List View) (a b : View) (j : ℕ) → get_elem? (l ++ a ∷ []) j ≡ some b → (get_elem? l j ≡ some b) ⊎ ((j ≡ length l) × (a ≡ b))
at_end [] a b zero e = inr (refl, some-injective a b e)
at_end [] a b (suc j) e = absurd (some-ne-none b (sym e))
at_end (x ∷ xs) a b zero e = inl e
at_end (x ∷ xs) a b (suc j) e = ⊎_elim inl (λ t. inr (ap suc t.0, t.1)) (at_end xs a b j e)

all_snoc : (F : ℕ → View → Type 0) (views : List View) (w : View) → All F views → F (length views) w → All F (views ++ w ∷ [])
all_snoc F views w all last j u e = ⊎_elim (all j u) (λ (x : (j ≡ length views) × (w ≡ u)). subst (λ (y : ℕ × View). F y.0 y.1) (λ i. (sym x.0 i, x.1 i)) last) (at_end views w u j e)

-- the pass of one that isn't there

no_port : (sent_orders : List Order) (ports : ℕ) (seat : ℕ → ℕ) (pass : ℕ) (v : View) → v.offers ≡ false → v.offers ≡ true → IsPort sent_orders ports seat pass v
no_port sent_orders ports seat pass v is says = absurd (true≢false (sym says ∙ is))

no_server : (sent_orders taken : List Order) (ports : ℕ) (seat : ℕ → ℕ) (reader pass : ℕ) (v : View) → v.serves ≡ false → v.serves ≡ true → IsServer sent_orders taken ports seat reader pass v
no_server sent_orders taken ports seat reader pass v is says = absurd (true≢false (sym says ∙ is))

-- the first pass is the server's
pub begins : Queued [] (server_view 0 [] ∷ [])
begins = record {
  taken = [];
  ports = 0;
  reader = 0;
  seat = λ p. 0;
  unmade = λ p _. refl;
  ended = λ p. refl;
  fits = λ pass v e.
      let first : View = server_view 0 [] in
      all_snoc (λ j u. FitsOrders [] [] 0 (λ p. 0) 0 j u) [] first (λ j u n. absurd (some-ne-none u (sym n)))
      (no_port [] 0 (λ p. 0) 0 first refl, λ _. record { mine = refl; takes = refl; makes = refl; apart = refl; knows = λ k. absurd (true≢false (sym k)) })
      pass v e;
}

-- the port of an order that was sent was made
made_below : (a : List Order) (o : Order) (b : List Order) (ports n : ℕ) → ports ≡ n → ((p : ℕ) → ports ≤ p → has_none_of p (a ++ o ∷ b) ≡ true) → o.port < n
made_below a o b ports n is unmade =
    let below : o.port < ports = lt_of_not-le (λ le. has_none_here a o b (unmade o.port le)) in
    omega arith

-- the server takes the front
pub takes : (pass : ℕ) (v : View) → v.serves ≡ true → Pops Queued pass v (λ o w. (w ≡ server_with v v.ports (v.taken ++ o ∷ [])) × (o.port < v.ports))
takes pass v serves o items views h at =
    let w : View = server_with v v.ports (v.taken ++ o ∷ []) in
    let mine = (h.fits pass v at).1 serves in
    let sent_orders : List Order = h.taken ++ o ∷ items in
    let taken : List Order = h.taken ++ o ∷ [] in
    let same : sent_orders ≡ taken ++ items = sym (append_assoc h.taken (o ∷ []) items) in
    let fits : All (FitsOrders sent_orders taken h.ports h.seat h.reader) (set views pass w) =
    all_set (FitsOrders sent_orders taken h.ports h.seat h.reader) views pass w (
      no_port sent_orders h.ports h.seat pass w mine.apart,
      λ _. record {
        mine = mine.mine;
        takes = ap (λ l. l ++ o ∷ []) mine.takes;
        makes = mine.makes;
        apart = mine.apart;
        knows = λ k. let known = mine.knows k in record { seated = known.seated; made = known.made; offers = known.offers };
      },
    )
    (λ j u other e. ((h.fits j u e).0, λ s. absurd (other (((h.fits j u e).1 s).mine ∙ sym mine.mine)))) in (
      w,
      record {
        taken = taken;
        ports = h.ports;
        reader = h.reader;
        seat = h.seat;
        unmade = λ p le. ap (has_none_of p) (sym same) ∙ h.unmade p le;
        ended = λ p. ap (ends_at_close p) (sym same) ∙ h.ended p;
        fits = subst (λ (l : List Order). All (FitsOrders l taken h.ports h.seat h.reader) (set views pass w)) same fits;
      },
      (refl, made_below h.taken o items h.ports v.ports (sym mine.makes) h.unmade),
    )

-- a number is given another pass

moved : (ℕ → ℕ) → ℕ → ℕ → ℕ → ℕ
moved seat q n p = if p == q then n else seat p

moved_here : (seat : ℕ → ℕ) (q n p : ℕ) → p ≡ q → moved seat q n p ≡ n
unfolding moved
moved_here seat q n p is = ap (λ (b : Bool). if b then n else seat p) (eq-eqb p q is)

moved_else : (seat : ℕ → ℕ) (q n p : ℕ) → p ≢ q → moved seat q n p ≡ seat p
unfolding moved
moved_else seat q n p other = ap (λ (b : Bool). if b then n else seat p) (ne_eqb p q other)

-- the server makes a port
pub opens : (pass : ℕ) (v : View) → v.serves ≡ true → Forks Queued pass v (server_with v (v.ports + 1) v.taken) (port_view v.ports [] false)
opens pass v serves items views h at =
    let left : View = server_with v (v.ports + 1) v.taken in
    let right : View = port_view v.ports [] false in
    let mine = (h.fits pass v at).1 serves in
    let sent_orders : List Order = h.taken ++ items in
    let set_views : List View = set views pass left in
    let n : ℕ = length set_views in
    let seat : ℕ → ℕ = moved h.seat v.ports n in
    let none : has_none_of v.ports sent_orders ≡ true = h.unmade v.ports (omega arith) in
    let fits : All (FitsOrders sent_orders h.taken (h.ports + 1) seat h.reader) set_views =
    all_set (FitsOrders sent_orders h.taken (h.ports + 1) seat h.reader) views pass left (
      no_port sent_orders (h.ports + 1) seat pass left mine.apart,
      λ _. record {
        mine = mine.mine;
        takes = mine.takes;
        makes = ap (λ (k : ℕ). k + 1) mine.makes;
        apart = mine.apart;
        knows = λ k. let known = mine.knows k in record {
          seated = moved_else h.seat v.ports n v.known_port (λ e. let b = known.made in let m = mine.makes in absurd (omega arith)) ∙ known.seated;
          made = (let b = known.made in omega arith);
          offers = known.offers;
        };
      },
    )
    (λ j u other e. (
      (λ offers. let its = (h.fits j u e).0 offers in record {
        seated = moved_else h.seat v.ports n u.port (λ e. let b = its.made in let m = mine.makes in absurd (omega arith)) ∙ its.seated;
        made = (let b = its.made in omega arith);
        offers = its.offers;
        ends = its.ends;
      }),
      λ s. absurd (other (((h.fits j u e).1 s).mine ∙ sym mine.mine)),
    )) in
    record {
      taken = h.taken;
      ports = h.ports + 1;
      reader = h.reader;
      seat = seat;
      unmade = λ p le. h.unmade p (omega arith);
      ended = h.ended;
      fits = all_snoc (FitsOrders sent_orders h.taken (h.ports + 1) seat h.reader) set_views right fits (
        (λ _. record {
          seated = moved_here h.seat v.ports n v.ports refl;
          made = (let m = mine.makes in omega arith);
          offers = requests_of-none v.ports sent_orders none;
          ends = is_port_closed-none v.ports sent_orders none;
        }),
        no_server sent_orders h.taken (h.ports + 1) seat h.reader n right refl,
      );
    }

-- a port sends
pub sends : (n pass : ℕ) (v : View) (o : Order) → v.offers ≡ true → o.port ≡ v.port → v.closed ≡ false → Pushes Queued n pass v o (λ w. w ≡ sent v o)
sends n pass v o offers own fresh items views room h at =
    let w : View = sent v o in
    let mine = (h.fits pass v at).0 offers in
    let sent_orders : List Order = h.taken ++ items in
    let longer : List Order = sent_orders ++ o ∷ [] in
    let same : longer ≡ h.taken ++ (items ++ o ∷ []) = append_assoc h.taken items (o ∷ []) in
    let before : is_port_closed v.port sent_orders ≡ false = mine.ends ∙ fresh in
    let apart : (j : ℕ) (u : View) → j ≢ pass → IsPort sent_orders h.ports h.seat j u → o.port ≢ u.port =
    λ j u other its e. other (sym its.seated ∙ ap h.seat (sym e ∙ own) ∙ mine.seated) in
    let fits : All (FitsOrders longer h.taken h.ports h.seat h.reader) (set views pass w) =
    all_set (FitsOrders longer h.taken h.ports h.seat h.reader) views pass w (
      (λ _. record {
        seated = mine.seated;
        made = mine.made;
        offers = requests_of-own sent_orders o v.port own ∙ ap (λ (l : List Message). l ++ requests_in o.what) mine.offers;
        ends = is_port_closed-own sent_orders o v.port own before;
      }),
      λ s. absurd (true≢false (sym offers ∙ ((h.fits pass v at).1 s).apart)),
    )
    (λ j u other e. (
      (λ says. let its = (h.fits j u e).0 says in record {
        seated = its.seated;
        made = its.made;
        offers = requests_of-other sent_orders o u.port (apart j u other its) ∙ its.offers;
        ends = is_port_closed-other sent_orders o u.port (apart j u other its) ∙ its.ends;
      }),
      λ s. let its = (h.fits j u e).1 s in record {
        mine = its.mine;
        takes = its.takes;
        makes = its.makes;
        apart = its.apart;
        knows = λ k. let known = its.knows k in record {
          seated = known.seated;
          made = known.made;
          offers = requests_of-other sent_orders o u.known_port (λ e. other (its.mine ∙ sym known.seated ∙ ap h.seat (sym e ∙ own) ∙ mine.seated)) ∙ known.offers;
        };
      },
    )) in (
      w,
      record {
        taken = h.taken;
        ports = h.ports;
        reader = h.reader;
        seat = h.seat;
        unmade = λ p le. ap (has_none_of p) (sym same) ∙ has_none_of-other sent_orders o p (λ e. let b = mine.made in absurd (omega arith)) (h.unmade p le);
        ended = λ p. ap (ends_at_close p) (sym same)
            ∙ dite (ℕ_discrete o.port p)
            (λ e. ends_at_close-own p sent_orders o (ap (λ (k : ℕ). is_port_closed k sent_orders) (sym e ∙ own) ∙ before) (h.ended p))
            (λ other. ends_at_close-other p sent_orders o other (h.ended p));
        fits = subst (λ (l : List Order). All (FitsOrders l h.taken h.ports h.seat h.reader) (set views pass w)) same fits;
      },
      refl,
    )

-- the server takes a port's pass in
pub merges : (pass : ℕ) (v : View) (other : ℕ) (u : View) → v.serves ≡ true → u.offers ≡ true → Merges Queued pass v other u (taken_in v u) spent
merges pass v other u serves offers items views h at two at' =
    let both : View = taken_in v u in
    let mine = (h.fits pass v at).1 serves in
    let sent_orders : List Order = h.taken ++ items in
    let set_views : List View = set views pass both in
    let was : get_elem? views other ≡ some u = ⊎_elim (λ x. absurd (two x.0)) (λ x. x.1) (at_set views pass other both u at') in
    let theirs = (h.fits other u was).0 offers in
    let seat : ℕ → ℕ = moved h.seat u.port h.reader in
    let Now : ℕ → View → Type 0 = λ j y. j ≢ other → FitsOrders sent_orders h.taken h.ports seat h.reader j y in
    let now : All Now set_views = all_set Now views pass both
    (λ _. (
      no_port sent_orders h.ports seat pass both mine.apart,
      λ _. record {
        mine = mine.mine;
        takes = mine.takes;
        makes = mine.makes;
        apart = mine.apart;
        knows = λ _. record { seated = moved_here h.seat u.port h.reader u.port refl; made = theirs.made; offers = theirs.offers };
      },
    ))
    (λ j y not_pass e not_other. (
      (λ says. let its = (h.fits j y e).0 says in record {
        seated = moved_else h.seat u.port h.reader y.port (λ e. not_other (sym its.seated ∙ ap h.seat e ∙ theirs.seated)) ∙ its.seated;
        made = its.made;
        offers = its.offers;
        ends = its.ends;
      }),
      λ s. absurd (not_pass (((h.fits j y e).1 s).mine ∙ sym mine.mine)),
    )) in
    record {
      taken = h.taken;
      ports = h.ports;
      reader = h.reader;
      seat = seat;
      unmade = h.unmade;
      ended = h.ended;
      fits = all_set (FitsOrders sent_orders h.taken h.ports seat h.reader) set_views other spent
          (no_port sent_orders h.ports seat other spent refl, no_server sent_orders h.taken h.ports seat h.reader other spent refl)
          (λ j y apart e. now j y e apart);
    }

-- the server learns of the port that it took in last
pub learns : (pass : ℕ) (v : View) → v.serves ≡ true → v.knows ≡ true → Learns Queued pass v (TalliesOrders v)
learns pass v serves knows items views h at =
    let mine = (h.fits pass v at).1 serves in
    let known = mine.knows knows in
    let p : ℕ = v.known_port in
    record {
      whole = ap (λ (t : List Order). requests_of p t ++ requests_of p items) mine.takes ∙ sym (requests_of-append p h.taken items) ∙ known.offers;
      made = (let b = known.made in let m = mine.makes in omega arith);
      ended = λ closed. nothing_behind p h.taken items (ap (is_port_closed p) (sym mine.takes) ∙ closed) (h.ended p);
    }

-- a step that nothing is to be learnt from
pub silent : (pass : ℕ) (v : View) → Learns Queued pass v (λ items. Unit {0})
silent pass v items views h at = tt
