use Rattle.std.proofs.Common.{◌≡◌, [], ◌∷◌, List, All, refl, sym, ap, ◌∙◌, subst, arith}
use Rattle.std.proofs.lemmas.List.Elements.{All-nil, All-cons, All-append}
use Rattle.tb_machine.specs.declared.entries.Entry.{Entry}
use Rattle.tb_published.specs.Openings.{Ends}
use Rattle.tb_published.proofs.publishing.take_seats.Goals as goal

abbrev IsFresh : List Entry → Type 0
IsFresh seen = seen ≡ []

pub loop-init : goal.loop-init
loop-init g c = (
  refl,
  omega (arith, c.in-Ok.ensures.len),
  omega (arith, c.in-Ok.ensures.capacity),
  subst (λ (seats : List (List Entry)). All IsFresh seats) (sym {A = List (List Entry)} c.in-Ok.ensures.items) (All-nil IsFresh),
)

pub loop-preserved : goal.loop-preserved
loop-preserved g c =
    let so_far = c.loop.invariant in
    let fresh : IsFresh c.in-Ok-seat.seat = c.in-Ok-seat.ensures.seat ∙ (ap (λ (e : Ends). e.shown) so_far.0 ∙ c.requires) in (
      c.seat.ensures.same ∙ so_far.0,
      omega (arith, c.push_reserved.ensures.len, so_far.1),
      omega (arith, c.push_reserved.ensures.capacity, so_far.2),
      subst (λ (seats : List (List Entry)). All IsFresh seats) (sym {A = List (List Entry)} c.push_reserved.ensures.items)
          (All-append IsFresh c.loop.seats.items (c.in-Ok-seat.seat ∷ []) so_far.3 (All-cons IsFresh c.in-Ok-seat.seat [] fresh (All-nil IsFresh))),
    )

pub returns : goal.returns
returns g c = record {
  same = c.loop.invariant.0;
  seats = (omega (arith, c.loop.invariant.1, c.loop-test.false, c.loop.auto.counter-end, c.get-count.ensures.value), c.loop.invariant.3);
}
