use Rattle.std.proofs.Common.{ap, sym, subst, ◌∙◌}
use Rattle.crossbeam_channel.specs.Claims.{view}
use Rattle.tb_service.specs.declared.rule.View.{View}
use Rattle.tb_service.specs.Ports.{Offers}
use Rattle.tb_service.specs.Places.{places_from}
use Rattle.tb_service.specs.Finished.{Finish, IsOffered}
use Rattle.tb_service.proofs.Steps.{merges, learns}
use Rattle.tb_service.proofs.OwnPlaces.{accounted}
use Rattle.tb_service.proofs.finished.Finished.offered_by.Goals as goal

pub absorb-requires-clause-rule : goal.absorb-requires-clause-rule
absorb-requires-clause-rule g c =
    let mine = c.self.inside in
    let other = c.into_pass.result in
    merges mine.pass.id (view mine.pass) other.id (view other) c.self.invariant.1.serves c.into_pass.ensures.offers

pub learn_as-requires-clause-rule : goal.learn_as-requires-clause-rule
learn_as-requires-clause-rule g c =
    let now = c.absorb.ensures.rule in
    learns c.absorb.new.pass.id (view c.absorb.new.pass) (ap (λ (v : View). v.serves) now ∙ c.self.invariant.1.serves) (ap (λ (v : View). v.knows) now)

pub returns-clause-offered : goal.returns-clause-offered
returns-clause-offered g c =
    let mine = c.self.inside in
    let other = c.into_pass.result in
    let served = c.self.invariant.1 in
    let learnt = c.learn_as.ensures.rule in
    let same = c.into_pass.ensures.same in
    let places = c.in-Ok.places.items in
    subst (λ (t : Offers × Finish). IsOffered t.0.offered t.1.taken places t.1.ended) (λ i. (same i, c.self.view_is i))
    (accounted (view mine.pass) (view other) (view c.absorb.new.pass) learnt.0 c.number.result places mine.ended
    c.absorb.ensures.rule learnt.1 (c.number.ensures ∙ ap (λ (port : Offers). port.number) (sym same))
    (c.in-Ok.ensures ∙ ap (places_from c.number.result 1) (c.deref.ensures.value ∙ sym served.placed)) served.over)
