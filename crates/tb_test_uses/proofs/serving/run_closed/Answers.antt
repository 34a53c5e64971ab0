use Rattle.std.proofs.Common.{◌≡◌, ℕ, ◌<◌, List, ap, subst, ◌∙◌, sym, arith}
use Rattle.tb_records.specs.Messages.{Message}
use Rattle.tb_machine.specs.declared.entries.Entry.{Entry}
use Rattle.tb_service.specs.Places.{places_from, HaveOwners}
use Rattle.tb_service.specs.Finished.{Finish, IsOffered}
use Rattle.tb_service.specs.OfferedLaws.{GrowsByOffers}
use Rattle.tb_test_uses.proofs.serving.run_closed.Goals as goal

pub returns-in-Ok : goal.returns-in-Ok
returns-in-Ok g c =
    let left = c.run-finished.result in
    let sent : List Message = c.args.closed.offered in
    let have : HaveOwners 1 left.taken left.owners = subst (λ (n : ℕ). HaveOwners n left.taken left.owners) c.requires.alone c.run-finished.ensures.ports in
    let claims : (p : ℕ) → p < 1 → IsOffered sent left.taken (places_from p 1 left.owners) left.ended =
    λ p lt. let first : 0 ≡ p = omega arith in
    subst (λ (t : List ℕ). IsOffered sent left.taken t left.ended)
    (c.in-Ok.ensures.places ∙ ap (λ (n : ℕ). places_from n 1 left.owners) (c.requires.own.1 ∙ first)) c.in-Ok.ensures.offered in
    let grown = c.none_invented.ensures c.args.server.state left.taken left.owners left.refused left.publisher.history 1 (λ p. sent) left.ended
    c.run-finished.ensures.served have claims in
    let same : left.publisher.history ≡ c.offered_by.new.self.publisher.history = ap (λ (f : Finish). f.publisher.history) (sym c.offered_by.ensures.same) in
    subst (λ (h : List Entry). GrowsByOffers 1 (λ p. sent) c.args.server.state.history h) same grown
