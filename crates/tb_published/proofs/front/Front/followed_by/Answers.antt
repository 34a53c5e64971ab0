use Rattle.std.proofs.Common.{◌≡◌, ◌+◌, ◌++◌, ◌∷◌, [], length, sym, ◌∙◌, ap, subst, IsTrue}
use Rattle.logbook.specs.Pages.{step}
use Rattle.tb_machine.specs.Histories.{fits}
use Rattle.tb_published.specs.private.Prefixes.{Prefix, prefix_state}
use Rattle.tb_published.proofs.Adding.{adds_moves, added, front_on}
use Rattle.tb_published.proofs.front.Front.followed_by.Goals as goal

pub compare_exchange-found-requires : goal.compare_exchange-found-requires
compare_exchange-found-requires c =
    let h = c.requires.counted in
    let seen = c.again-seen.ensures in
    let pen = c.no_pen-pen.ensures in
    let offer = c.plain-offer.ensures in
    let book : c.again-seen.result.book ≡ c.args.head.now.book = ap (λ s. s.book) seen ∙ (ap (λ (l : Prefix). l.opening.book) c.self.view_is ∙ sym (ap (λ w. w.book) h)) in
    let count : length c.again-seen.result.log ≡ c.self.inside.count = ap (λ s. length s.log) seen ∙ sym c.self.invariant.0 in (
      ap (λ w. w.tracked) h,
      book,
      pen.0 ∙ book,
      offer.0,
      rw (ap (λ w. w.key) h, pen.1, offer.1, offer.3) (adds_moves c.again-seen.result.log c.args.entry.now c.self.inside.count count),
    )

pub invariant_of-result : goal.invariant_of-result
invariant_of-result c =
    let next = subst (λ (l : Prefix). IsTrue (fits (prefix_state l) c.args.entry.now)) (sym c.self.view_is) c.requires.next in
    let grown : c.compare_exchange-found.new.seen.log ≡ c.self.inside.seen.log ++ c.args.entry.now ∷ [] =
    added (step c.args.head.now.key c.self.inside.count (c.self.inside.count + 1) c.plain-offer.result.ask)
    (c.again-seen.result.log, (c.no_pen-pen.result.nib, c.plain-offer.result.state)) c.compare_exchange-found.result
    (c.compare_exchange-found.new.seen.log, (c.compare_exchange-found.new.pen.nib, c.compare_exchange-found.new.offer.state))
    c.if-found-count.false c.compare_exchange-found.ensures.7
    ∙ (ap (λ s. s.log ++ c.plain-offer.result.ask ∷ []) c.again-seen.ensures ∙ ap (λ e. c.self.inside.seen.log ++ e ∷ []) c.plain-offer.ensures.1) in
    front_on c.self.inside.profile c.self.inside.clients_max c.self.inside.count c.self.inside.seen.log _ c.args.entry.now c.self.invariant next grown
