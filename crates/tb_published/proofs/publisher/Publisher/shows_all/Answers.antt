use Rattle.std.proofs.Common.{◌≡◌, ◌≢◌, ℕ, ◌<◌, eqb, false, length, ap, ◌∙◌, subst, arith, eqb-true, eq-eqb}
use Rattle.tb_published.specs.private.Prefixes.{Prefix}
use Rattle.tb_published.specs.Openings.{Ends}
use Rattle.tb_published.proofs.Prefixes.{prefix_whole, prefix_length}
use Rattle.tb_published.proofs.Tied.{shown_front}
use Rattle.tb_published.proofs.publisher.Publisher.shows_all.Goals as goal

apart : {a b : ℕ} → eqb a b ≡ false → a ≢ b
apart {a} {b} e same = let equal = eq-eqb a b same in cc

pub returns-clause-all : goal.returns-clause-all
returns-clause-all g c = λ is.
    let pre = shown_front c.self.invariant in
    let count = c.len.ensures.count ∙ ap (λ (l : Prefix). length l.list) (c.front.ensures.front ∙ c.shown.ensures) in
    subst (λ (e : Ends). e.shown ≡ e.history) c.self.view_is
    (prefix_whole c.self.inside.copies.shown.list c.self.inside.history.items pre (omega (arith, eqb-true _ _ is, count, c.len-2.ensures)))

pub returns-clause-less : goal.returns-clause-less
returns-clause-less g c = λ is.
    let pre = shown_front c.self.invariant in
    let count = c.len.ensures.count ∙ ap (λ (l : Prefix). length l.list) (c.front.ensures.front ∙ c.shown.ensures) in
    let most = prefix_length c.self.inside.copies.shown.list c.self.inside.history.items pre in
    subst (λ (e : Ends). length e.shown < length e.history) c.self.view_is
    (omega (arith, apart is, count, c.len-2.ensures, most))
