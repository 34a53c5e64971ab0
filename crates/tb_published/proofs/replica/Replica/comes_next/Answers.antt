use Rattle.std.proofs.Common.{◌≡◌, ◌+◌, length, IsTrue, sym, ◌∙◌, subst, arith, eqb-true}
use Rattle.tb_machine.specs.Histories.{fits, step}
use Rattle.tb_published.specs.private.Prefixes.{Prefix, prefix_state}
use Rattle.tb_published.specs.private.PostedEntries.{PostedEntry}
use Rattle.tb_published.proofs.Lengthened.{comes}
use Rattle.tb_published.proofs.replica.Replica.comes_next.Goals as goal

pub returns-clause-fits : goal.returns-clause-fits
returns-clause-fits g c = λ is.
    let len : length c.posted.inside.front.list ≡ length c.self.inside.front.list + 1 = omega (arith, eqb-true _ _ is, c.if-its-mine.false, c.len-its.ensures.count, c.len-mine.ensures.count) in
    let both = comes c.self.inside.front c.posted.inside.front c.posted.inside.entry (c.posted.invariant.0 ∙ sym c.self.invariant.0) c.len-its.ensures.legal c.agrees_with.ensures c.posted.invariant.1 len in
    subst (λ (l : Prefix). IsTrue (fits (prefix_state l) c.args.posted.now.entry)) c.self.view_is (subst (λ (o : PostedEntry). IsTrue (fits (prefix_state c.self.inside.front) o.entry)) c.posted.view_is both.0)

pub returns-clause-leads : goal.returns-clause-leads
returns-clause-leads g c = λ is.
    let len : length c.posted.inside.front.list ≡ length c.self.inside.front.list + 1 = omega (arith, eqb-true _ _ is, c.if-its-mine.false, c.len-its.ensures.count, c.len-mine.ensures.count) in
    let both = comes c.self.inside.front c.posted.inside.front c.posted.inside.entry (c.posted.invariant.0 ∙ sym c.self.invariant.0) c.len-its.ensures.legal c.agrees_with.ensures c.posted.invariant.1 len in
    subst (λ (l : Prefix). prefix_state c.args.posted.now.front ≡ step (prefix_state l) c.args.posted.now.entry) c.self.view_is (subst (λ (o : PostedEntry). prefix_state o.front ≡ step (prefix_state c.self.inside.front) o.entry) c.posted.view_is both.1)
