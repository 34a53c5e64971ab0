use Rattle.std.proofs.Common.{◌++◌, ◌∷◌, [], subst, sym, ap, ◌∙◌}
use mathlib.Core.List.{IsPrefix}
use Rattle.tb_machine.specs.declared.entries.Entry.{Entry}
use Rattle.tb_published.specs.Openings.{Opening, LegalIn}
use Rattle.tb_published.specs.private.Prefixes.{Prefix, with_entry}
use Rattle.tb_published.proofs.Prefixes.{next_by}
use Rattle.tb_published.proofs.Lengthened.{legal_prefix, next_fits}
use Rattle.tb_published.proofs.offering.next_posted.Goals as goal
use Rattle.std.proofs.Common.{refl, length}

pub add-requires-clause-next : goal.add-requires-clause-next
add-requires-clause-next g c =
    let l : Prefix = c.args.offered.now in
    let next : IsPrefix (l.list ++ c.in_ok-entry.entry.now ∷ []) c.args.history.now =
    next_by l.list c.args.history.now c.in_ok-entry.entry.now c.len-count.result c.requires.begins (c.len-count.ensures.count ∙ ap (λ (m : Prefix). length m.list) c.front.ensures) c.in_ok-entry.ensures.lookup.3.0 c.in_ok-entry.ensures.lookup.1 in
    let legal = legal_prefix g.J.Naming.opening (l.list ++ c.in_ok-entry.entry.now ∷ []) c.args.history.now next c.requires.legal in
    rw c.in-Ok.ensures (next_fits l.opening l.list (l.list ++ c.in_ok-entry.entry.now ∷ []) c.in_ok-entry.entry.now refl
    (subst (λ (o : Opening). LegalIn o (l.list ++ c.in_ok-entry.entry.now ∷ [])) (sym c.requires.named) legal))

pub returns : goal.returns
returns g c =
    let l : Prefix = c.args.offered.now in
    let next : IsPrefix (l.list ++ c.in_ok-entry.entry.now ∷ []) c.args.history.now =
    next_by l.list c.args.history.now c.in_ok-entry.entry.now c.len-count.result c.requires.begins (c.len-count.ensures.count ∙ ap (λ (m : Prefix). length m.list) c.front.ensures) c.in_ok-entry.ensures.lookup.3.0 c.in_ok-entry.ensures.lookup.1 in (
      c.new.ensures.1 ∙ (c.again.ensures ∙ c.front-2.ensures),
      c.if-not-add.ensures ∙ ap (λ (e : Entry). with_entry l e) (sym c.new.ensures.0),
      subst (λ (m : Prefix). IsPrefix m.list c.args.history.now) (sym c.if-not-add.ensures) (subst (λ (e : Entry). IsPrefix (l.list ++ e ∷ []) c.args.history.now) (sym c.in-Ok.ensures) next),
    )
