use Rattle.std.proofs.Common.{inl, inr, ⊎_elim, sym, ap, subst, List}
use mathlib.Core.List.{IsPrefix}
use Rattle.tb_machine.specs.declared.entries.Entry.{Entry}
use Rattle.tb_published.specs.private.Prefixes.{Prefix}
use Rattle.tb_published.proofs.Prefixes.{prefix_either}
use Rattle.tb_published.proofs.front.Front.agrees_with.Goals as goal

pub returns : goal.returns
returns c =
    let both = c.learn.new.self.log in
    let mine : IsPrefix c.args.self.now.list both = subst (λ (l : Prefix). IsPrefix l.list both) c.self.view_is (subst (λ (l : List Entry). IsPrefix l both) (ap (λ s. s.log) c.again-both.ensures) c.learn.ensures.2) in
    let its : IsPrefix c.args.other.now.list both = subst (λ (l : Prefix). IsPrefix l.list both) c.other.view_is c.learn.ensures.3 in
    ⊎_elim (λ p. inl (sym c.requires, p)) (λ p. inr (c.requires, p)) (prefix_either c.args.self.now.list c.args.other.now.list both mine its)
