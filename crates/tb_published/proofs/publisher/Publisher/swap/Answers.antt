use Rattle.std.proofs.Common.{subst}
use mathlib.Core.List.{IsPrefix}
use Rattle.std.specs.Option.{option_to_list}
use Rattle.tb_published.specs.Openings.{Ends}
use Rattle.tb_published.proofs.Tied.{follows_split, tied_swap}
use Rattle.tb_published.proofs.publisher.Publisher.swap.Goals as goal

pub swap-requires : goal.swap-requires
swap-requires g c = let copies = c.self.inside.copies in (follows_split copies.shown copies.posted (option_to_list c.self.inside.waiting) c.self.invariant.follows).0

pub invariant_of-self : goal.invariant_of-self
invariant_of-self g c = (tied_swap c.swap.result c.self.inside.offered c.self.inside.copies c.self.inside.waiting c.swap.new.self c.self.invariant c.swap.ensures).0

pub returns-clause-shown : goal.returns-clause-shown
returns-clause-shown g c =
    subst (λ (e : Ends). IsPrefix e.shown c.swap.new.self.shown.list) c.self.view_is
    (tied_swap c.swap.result c.self.inside.offered c.self.inside.copies c.self.inside.waiting c.swap.new.self c.self.invariant c.swap.ensures).1
