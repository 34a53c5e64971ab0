use Rattle.std.proofs.Common.{◌≤◌, length, ap, arith}
use Rattle.tb_published.specs.private.Prefixes.{Prefix}
use Rattle.tb_published.proofs.Shown.{shorter_begins, agree_back}
use Rattle.tb_published.proofs.front.Front.longer.Goals as goal

pub returns-then-self-other-clause-this : goal.returns-then-self-other-clause-this
returns-then-self-other-clause-this c =
    let less : length c.args.self.now.list ≤ length c.args.other.now.list = omega (arith, c.self.invariant.0, c.other.invariant.0, ap (λ (l : Prefix). length l.list) c.self.view_is, ap (λ (l : Prefix). length l.list) c.other.view_is) in
    rw c.again.ensures (shorter_begins c.args.self.now c.args.other.now c.agrees_with.ensures less)

pub returns-else-self-other-clause-that : goal.returns-else-self-other-clause-that
returns-else-self-other-clause-that c =
    let less : length c.args.other.now.list ≤ length c.args.self.now.list = omega (arith, c.self.invariant.0, c.other.invariant.0, ap (λ (l : Prefix). length l.list) c.self.view_is, ap (λ (l : Prefix). length l.list) c.other.view_is) in
    rw c.again-else-self-other.ensures (shorter_begins c.args.other.now c.args.self.now (agree_back c.agrees_with.ensures) less)
