use Rattle.std.proofs.Common.{List, ℕ, Some, refl, sym, ap, ◌∙◌, arith}
use Rattle.tb_embed.proofs.showing.show.Goals as goal

pub returns : goal.returns
returns c = (refl, omega (arith, c.write.ensures.same_length, c.if-room-lt128.false), c.in-Some.is ∙ ap (λ (l : List ℕ). Some l) (sym c.write.ensures.written))
