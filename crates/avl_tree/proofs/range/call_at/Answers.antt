use Rattle.std.proofs.Common.{refl}
use Rattle.avl_tree.proofs.range.call_at.Goals as goal

pub returns-clause-called : goal.returns-clause-called
returns-clause-called g c = record { key = _; value = _; shows = (refl, refl); called = c.f.ensures }
