use Rattle.std.proofs.Common.{refl}
use Rattle.avl_tree.proofs.updates.update_value.Goals as goal

pub returns-clause-called : goal.returns-clause-called
returns-clause-called g c = record { shown = _; shows = refl; left = _; called = c.f.ensures; leaves = refl }
