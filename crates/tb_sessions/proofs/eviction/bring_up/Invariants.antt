use Rattle.std.proofs.Common.{◌-◌}
use Rattle.std.specs.Map.{values_of}
use Rattle.avl_tree.specs.Map.{entries}
use Rattle.tb_sessions.specs.private.Indexed.{IsIndexed}
use Rattle.tb_sessions.proofs.Rising.{latest, first_commit}
use Rattle.tb_sessions.proofs.eviction.bring_up.Given as goal

abbrev pub invariant-loop-commit : goal.invariant-loop-commit
invariant-loop-commit l = IsIndexed l.clients_max l.rows l.clients

abbrev pub decreases-loop-commit : goal.decreases-loop-commit
decreases-loop-commit l = latest (values_of (entries l.rows)) - first_commit (entries l.clients)
