use Rattle.std.proofs.Common.{◌≡◌, length}
use Rattle.tb_file_journal.specs.Creating.{is_torn_from}
use Rattle.tb_file_journal.proofs.opening.is_torn_from.Given as goal

abbrev pub invariant-loop-rest : goal.invariant-loop-rest
invariant-loop-rest l = is_torn_from l.rest l.owns ≡ is_torn_from l.bytes l.first

abbrev pub decreases-loop-rest : goal.decreases-loop-rest
decreases-loop-rest l = length l.rest
