use Rattle.std.proofs.Common.{length}
use Rattle.tb_file_journal.proofs.Following.{IsFollowed}
use Rattle.tb_file_journal.proofs.hops.follow.Given as goal

abbrev pub invariant-loop-next : goal.invariant-loop-next
invariant-loop-next l = IsFollowed l.fn.at l.fn.len l.fn.piece l.end l.rest

abbrev pub decreases-loop-next : goal.decreases-loop-next
decreases-loop-next l = length l.rest
