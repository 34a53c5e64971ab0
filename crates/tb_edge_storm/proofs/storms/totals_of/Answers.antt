use Rattle.std.proofs.Common.{rules}
use Rattle.tb_edge_storm.proofs.SeatAnswers.{totaled}
use Rattle.tb_edge_storm.proofs.storms.totals_of.Goals as goal

-- what was found is what is found after the whole history
pub returns-clause-totals : goal.returns-clause-totals
returns-clause-totals g c =
    totaled _ _ _ _ _ _ _ c.in_ok-seen.ensures.found.0 c.in_ok-credited.ensures.begins (search rules) (search rules) (search rules) (search rules)
    c.in_ok-credited.ensures.found
