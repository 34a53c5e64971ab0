use Rattle.tb_file_journal.proofs.Growths.{leads_later}
use Rattle.tb_file_journal.proofs.Finding.{grown_by, hops_sized}
use Rattle.tb_file_journal.proofs.snapshots.hop_sized.Goals as goal

pub returns-in-Ok-clause-leads : goal.returns-in-Ok-clause-leads
returns-in-Ok-clause-leads g c bytes is leads =
    let first = c.in_ok-len.ensures.bytes bytes is in
    hops_sized (g.G.Growing.grows c.len.new.self) (g.G.Growing.grows c.hop_from.new.file) bytes c.args.at c.in_ok-len.len c.in-Ok.hop leads first
    (c.in-Ok.ensures.leads first.later first.now (leads_later c.args.at bytes first.later leads first.after))

pub returns-in-Ok-clause-same : goal.returns-in-Ok-clause-same
returns-in-Ok-clause-same g c bytes is = let first = c.in_ok-len.ensures.bytes bytes is in grown_by first (c.in-Ok.ensures.same first.later first.now) tt

pub returns-in-Err-clause-same : goal.returns-in-Err-clause-same
returns-in-Err-clause-same g c bytes is = let first = c.in_ok-len.ensures.bytes bytes is in grown_by first (c.in-Err.ensures.same first.later first.now) tt
