use Rattle.std.proofs.Common.{◌≤◌, length, arith}
use Rattle.tb_file_journal.proofs.Finding.{hops_on, grown_by}
use Rattle.tb_file_journal.proofs.snapshots.hop_from.Goals as goal

pub returns-in_err-len-clause-same : goal.returns-in_err-len-clause-same
returns-in_err-len-clause-same g c bytes is = let first = c.in_ok-count.ensures.bytes bytes is in grown_by first (c.len.ensures.bytes first.later first.now) tt

pub returns-clause-same : goal.returns-clause-same
returns-clause-same g c bytes is = let first = c.in_ok-count.ensures.bytes bytes is in grown_by first (c.len.ensures.bytes first.later first.now) tt

pub returns-clause-leads : goal.returns-clause-leads
returns-clause-leads g c bytes is leads =
    let first = c.in_ok-count.ensures.bytes bytes is in
    let some : 11 ≤ length c.read_at.new.into = omega (arith, c.requires.some, c.read_at.auto.into) in
    hops_on (g.G.Growing.grows c.read_at.new.self) (g.G.Growing.grows c.len.new.self) bytes c.args.at c.in_ok-count.count c.in_ok-len.len c.read_at.new.into c.follow.result some leads
    first (c.in_ok-len.ensures.bytes first.later first.now) c.follow.ensures.leads
