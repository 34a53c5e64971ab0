use Rattle.std.proofs.Common.{◌≤◌, length, arith}
use Rattle.tb_file_journal.proofs.Showing.{reads_ahead}
use Rattle.tb_file_journal.proofs.Finding.{grown_by, grown_as, tells_end}
use Rattle.tb_file_journal.proofs.snapshots.still_closed.Goals as goal

pub returns-in_err-count-clause-same : goal.returns-in_err-count-clause-same
returns-in_err-count-clause-same g c bytes is = let first = c.in_ok-len.ensures.bytes bytes is in grown_by first (c.read_at.ensures.bytes first.later first.now) tt

pub returns-then-len-end-clause-same : goal.returns-then-len-end-clause-same
returns-then-len-end-clause-same g c bytes is = let first = c.in_ok-len.ensures.bytes bytes is in grown_by first (c.read_at.ensures.bytes first.later first.now) tt

pub returns-clause-same : goal.returns-clause-same
returns-clause-same g c bytes is = let first = c.in_ok-len.ensures.bytes bytes is in grown_by first (c.read_at.ensures.bytes first.later first.now) tt

pub returns-clause-tells : goal.returns-clause-tells
returns-clause-tells g c bytes is =
    let first = c.in_ok-len.ensures.bytes bytes is in
    let second = c.in_ok-count.ensures.bytes first.later first.now in
    let some : 11 ≤ length c.read_at.new.into = omega (arith, c.requires, c.read_at.auto.into) in
    tells_end (g.G.Growing.grows c.len.new.self) (g.G.Growing.grows c.read_at.new.self) c.args.end c.in_ok-len.len bytes c.is_end.result first
    (grown_as second (c.is_end.ensures c.args.end second.later (reads_ahead c.in_ok-count.count c.args.end second.later c.read_at.new.into some second.has)))
