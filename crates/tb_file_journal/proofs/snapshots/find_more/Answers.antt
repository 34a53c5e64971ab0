use Rattle.tb_file_journal.proofs.Finding.{grown_by, more_still, more_leads, all_more}
use Rattle.tb_file_journal.proofs.snapshots.find_more.Goals as goal

pub returns-in-Ok-default-true-clause-found : goal.returns-in-Ok-default-true-clause-found
returns-in-Ok-default-true-clause-found g c len bytes shown met is since shows =
    more_still c.args.end len bytes met shown since shows (g.G.Growing.grows c.still_closed.new.file) c.in-Ok-default-true.len c.in-Ok-default-true.field-0-1 c.in-Ok-default-true.field-0-1-test
    (c.in-Ok-default-true.ensures.tells bytes is)

pub returns-in-Ok-default-false-clause-found : goal.returns-in-Ok-default-false-clause-found
returns-in-Ok-default-false-clause-found g c len bytes shown met is since shows =
    let first = c.in-Ok-default-false.ensures.tells bytes is in
    all_more c.args.end len bytes met shown since shows (g.G.Growing.grows c.still_closed.new.file) (g.G.Growing.grows c.find_end.new.file) c.in-Ok-default-false.field-0-0 c.in-Ok-default-false.field-0-1 c.in-Ok-default-false.field-0-1-test first
    c.find_end.result (c.find_end.ensures.found first.sized.later first.sized.now (more_leads c.args.end len bytes met shown since shows first))

pub returns-in-Ok-default-false-clause-same : goal.returns-in-Ok-default-false-clause-same
returns-in-Ok-default-false-clause-same g c bytes is = let first = c.in-Ok-default-false.ensures.same bytes is in grown_by first (c.find_end.ensures.same first.later first.now) tt
