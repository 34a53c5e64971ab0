use Rattle.std.proofs.Common.{rules}
use Rattle.tb_file_journal.proofs.Finding.{stays_held, refreshes_kept, refreshes_more}
use Rattle.tb_file_journal.proofs.snapshots.Snapshot.refresh.Goals as goal

pub returns-then-not-self-clause-ok : goal.returns-then-not-self-clause-ok
returns-then-not-self-clause-ok g c shown held =
    let kept = refreshes_kept c.self.view_is held c.if-not-self.true in
    search rules

pub returns-in-Ok-clause-ok : goal.returns-in-Ok-clause-ok
returns-in-Ok-clause-ok g c shown held = refreshes_more c.self.view_is held c.if-not-self.false c.find_more.new.file c.in-Ok.found c.in-Ok.ensures.found

pub returns-in-Err-clause-err : goal.returns-in-Err-clause-err
returns-in-Err-clause-err g c shown held = stays_held c.self.view_is held c.find_more.new.file c.find_more.ensures.same
