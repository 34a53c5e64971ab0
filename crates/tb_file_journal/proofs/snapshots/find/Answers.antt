use Rattle.std.proofs.Common.{◌≡◌, Bool, true, subst, rules}
use Rattle.tb_file_journal.specs.private.Hops.{StartsAs}
use Rattle.tb_file_journal.proofs.Finding.{starts_leads, all_since}
use Rattle.tb_file_journal.proofs.snapshots.find.Goals as goal

pub returns-in-Ok-true-clause-found : goal.returns-in-Ok-true-clause-found
returns-in-Ok-true-clause-found g c bytes is =
    let first = c.in-Ok-true.ensures.tells bytes is in
    let e : c.in-Ok-true.field-0 ≡ true = search rules in
    let begins = subst (λ (b : Bool). StartsAs b first.later) e first.has in
    all_since (g.G.Growing.grows c.find_end.new.file) bytes first.later first.after c.find_end.result (c.find_end.ensures.found first.later first.now (starts_leads first.later begins))
