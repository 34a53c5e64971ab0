use Rattle.tb_edge_file.proofs.WholeFiles.{quick_is}
use Rattle.tb_edge_file.proofs.files.read_quickly.Goals as goal

pub returns-in-Ok-clause-found : goal.returns-in-Ok-clause-found
returns-in-Ok-clause-found g c file holds =
    let found = c.in-Ok.ensures.found file holds in
    quick_is c.in-Ok.rules c.in-Ok.time c.saturating_sub.result c.in-Ok.extent file found.0 found.1 c.saturating_sub.ensures
