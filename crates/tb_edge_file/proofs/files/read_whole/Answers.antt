use Rattle.tb_edge_file.proofs.WholeFiles.{found_is}
use Rattle.tb_edge_file.proofs.files.read_whole.Goals as goal

pub returns-in-Ok-clause-found : goal.returns-in-Ok-clause-found
returns-in-Ok-clause-found g c file holds =
    let found = c.in-Ok.ensures.found file holds in
    found_is c.in-Ok.rules c.in-Ok.machine c.in-Ok.extent c.commit-entries.result c.time-time.result file found.0 found.1
    c.commit-entries.ensures.value c.time-time.ensures
