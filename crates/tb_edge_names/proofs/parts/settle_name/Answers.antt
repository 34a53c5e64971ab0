use Rattle.tb_edge_names.proofs.NewFiles.{settles_not}
use Rattle.tb_edge_names.proofs.parts.settle_name.Goals as goal

pub returns-in-Err : goal.returns-in-Err
returns-in-Err g c tells =
    settles_not _ _ c.in-Err.fault c.opening_fault.result _ _ _ c.requires.apart (c.remove-kept.ensures tells) (rw c.in-Err.is at c.sync_folder.ensures tells)
