use Rattle.tb_edge_file.proofs.lines.put_naming.Goals as goal

pub returns-in-SyncFailed : goal.returns-in-SyncFailed
returns-in-SyncFailed g c = rw c.in-SyncFailed.is c.put_named.ensures

pub returns-in-Exists : goal.returns-in-Exists
returns-in-Exists g c = rw c.in-Exists.is c.put_named-in-Exists.ensures

pub returns-in-Full : goal.returns-in-Full
returns-in-Full g c = rw c.in-Full.is c.put_named-in-Full.ensures

pub returns-in-Missing : goal.returns-in-Missing
returns-in-Missing g c = rw c.in-Missing.is c.put_named-in-Missing.ensures
