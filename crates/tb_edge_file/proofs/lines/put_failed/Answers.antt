use Rattle.tb_edge_file.proofs.lines.put_failed.Goals as goal

pub returns-in-Input : goal.returns-in-Input
returns-in-Input g c = rw c.in-Input.is c.put_all.ensures

pub returns-in-Output : goal.returns-in-Output
returns-in-Output g c = rw c.in-Output.is c.put_all-in-Output.ensures

pub returns-in-File : goal.returns-in-File
returns-in-File g c = rw c.in-File.is c.put_named.ensures

pub returns-in-New : goal.returns-in-New
returns-in-New g c = rw c.in-New.is c.put_named-in-New.ensures
