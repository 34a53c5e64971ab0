use Rattle.tb_file.proofs.Unrefused.{only_memory, file_only_memory}
use Rattle.tb_file.proofs.laws.only_memory.Goals as goal

pub returns-clause-records : goal.returns-clause-records
returns-clause-records g c = only_memory

pub returns-clause-file : goal.returns-clause-file
returns-clause-file g c = file_only_memory g.D.Device.disk
