use Rattle.tb_machine.proofs.DumpLaws.{one_dump}
use Rattle.tb_machine.proofs.laws.one_dump.Goals as goal

pub returns : goal.returns
returns c = one_dump
