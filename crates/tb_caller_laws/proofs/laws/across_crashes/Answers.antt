use Rattle.tb_caller_laws.proofs.Crashes.{across_crashes}
use Rattle.tb_caller_laws.proofs.laws.across_crashes.Goals as goal

pub returns : goal.returns
returns c = across_crashes
