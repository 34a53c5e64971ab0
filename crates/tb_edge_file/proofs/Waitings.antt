-- A fault before the first wait.
use Rattle.std.proofs.Common.{Bool, true, false, Err, refl}
use Rattle.tb_edge_file.specs.declared.faults.KeepCommandFault.{KeepCommandFault}
use Rattle.tb_edge_file.specs.declared.openers.Waited.{Waited}
use Rattle.tb_edge_file.specs.Waiting.{EndsIf}
use Rattle.tb_edge_file.specs.Waiting.{Begun}

pub unwaited : {O : Type 0} (pauses : O → Waited → O → Type 0) (follows : Bool) (fault : KeepCommandFault) (at : O) → EndsIf pauses follows (Err fault) at at
unwaited pauses true fault at = Begun
unwaited pauses false fault at = refl
