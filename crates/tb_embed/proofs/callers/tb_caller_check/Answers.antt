use Rattle.tb_embed.proofs.Clients.{checked_length}
use Rattle.tb_embed.proofs.callers.tb_caller_check.Goals as goal

pub returns : goal.returns
returns c = record { taken = c.check.result; status_is = c.status.ensures; length_is = checked_length c.check.result c.args.caller.now c.args.frame.now c.check.ensures; right = c.check.ensures }
