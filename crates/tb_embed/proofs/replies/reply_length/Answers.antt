use Rattle.tb_sessions.specs.Judged.{row_of}
use Rattle.tb_embed.proofs.Lengths.{stored_fits}
use Rattle.tb_embed.proofs.replies.reply_length.Goals as goal

pub returns-in-New-Some-clause-fits : goal.returns-in-New-Some-clause-fits
returns-in-New-Some-clause-fits c = stored_fits c.args.class (row_of c.args.machine.now.rows c.args.client) c.in-New-Some.reply.now c.in-New-Some.ensures c.frame_length.ensures.fits
