use Rattle.tb_embed.proofs.Clients.{client_read}
use Rattle.tb_embed.proofs.calling.client.Goals as goal

pub returns-in-Ok-from_fields : goal.returns-in-Ok-from_fields
returns-in-Ok-from_fields c = client_read c.args.kept.now c.args.frame.now c.id-id.result c.in-Ok.phase c.in-Ok-from_fields.caller c.id-id.ensures c.in-Ok.ensures c.in-Ok-from_fields.ensures
