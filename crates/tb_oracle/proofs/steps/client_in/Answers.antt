use Rattle.tb_oracle.proofs.Fields.{client_read, client_refused}
use Rattle.tb_oracle.proofs.steps.client_in.Goals as goal

pub returns-in-Ok-from_fields : goal.returns-in-Ok-from_fields
returns-in-Ok-from_fields c =
    let is = client_read _ _ _ c.in-Ok.read.0 c.in-Ok.read.1 c.args.head.now c.args.rest.now c.numbers_at-id.ensures.id c.numbers_at-id.ensures.session c.numbers_at-id.ensures.last c.in-Ok.ensures c.in-Ok-from_fields.caller c.in-Ok-from_fields.ensures in (c.in-Ok.ensures.1, is.0, is.1)

pub returns-in-Err-from_fields : goal.returns-in-Err-from_fields
returns-in-Err-from_fields c =
    client_refused _ _ _ c.in-Ok.read.0 c.in-Ok.read.1 c.args.head.now c.args.rest.now c.numbers_at-id.ensures.id c.numbers_at-id.ensures.session c.numbers_at-id.ensures.last c.in-Ok.ensures c.in-Err-from_fields.fault c.in-Err-from_fields.ensures
