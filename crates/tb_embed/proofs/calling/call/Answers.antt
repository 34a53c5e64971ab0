use Rattle.std.proofs.Common.{subst, sym, ◌∙◌}
use Rattle.tb_records.specs.declared.bodies.Body.{Body}
use Rattle.tb_embed.specs.Callers.{CallsBody}
use Rattle.tb_embed.proofs.Clients.{frame_called}
use Rattle.tb_embed.proofs.calling.call.Goals as goal

pub returns-in-Ok-copy : goal.returns-in-Ok-copy
returns-in-Ok-copy c =
    frame_called c.call_body.result c.args.kept.now c.call_body.new.kept c.args.request.now c.call_body.new.room c.in-Ok.request c.in-Ok.ensures
    (subst (λ (b : Body). CallsBody c.call_body.result c.args.kept.now c.call_body.new.kept b c.call_body.new.room) (c.in-Ok-copy.ensures ∙ c.body.ensures.value) c.call_body.ensures)
