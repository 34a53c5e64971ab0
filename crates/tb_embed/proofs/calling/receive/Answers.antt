use Rattle.std.proofs.Common.{sym, ap, ◌∙◌, subst}
use Rattle.tb_caller.specs.Clients.{Client, received}
use Rattle.tb_embed.specs.Callers.{IsClient}
use Rattle.tb_embed.specs.private.Calling.{stored}
use Rattle.tb_embed.specs.declared.steps.TbCaller.{TbCaller}
use Rattle.tb_embed.proofs.Clients.{client_moved}
use Rattle.tb_embed.proofs.calling.receive.Goals as goal

pub returns-in-Ok-received : goal.returns-in-Ok-received
returns-in-Ok-received c =
    let caller = c.in-Ok.caller in
    let reply = c.in-Ok-received.reply in
    let read = c.in-Ok-received.ensures in
    let kept = c.args.kept.now in
    let same = c.store.ensures ∙ ap (λ (d : Client). stored kept d) read.2 in
    (caller, reply, c.in-Ok.ensures.0, c.in-Ok.ensures.1, read.0, read.1, subst (λ (k : TbCaller). IsClient k c.args.frame.now (received caller reply)) (sym same) (client_moved kept c.args.frame.now caller reply c.in-Ok.ensures.0))
