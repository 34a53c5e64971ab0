use Rattle.std.proofs.Common.{ap, sym, ◌∙◌}
use Rattle.crossbeam_channel.specs.Claims.{view}
use Rattle.crossbeam_channel.specs.Ends.{sends_on, ruled_capacity}
use Rattle.tb_service.specs.declared.orders.Order.{Order}
use Rattle.tb_service.specs.declared.rule.View.{View}
use Rattle.tb_service.proofs.Steps.{sends, silent}
use Rattle.tb_service.proofs.ports.send.Goals as goal

pub try_send_as-requires-clause-rule : goal.try_send_as-requires-clause-rule
try_send_as-requires-clause-rule g c =
    let pass = c.loop-naps.pass in
    let same = c.loop-naps.invariant.same.1 in
    let order = c.loop-naps.invariant.order in (
      sends (ruled_capacity (sends_on c.args.sender.now)) pass.id (view pass) _ (ap (λ (v : View). v.offers) same ∙ c.requires.offers)
          (ap (λ (o : Order). o.port) order ∙ c.requires.own ∙ ap (λ (v : View). v.port) (sym same)) (ap (λ (v : View). v.closed) same ∙ c.requires.fresh),
      silent pass.id (view pass),
    )

pub send_as-requires-clause-rule : goal.send_as-requires-clause-rule
send_as-requires-clause-rule g c =
    let pass = c.loop-naps.pass in
    let same = c.loop-naps.invariant.same.1 in
    let order = c.loop-naps.invariant.order in (
      sends (ruled_capacity (sends_on c.args.sender.now)) pass.id (view pass) _ (ap (λ (v : View). v.offers) same ∙ c.requires.offers)
          (ap (λ (o : Order). o.port) order ∙ c.requires.own ∙ ap (λ (v : View). v.port) (sym same)) (ap (λ (v : View). v.closed) same ∙ c.requires.fresh),
      silent pass.id (view pass),
    )
