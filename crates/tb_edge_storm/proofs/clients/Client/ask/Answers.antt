use Rattle.std.proofs.Common.{refl, ap}
use Rattle.tb_edge_storm.specs.private.Clients.{port_of}
use Rattle.tb_edge_storm.proofs.Steps.{hears}
use Rattle.tb_edge_storm.proofs.clients.Client.ask.Goals as goal

pub returns : goal.returns
returns g c =
    hears g.J.Naming.opening c.args.self.now _ c.in-Some.request.now c.in_ok-reply.reply c.take_reply-heard.result c.in-Open.port c.call.new.self refl
    c.in_ok-reply.ensures.begins (ap port_of c.in-Open.is) refl c.in_ok-reply.ensures.same.0 c.in_ok-reply.ensures.same.1 c.in_ok-reply.ensures.offered c.in-Some.ensures
    c.take_reply-heard.ensures.heard c.take_reply-heard.ensures.moved c.in_ok-reply.ensures.answer
