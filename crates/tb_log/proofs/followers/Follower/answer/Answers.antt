use Rattle.std.proofs.Common.{refl, subst}
use Rattle.tb_log.specs.Following.{Following}
use Rattle.tb_log.specs.Follows.{AnswersIndexed}
use Rattle.tb_log.proofs.Serving.{answered}
use Rattle.tb_log.proofs.followers.Follower.answer.Goals as goal

pub returns : goal.returns
returns g c =
    let F : Following = record { state = c.self.inside.machine; position = c.self.inside.position; log = c.self.inside.log; replies = c.self.inside.replies } in
    let G : Following = record { state = c.frame_of.new.machine; position = c.self.inside.position; log = c.self.inside.log; replies = c.add.new.self } in
    subst (λ (K : Following). AnswersIndexed c.args.index c.write.result K G (c.args.moment, c.args.request) (g.W.Sink.output c.args.writer.now) (g.W.Sink.output c.write.new.writer)) c.self.view_is
    (answered c.args.index F G (c.args.moment, c.args.request) _ _ _ _ _
    c.in_ok-frame.ensures.frame refl refl c.add.ensures c.deref-2.ensures.value c.in_ok-line.ensures c.deref.ensures.value c.deref-3.ensures.value
    c.write.result _ _ c.write.ensures)
