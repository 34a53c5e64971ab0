use Rattle.std.proofs.Common.{arith}
use Rattle.std.proofs.lemmas.Result.{err_from_is_err_and}
use Rattle.tb_log.proofs.Serving.{serving_none, serving_on, serving_few, serving_done, serving_lost, serving_unanswered}
use Rattle.tb_log.proofs.following.serve_content.Goals as goal

pub loop-index-init : goal.loop-index-init
loop-index-init g c = rw c.new-source.ensures (serving_none c.args.follower.now c.args.content.now (g.W.Sink.output c.args.writer.now))

pub returns-in_err-answer-in-Ok-Some : goal.returns-in_err-answer-in-Ok-Some
returns-in_err-answer-in-Ok-Some g c =
    let p = err_from_is_err_and c.from_residual.result c.from_residual.ensures.1 in
    rw (p.1, p.2) (serving_unanswered c.loop-index.index _ _ _ (c.in-Ok-Some.moment, c.in-Ok-Some.request) _ _ _ _ _ _ c.in_err-answer-in-Ok-Some.field-0.0 c.loop-index.invariant
    (rw c.in-Ok-Some.field-0-is at c.in-Ok-Some.ensures.answer) c.in_err-answer-in-Ok-Some.ensures)

pub returns-in-Ok-None : goal.returns-in-Ok-None
returns-in-Ok-None g c = serving_done _ _ _ _ _ _ _ _ c.loop-index.invariant (rw c.in-Ok-None.field-0-is at c.in-Ok-None.ensures.answer)

pub returns-in-Err : goal.returns-in-Err
returns-in-Err g c = serving_lost _ _ _ _ _ _ _ c.loop-index.invariant

pub loop-index-preserved : goal.loop-index-preserved
loop-index-preserved g c =
    serving_on c.loop-index.index _ _ _ (c.in-Ok-Some.moment, c.in-Ok-Some.request) _ _ _ _ _ _ c.loop-index.invariant
    (rw c.in-Ok-Some.field-0-is at c.in-Ok-Some.ensures.answer) c.in_ok-answer-in-Ok-Some.ensures

pub unreachable-requires : goal.unreachable-requires
unreachable-requires g c = omega (arith, serving_few _ _ _ _ _ _ _ c.loop-index.invariant)
