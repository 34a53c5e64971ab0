use Rattle.std.proofs.Common.{arith, refl, ap, ◌∙◌}
use Rattle.std.proofs.lemmas.Result.{err_from_is_err_and}
use Rattle.tb_file.specs.Keeping.{Keeping}
use Rattle.tb_file.proofs.ServedRounds.{going_none, going_on, going_may, asking_silent, served_out, served_before, served_end, served_ends, served_too_long}
use Rattle.tb_file.proofs.rounds.keep_all.Goals as goal

pub loop-k-init : goal.loop-k-init
loop-k-init g c = record {
  going =
      rw c.new-replies.ensures (going_none g.D.Device.tells g.D.Device.disk c.args.keeper.now (g.R.Source.input c.args.reader.now) (g.W.Sink.output c.args.writer.now) c.requires.usable c.requires.fresh);
  cut = refl;
}

pub returns-in_err-reply_before_waiting-clause-served : goal.returns-in_err-reply_before_waiting-clause-served
returns-in_err-reply_before_waiting-clause-served g c =
    let p = err_from_is_err_and c.from_residual.result c.from_residual.ensures.1 in
    rw (p.1, p.2) (served_before c.loop-k.invariant.going c.in_err-reply_before_waiting.field-0.0 _ c.in_err-reply_before_waiting.ensures.may)

pub returns-in_err-keep_next-clause-served : goal.returns-in_err-keep_next-clause-served
returns-in_err-keep_next-clause-served g c =
    let p = err_from_is_err_and c.from_residual-in_err-keep_next.result c.from_residual-in_err-keep_next.ensures.1 in
    rw (p.1, p.2) (served_ends (going_may c.loop-k.invariant.going c.in_ok-reply_before_waiting.ensures.may) c.in_err-keep_next.field-0.0 _ c.in_err-keep_next.ensures.keeps)

pub returns-in_err-commit_and_reply-clause-served : goal.returns-in_err-commit_and_reply-clause-served
returns-in_err-commit_and_reply-clause-served g c =
    let p = err_from_is_err_and c.from_residual-in_err-commit_and_reply.result c.from_residual-in_err-commit_and_reply.ensures.1 in
    rw (p.1, p.2) (served_end {written = g.W.Sink.output c.keep_next.new.writer} (asking_silent (going_may c.loop-k.invariant.going c.in_ok-reply_before_waiting.ensures.may) c.in_ok-keep_next.ensures.keeps.1)
    c.in_err-commit_and_reply.field-0.0 _ (rw c.if-not-branch.true at c.in_ok-keep_next.ensures.keeps.0) c.in_err-commit_and_reply.ensures.replies)

pub returns-then-not-branch-clause-served : goal.returns-then-not-branch-clause-served
returns-then-not-branch-clause-served g c =
    served_out {written = g.W.Sink.output c.keep_next.new.writer} (asking_silent (going_may c.loop-k.invariant.going c.in_ok-reply_before_waiting.ensures.may) c.in_ok-keep_next.ensures.keeps.1)
    _ (rw c.if-not-branch.true at c.in_ok-keep_next.ensures.keeps.0) c.in_ok-commit_and_reply.ensures.replies

pub loop-k-preserved : goal.loop-k-preserved
loop-k-preserved g c = record {
  going =
      going_on {written = g.W.Sink.output c.keep_next.new.writer} (asking_silent (going_may c.loop-k.invariant.going c.in_ok-reply_before_waiting.ensures.may) c.in_ok-keep_next.ensures.keeps.1)
      (rw c.if-not-branch.false at c.in_ok-keep_next.ensures.keeps.0);
  cut = c.keep_next.ensures.cut ∙ (c.reply_before_waiting.ensures.cut ∙ c.loop-k.invariant.cut);
}

pub returns-clause-served : goal.returns-clause-served
returns-clause-served g c = served_too_long c.loop-k.invariant.going (omega (arith, c.loop-k-test.false, c.loop-k.auto.k-end))

pub reply_before_waiting-requires-clause-ready : goal.reply_before_waiting-requires-clause-ready
reply_before_waiting-requires-clause-ready g c = c.loop-k.invariant.going.ready

pub reply_before_waiting-requires-clause-usable : goal.reply_before_waiting-requires-clause-usable
reply_before_waiting-requires-clause-usable g c = c.loop-k.invariant.going.journal

pub keep_next-requires-clause-ready : goal.keep_next-requires-clause-ready
keep_next-requires-clause-ready g c = (going_may c.loop-k.invariant.going c.in_ok-reply_before_waiting.ensures.may).going.ready

pub keep_next-requires-clause-usable : goal.keep_next-requires-clause-usable
keep_next-requires-clause-usable g c = (going_may c.loop-k.invariant.going c.in_ok-reply_before_waiting.ensures.may).going.journal

pub commit_and_reply-requires-clause-ready : goal.commit_and_reply-requires-clause-ready
commit_and_reply-requires-clause-ready g c t =
    rw (rw c.if-not-branch.true at c.in_ok-keep_next.ensures.keeps.0).same ((going_may c.loop-k.invariant.going c.in_ok-reply_before_waiting.ensures.may).going.ready t)

pub commit_and_reply-requires-clause-usable : goal.commit_and_reply-requires-clause-usable
commit_and_reply-requires-clause-usable g c =
    ap (λ (k : Keeping g.row.D.Denot). k.journal.usable) (rw c.if-not-branch.true at c.in_ok-keep_next.ensures.keeps.0).same
    ∙ (going_may c.loop-k.invariant.going c.in_ok-reply_before_waiting.ensures.may).going.journal

pub returns-then-not-branch-clause-fresh : goal.returns-then-not-branch-clause-fresh
returns-then-not-branch-clause-fresh g c t =
    record { ready = c.in_ok-commit_and_reply.ensures.replies.0.ready t; none_waits = c.in_ok-commit_and_reply.ensures.replies.0.none_waits }

pub returns-then-not-branch-clause-usable : goal.returns-then-not-branch-clause-usable
returns-then-not-branch-clause-usable g c = c.in_ok-commit_and_reply.ensures.replies.0.journal

pub returns-then-not-branch-clause-serves : goal.returns-then-not-branch-clause-serves
returns-then-not-branch-clause-serves g c =
    c.in_ok-commit_and_reply.ensures.replies.0.usable
    ∙ (ap (λ (k : Keeping g.row.D.Denot). k.usable) (rw c.if-not-branch.true at c.in_ok-keep_next.ensures.keeps.0).same
    ∙ (going_may c.loop-k.invariant.going c.in_ok-reply_before_waiting.ensures.may).going.usable)

pub returns-then-not-branch-clause-cut : goal.returns-then-not-branch-clause-cut
returns-then-not-branch-clause-cut g c =
    c.commit_and_reply.ensures.cut ∙ (c.keep_next.ensures.cut ∙ (c.reply_before_waiting.ensures.cut ∙ c.loop-k.invariant.cut))

pub returns-in_err-commit_and_reply-clause-cut : goal.returns-in_err-commit_and_reply-clause-cut
returns-in_err-commit_and_reply-clause-cut g c =
    c.commit_and_reply.ensures.cut ∙ (c.keep_next.ensures.cut ∙ (c.reply_before_waiting.ensures.cut ∙ c.loop-k.invariant.cut))

pub returns-in_err-keep_next-clause-cut : goal.returns-in_err-keep_next-clause-cut
returns-in_err-keep_next-clause-cut g c = c.keep_next.ensures.cut ∙ (c.reply_before_waiting.ensures.cut ∙ c.loop-k.invariant.cut)

pub returns-in_err-reply_before_waiting-clause-cut : goal.returns-in_err-reply_before_waiting-clause-cut
returns-in_err-reply_before_waiting-clause-cut g c = c.reply_before_waiting.ensures.cut ∙ c.loop-k.invariant.cut

pub returns-clause-cut : goal.returns-clause-cut
returns-clause-cut g c = c.loop-k.invariant.cut
