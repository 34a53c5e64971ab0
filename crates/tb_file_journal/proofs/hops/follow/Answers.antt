use Rattle.std.proofs.Common.{arith, refl}
use Rattle.tb_file_journal.proofs.Following.{followed_next, leads_on, leads_from}
use Rattle.tb_file_journal.proofs.hops.follow.Goals as goal

pub returns-then-rest-lt-FIXED_BYTES-clause-leads : goal.returns-then-rest-lt-FIXED_BYTES-clause-leads
returns-then-rest-lt-FIXED_BYTES-clause-leads c =
    leads_on c.args.at c.args.len c.args.piece.now c.loop-next.end c.loop-next.rest.now c.loop-next.invariant c.in-Further.next c.in-Further.ensures.hops

pub loop-next-preserved : goal.loop-next-preserved
loop-next-preserved c =
    followed_next c.args.at c.args.len c.args.piece.now c.loop-next.end c.loop-next.rest.now c.loop-next.invariant c.in-Further.next c.in-Further.ensures.hops
    (c.in-Further.ensures.further c.in-Further.next refl) c.if-rest-lt-FIXED_BYTES.false c.if-next-end.false c.split_at.result.1.now c.split_at.ensures.back

pub returns-in_default : goal.returns-in_default
returns-in_default c = record {
  leads = leads_from c.args.at c.args.len c.args.piece.now c.loop-next.end c.loop-next.rest.now c.loop-next.invariant c.step.result c.step.ensures.hops;
  further = λ next is. absurd (c.in_default.not-Further next is);
  closed = λ end is. (omega (arith, c.step.ensures.closed end is, c.loop-next.invariant.begins), omega (arith, c.step.ensures.closed end is, c.loop-next.invariant.place, c.requires.near));
}
