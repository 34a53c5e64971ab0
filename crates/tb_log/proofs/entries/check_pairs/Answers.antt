use Rattle.std.proofs.Common.{arith}
use Rattle.tb_log.proofs.Pairs.{checked_none, checked_on, checked_few, checked_all, checked_bad}
use Rattle.tb_log.proofs.entries.check_pairs.Goals as goal

pub loop-k-init : goal.loop-k-init
loop-k-init c = rw c.new-source.ensures (checked_none c.args.content.now)

pub returns-in-Ok-None-clause-pairs : goal.returns-in-Ok-None-clause-pairs
returns-in-Ok-None-clause-pairs c = checked_all _ _ _ _ c.loop-k.invariant (rw c.in-Ok-None.field-0-is at c.in-Ok-None.ensures.answer)

pub returns-in-Err-clause-bad : goal.returns-in-Err-clause-bad
returns-in-Err-clause-bad c = rw c.pair_fault.ensures (checked_bad c.loop-k.k c.args.position _ _ _ c.in-Err.fault c.loop-k.invariant c.in-Err.ensures.answer)

pub loop-k-preserved : goal.loop-k-preserved
loop-k-preserved c = checked_on c.loop-k.k _ _ _ _ c.loop-k.invariant (rw c.in-Ok-Some.field-0-is at c.in-Ok-Some.ensures.answer)

pub unreachable-requires : goal.unreachable-requires
unreachable-requires c = omega (arith, checked_few _ _ _ c.loop-k.invariant)
