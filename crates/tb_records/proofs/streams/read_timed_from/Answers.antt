use Rattle.tb_records.proofs.PairAtHand.{pair_read, pair_refused}
use Rattle.tb_records.proofs.streams.read_timed_from.Goals as goal

pub returns-in-Ok-Some-clause-answer : goal.returns-in-Ok-Some-clause-answer
returns-in-Ok-Some-clause-answer g c =
    let found = rw (c.in-Ok-Some.field-0-is, c.at_hand.ensures.exact) at c.in-Ok-Some.ensures in
    pair_read c.in-Ok-Some.moment c.in-Ok-Some.length c.in-Ok-Some.request (g.R.Source.input c.args.source.now).at_hand _ _ found c.skip.ensures.bytes

pub returns-in-Ok-Some-clause-right : goal.returns-in-Ok-Some-clause-right
returns-in-Ok-Some-clause-right g c =
    let found = rw c.in-Ok-Some.field-0-is at c.in-Ok-Some.ensures in
    found.is

pub returns-in-Err-clause-answer : goal.returns-in-Err-clause-answer
returns-in-Err-clause-answer g c =
    let found = rw c.at_hand.ensures.exact at c.in-Err.ensures in
    pair_refused (g.R.Source.input c.args.source.now).at_hand _ _ found c.skip-in-Err.ensures.bytes
