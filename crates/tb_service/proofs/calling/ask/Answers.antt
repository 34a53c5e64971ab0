use Rattle.std.proofs.Common.{[], append-nil}
use Rattle.tb_published.proofs.Prefixes.{prefix_trans}
use Rattle.tb_service.proofs.calling.ask.Goals as goal

pub loop-init : goal.loop-init
loop-init g c = record { begins = ([], append-nil c.args.seat.now); legal = c.requires.legal; answer = c.requires.answer }

pub loop-preserved : goal.loop-preserved
loop-preserved g c = record {
  begins = prefix_trans c.args.seat.now c.loop.seat c.answer.new.self c.loop.invariant.begins c.answer.ensures.begins;
  legal = c.in-Ok.ensures.answer.0;
  answer = rw c.replace.ensures.after c.in-Ok.ensures.answer.1;
}

pub returns : goal.returns
returns g c = record { begins = c.loop.invariant.begins; answer = (c.loop.invariant.legal, c.loop.invariant.answer) }

pub returns-in-Err : goal.returns-in-Err
returns-in-Err g c = record {
  begins = prefix_trans c.args.seat.now c.loop.seat c.answer.new.self c.loop.invariant.begins c.answer.ensures.begins;
  answer = tt;
}

pub returns-then-ne : goal.returns-then-ne
returns-then-ne g c = record {
  begins = prefix_trans c.args.seat.now c.loop.seat c.answer.new.self c.loop.invariant.begins c.answer.ensures.begins;
  answer = (c.in-Ok.ensures.answer.0, rw c.replace.ensures.after c.in-Ok.ensures.answer.1);
}
