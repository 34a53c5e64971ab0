use Rattle.std.proofs.Common.{arith}
use Rattle.tb_records.proofs.PairAtHand.{header_found, pair_long, part_found}
use Rattle.tb_records.proofs.streams.pair_in.Goals as goal

pub returns-in-Ok : goal.returns-in-Ok
returns-in-Ok c =
    part_found c.u64_at.result c.in-Ok.length c.in-Ok.request c.args.bytes.now c.if-not-holds_pair.ensures c.u64_at.type_inv c.u64_at.ensures.spelled c.in-Ok.ensures

pub returns-in-Err-NoMemory : goal.returns-in-Err-NoMemory
returns-in-Err-NoMemory c =
    header_found c.args.bytes.now c.in-Err-NoMemory.field-0 (pair_long c.args.bytes.now c.if-not-holds_pair.ensures) (grind arith) c.in-Err-NoMemory.ensures
