use Rattle.std.proofs.Common.{arith}
use Rattle.tb_file.proofs.TornBytes.{torn_told, torn_counted}
use Rattle.tb_file.proofs.torn.torn_behind.Goals as goal

pub returns-then-torn-most-clause-torn : goal.returns-then-torn-most-clause-torn
returns-then-torn-most-clause-torn g c file holds found =
    torn_told c.args.most file c.args.extent c.saturating_sub-torn.result found
    (torn_counted file c.args.extent c.in-Ok.len c.saturating_sub.result c.saturating_sub-torn.result found (c.in-Ok.ensures.bytes file holds) c.saturating_sub.ensures c.saturating_sub-torn.ensures) (omega arith)
