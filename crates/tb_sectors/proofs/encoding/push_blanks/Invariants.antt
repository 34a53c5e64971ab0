use Rattle.std.proofs.Common.{◌≡◌, ◌++◌, replicate}
use Rattle.tb_sectors.specs.Stamped.{blank}
use Rattle.tb_sectors.specs.Encoding.{raws}
use Rattle.tb_sectors.proofs.encoding.push_blanks.Given as goal

abbrev pub invariant-loop-added : goal.invariant-loop-added
invariant-loop-added l = l.out.items ≡ l.fn.out.items ++ raws (replicate l._added blank)
