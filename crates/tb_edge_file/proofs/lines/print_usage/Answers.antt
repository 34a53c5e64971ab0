use Rattle.std.proofs.Common.{string_bytes, sym, ◌∙◌, arith}
use Rattle.tb_edge_file.proofs.Lengths.{usage_is, usage_page}
use Rattle.tb_edge_file.proofs.Passing.{said}
use Rattle.tb_edge_file.proofs.lines.print_usage.Goals as goal

pub returns-in-empty : goal.returns-in-empty
returns-in-empty g c =
    said _ _ c.put_all.result _ _ _ (usage_page string_bytes c.args.wrong c.args.words.now (omega (arith, c.in-empty.len_below)) ∙ sym c.as_bytes.ensures.value) c.put_all.ensures c.pass.ensures

pub returns-in_default : goal.returns-in_default
returns-in_default g c = said _ _ c.put_usage.result _ _ _ (usage_is string_bytes c.args.wrong c.args.words.now (omega arith)) c.put_usage.ensures c.pass-in_default.ensures
