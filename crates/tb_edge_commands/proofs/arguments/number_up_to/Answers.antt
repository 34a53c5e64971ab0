use Rattle.std.proofs.Common.{rules, sym, ◌∙◌, ◌+◌, drop, get_or, List, ℕ}
use Rattle.std.proofs.lemmas.List.{at_drop_more}
use Rattle.tb_edge_commands.specs.Forms.{number_from, within}
use Rattle.tb_edge_commands.proofs.Digits.{stops}
use Rattle.tb_edge_commands.proofs.arguments.number_up_to.Goals as goal

pub returns-in_err-n : goal.returns-in_err-n
returns-in_err-n c =
    c.from_residual.ensures
    ∙ sym (stops c.args.high c.loop-byte.n (get_or c.args.word.now c.loop-byte.byte-index 0) (drop (c.loop-byte.byte-index + 1) c.args.word.now) (sym c.in_err-n.ensures))
    ∙ (sym (at_drop_more (λ (bytes : List ℕ). within 0 c.args.high (number_from c.loop-byte.n bytes)) c.args.word.now c.loop-byte.byte-index 0 (search rules)) ∙ c.loop-byte.invariant.value)
