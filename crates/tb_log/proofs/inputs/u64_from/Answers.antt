use Rattle.std.proofs.Common.{rules, ℕ, List, length, arith, sym, subst}
use Rattle.std.proofs.lemmas.Result.{err_from_is_err_and}
use Rattle.tb_log.specs.Steps.{ReadsOnly}
use Rattle.tb_log.proofs.Numbers.{eight_bytes}
use Rattle.tb_log.proofs.Taking.{missed_whole}
use Rattle.tb_log.proofs.inputs.u64_from.Goals as goal

pub returns-in_err-fill_all : goal.returns-in_err-fill_all
returns-in_err-fill_all g c =
    let p = err_from_is_err_and c.from_residual.result c.from_residual.ensures.1 in
    rw (p.1, p.2) (missed_whole (length c.fill_all.new.buffer) 8 c.in_err-fill_all.field-0.0 _ _ (omega arith) c.in_err-fill_all.ensures)

pub returns : goal.returns
returns g c =
    let read = c.fill_all.new.buffer in
    subst (λ (bs : List ℕ). ReadsOnly bs (g.S.Source.input c.args.source.now) (g.S.Source.input c.fill_all.new.source))
    (sym (eight_bytes c.read_u64.result read (omega arith) (search rules) c.read_u64.ensures)) c.in_ok-fill_all.ensures
