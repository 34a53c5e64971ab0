use Rattle.std.proofs.Common.{inl}
use Rattle.std.proofs.lemmas.Result.{err_from_is_err_and}
use Rattle.tb_log.proofs.Taking.{all_filled, cut_short}
use Rattle.tb_log.proofs.inputs.fill_all.Goals as goal

pub returns-in_err-fill : goal.returns-in_err-fill
returns-in_err-fill g c =
    let p = err_from_is_err_and c.from_residual.result c.from_residual.ensures.1 in
    rw (p.1, p.2) (inl c.in_err-fill.ensures.lost)

pub returns-then-branch-buffer : goal.returns-then-branch-buffer
returns-then-branch-buffer g c = cut_short _ _ _ _ c.if-branch-buffer.true c.in_ok-fill.ensures.filled

pub returns : goal.returns
returns g c = all_filled _ _ _ _ c.if-branch-buffer.false c.in_ok-fill.ensures.filled
