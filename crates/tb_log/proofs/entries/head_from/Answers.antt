use Rattle.std.proofs.lemmas.Result.{err_from_is_err_and}
use Rattle.tb_log.specs.declared.entries.Head.{Head}
use Rattle.tb_log.proofs.Taking.{takes_head, position_missed, length_missed, sum_missed}
use Rattle.tb_log.proofs.entries.head_from.Goals as goal

pub returns-in_err-position : goal.returns-in_err-position
returns-in_err-position g c =
    let p = err_from_is_err_and c.from_residual.result c.from_residual.ensures.1 in
    rw (p.1, p.2) (position_missed c.in_err-position.field-0.0 _ _ c.in_err-position.ensures)

pub returns-in_err-length : goal.returns-in_err-length
returns-in_err-length g c =
    let p = err_from_is_err_and c.from_residual-in_err-length.result c.from_residual-in_err-length.ensures.1 in
    rw (p.1, p.2) (length_missed c.in_ok-position.position c.in_err-length.field-0.0 _ _ _ c.in_ok-position.ensures c.in_err-length.ensures)

pub returns-in_err-checksum : goal.returns-in_err-checksum
returns-in_err-checksum g c =
    let p = err_from_is_err_and c.from_residual-in_err-checksum.result c.from_residual-in_err-checksum.ensures.1 in
    rw (p.1, p.2) (sum_missed c.in_ok-position.position c.in_ok-length.length c.in_err-checksum.field-0.0 _ _ _ _
    c.in_ok-position.ensures c.in_ok-length.ensures c.in_err-checksum.ensures)

pub returns : goal.returns
returns g c =
    let head : Head = record { position = c.in_ok-position.position; length = c.in_ok-length.length; checksum = c.in_ok-checksum.checksum } in
    takes_head head _ _ _ _ c.in_ok-position.ensures c.in_ok-length.ensures c.in_ok-checksum.ensures
