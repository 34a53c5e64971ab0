use Rattle.std.proofs.Common.{refl}
use Rattle.std.proofs.lemmas.Result.{err_from_is_err_and}
use Rattle.tb_records.proofs.Sendings.{sent_rest, sent_few}
use Rattle.tb_machine.proofs.dumping.write_entry.Goals as goal

pub returns : goal.returns
returns g c = sent_rest _ _ _ _ _ _ refl c.in_ok-write_mark.ensures c.send_entry.result c.send_entry.ensures.sent

pub returns-in_err-write_mark : goal.returns-in_err-write_mark
returns-in_err-write_mark g c =
    let p = err_from_is_err_and c.from_residual.result c.from_residual.ensures.1 in
    rw (p.1, p.2) (c.in_err-write_mark.ensures.0, sent_few _ _ _ _ _ refl c.in_err-write_mark.ensures.1)
