use Rattle.std.proofs.Common.{refl}
use Rattle.tb_edge_file.proofs.files.dump_found.Goals as goal

pub returns-in-Ok : goal.returns-in-Ok
returns-in-Ok g c = (c.write_dump.result, record { dumps = c.write_dump.ensures.dumps; cause = c.write_dump.ensures.cause }, rw c.in-Ok.is refl)

pub returns-in-Err : goal.returns-in-Err
returns-in-Err g c =
    (c.write_dump.result, record { dumps = c.write_dump.ensures.dumps; cause = c.write_dump.ensures.cause }, rw (c.in-Err.is, c.dumped_fault.ensures) refl)
