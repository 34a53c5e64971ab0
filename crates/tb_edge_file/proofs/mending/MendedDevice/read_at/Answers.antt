use Rattle.std.proofs.Common.{◌++◌, List, ℕ, drop, subst, sym}
use Rattle.tb_file_journal.specs.Device.{ReadsAt}
use Rattle.tb_edge_file.proofs.Mends.{reads_mended}
use Rattle.tb_edge_file.proofs.mending.MendedDevice.read_at.Goals as goal

pub returns-clause-bytes : goal.returns-clause-bytes
returns-clause-bytes g c file (own, held, is) =
    subst (λ (f : List ℕ). ReadsAt c.in_ok-count.count c.args.at f (c.mend.new.bytes ++ drop c.in_ok-count.count c.read_at.new.into)) (sym is)
    (reads_mended c.in_ok-count.count c.args.at own c.read_at.new.into c.mend.new.bytes (c.in_ok-count.ensures.bytes own held) c.in_ok-count.ensures.within c.mend.ensures)
