use Rattle.std.proofs.Common.{ap, subst, sym}
use Rattle.tb_file_journal.specs.Scans.{HasRead}
use Rattle.tb_file_journal.specs.Reading.{ReadAhead}
use Rattle.tb_file_journal.proofs.Growths.{read_on}
use Rattle.tb_file_journal.proofs.scans.Scan.go_on.Goals as goal

pub returns-clause-reads : goal.returns-clause-reads
returns-clause-reads c records file later after read =
    let old = subst (HasRead records file) (sym c.self.view_is) read in
    read_on records file later _ c.drop_ahead.new.self.taken c.drop_ahead.new.self.ahead after (ap (λ (w : ReadAhead). w.ahead) c.drop_ahead.ensures) old
