use Rattle.std.proofs.Common.{◌∙◌, sym}
use Rattle.tb_records.proofs.OneSpelling.{one_transfer}
use Rattle.tb_records.proofs.records.Transfer.from_bytes.Goals as goal

pub returns-clause-only : goal.returns-clause-only
returns-clause-only c = λ x fits e. one_transfer _ x c.read.ensures.fits fits (c.read.ensures.spelled ∙ sym e)
