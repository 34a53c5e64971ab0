use Rattle.std.proofs.Common.{◌∙◌, sym}
use Rattle.tb_records.proofs.OneSpelling.{one_account}
use Rattle.tb_records.proofs.records.Account.from_bytes.Goals as goal

pub returns-clause-only : goal.returns-clause-only
returns-clause-only c = λ x fits e. one_account _ x c.read.ensures.fits fits (c.read.ensures.spelled ∙ sym e)
