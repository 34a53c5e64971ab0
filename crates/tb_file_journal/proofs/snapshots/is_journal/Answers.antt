use Rattle.tb_file_journal.proofs.ScanSteps.{begins_as}
use Rattle.tb_file_journal.proofs.snapshots.is_journal.Goals as goal

pub returns : goal.returns
returns c file has = begins_as c.starts_with.result file c.args.bytes.now has (c.starts_with.ensures.value)
