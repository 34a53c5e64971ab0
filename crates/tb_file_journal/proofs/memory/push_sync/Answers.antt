use Rattle.tb_file_journal.proofs.CallHistory.{on_ok_too}
use Rattle.tb_file_journal.proofs.memory.push_sync.Goals as goal

pub returns-clause-ok : goal.returns-clause-ok
returns-clause-ok c = on_ok_too c.push_call.result _ _ (λ is. (c.in_ok-file.file, c.in_ok-file.ensures.items, is)) c.push_call.ensures.ok
