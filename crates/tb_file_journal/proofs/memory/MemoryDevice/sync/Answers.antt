use Rattle.std.proofs.Common.{◌∙◌}
use Rattle.tb_file_journal.proofs.CallHistory.{synced}
use Rattle.tb_file_journal.proofs.memory.MemoryDevice.sync.Goals as goal

pub returns-in-Ok-clause-syncs : goal.returns-in-Ok-clause-syncs
returns-in-Ok-clause-syncs c t =
    let kept = c.in-Ok.ensures.ok in
    synced c.args.self.now.first.items c.args.self.now.calls.items c.push_sync.new.calls.items c.args.self.now.bytes.items c.args.self.now.failures c.args.self.now.sound
    kept.0 (kept.1 ∙ c.deref.ensures.value) kept.2
