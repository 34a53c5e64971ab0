use Rattle.std.proofs.Common.{true, false}
use Rattle.tb_sectors.proofs.Calls.{synced}
use Rattle.tb_sectors.proofs.memory.MemorySectors.keep.Goals as goal

pub returns-in-Ok-clause-sectors : goal.returns-in-Ok-clause-sectors
returns-in-Ok-clause-sectors c =
    let old = c.args.self.now in
    synced old.first.items old.calls.items c.push_call.new.calls.items old.bytes.items old.sound old.shown true c.in-Ok.ensures.ok

pub returns-in-Ok-clause-range : goal.returns-in-Ok-clause-range
returns-in-Ok-clause-range c =
    let old = c.args.self.now in
    synced old.first.items old.calls.items c.push_call.new.calls.items old.bytes.items old.sound old.shown false c.in-Ok.ensures.ok
