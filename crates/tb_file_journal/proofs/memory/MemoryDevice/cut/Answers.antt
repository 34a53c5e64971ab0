use Rattle.std.proofs.Common.{inl, refl, Ok, Err}
use Rattle.tb_file_journal.proofs.CallHistory.{failed_by, has_cut}
use Rattle.tb_file_journal.proofs.memory.MemoryDevice.cut.Goals as goal

pub returns-then-not-shown-clause-cuts : goal.returns-then-not-shown-clause-cuts
returns-then-not-shown-clause-cuts c t =
    let old = c.args.self.now in
    let failed = failed_by old.first.items old.calls.items c.push_call.new.calls.items old.bytes.items old.bytes.items old.failures c.count.new.self old.sound old.sound
    c.of_call.result c.count.result c.count.ensures.same (inl c.of_call.ensures.names) c.count.ensures.counted c.count.ensures.others in
    has_cut old.first.items old.calls.items c.push_call.new.calls.items old.bytes.items old.bytes.items old.failures c.count.new.self old.sound
    (Err c.count.result) (record { ok = tt; cause = failed }) c.args.len tt _ c.in-Ok.ensures.ok

pub returns-else-not-shown-clause-cuts : goal.returns-else-not-shown-clause-cuts
returns-else-not-shown-clause-cuts c t =
    let old = c.args.self.now in
    has_cut old.first.items old.calls.items c.push_call.new.calls.items old.bytes.items c.truncate.new.self.items old.failures old.failures old.sound
    (Ok tt) (record { ok = λ fault. refl; cause = tt }) c.args.len c.truncate.ensures.items _ c.in-Ok.ensures.ok
