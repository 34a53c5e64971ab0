use Rattle.std.proofs.Common.{inl, refl, ap, ◌∙◌, List, ℕ, Ok, Err}
use Rattle.tb_file_journal.specs.Device.{overwritten}
use Rattle.tb_file_journal.proofs.CallHistory.{failed_by, wrote}
use Rattle.tb_file_journal.proofs.memory.MemoryDevice.write_at.Goals as goal

pub returns-then-not-shown-clause-writes : goal.returns-then-not-shown-clause-writes
returns-then-not-shown-clause-writes c t =
    let old = c.args.self.now in
    let kept = c.in-Ok.ensures.ok in
    let failed = failed_by old.first.items old.calls.items c.push_write.new.calls.items old.bytes.items old.bytes.items old.failures c.count.new.self old.sound old.sound
    c.of_call.result c.count.result c.count.ensures.same (inl c.of_call.ensures.names) c.count.ensures.counted c.count.ensures.others in
    wrote old.first.items old.calls.items c.push_write.new.calls.items old.bytes.items old.bytes.items old.failures c.count.new.self old.sound
    (Err c.count.result) (record { ok = tt; cause = failed }) c.args.at c.args.bytes.now tt kept.0 _ kept.1 kept.2

pub returns-else-not-shown-clause-writes : goal.returns-else-not-shown-clause-writes
returns-else-not-shown-clause-writes c t =
    let old = c.args.self.now in
    let kept = c.in-Ok.ensures.ok in
    wrote old.first.items old.calls.items c.push_write.new.calls.items old.bytes.items c.in-Ok.next.items old.failures old.failures old.sound
    (Ok tt) (record { ok = λ fault. refl; cause = tt }) c.args.at c.args.bytes.now
    (c.in-Ok.ensures.next ∙ ap (λ (f : List ℕ). overwritten f c.args.at c.args.bytes.now) c.deref.ensures.value) kept.0 _ kept.1 kept.2
