use Rattle.std.proofs.Common.{ap, ◌∙◌, List, ℕ, Ok, Err}
use Rattle.tb_sectors.specs.Sectors.{overwritten}
use Rattle.tb_sectors.specs.declared.devices.SectorFault.TheVariants as faults
use Rattle.tb_sectors.proofs.Calls.{wrote, wrote_range}
use Rattle.tb_sectors.proofs.memory.MemorySectors.write.Goals as goal

pub returns-then-not-shown-clause-sectors : goal.returns-then-not-shown-clause-sectors
returns-then-not-shown-clause-sectors c =
    let old = c.args.self.now in
    let kept = c.in-Ok.ensures.ok in
    wrote old.first.items old.calls.items c.push_write.new.calls.items old.bytes.items old.bytes.items old.sound old.shown c.args.at c.args.bytes.now (Err faults.Failed) tt kept.0 _ kept.1 kept.2

pub returns-then-not-shown-clause-range : goal.returns-then-not-shown-clause-range
returns-then-not-shown-clause-range c =
    let old = c.args.self.now in
    let kept = c.in-Ok.ensures.ok in
    wrote_range old.first.items old.calls.items c.push_write.new.calls.items old.bytes.items old.bytes.items old.sound old.shown c.args.at c.args.bytes.now (Err faults.Failed) tt kept.0 _ kept.1 kept.2

pub returns-else-not-shown-clause-sectors : goal.returns-else-not-shown-clause-sectors
returns-else-not-shown-clause-sectors c =
    let old = c.args.self.now in
    let kept = c.in-Ok.ensures.ok in
    wrote old.first.items old.calls.items c.push_write.new.calls.items old.bytes.items c.in-Ok.next.items old.sound old.shown c.args.at c.args.bytes.now (Ok tt)
    (c.in-Ok.ensures.next ∙ ap (λ (f : List ℕ). overwritten f c.args.at c.args.bytes.now) c.deref.ensures.value) kept.0 _ kept.1 kept.2

pub returns-else-not-shown-clause-range : goal.returns-else-not-shown-clause-range
returns-else-not-shown-clause-range c =
    let old = c.args.self.now in
    let kept = c.in-Ok.ensures.ok in
    wrote_range old.first.items old.calls.items c.push_write.new.calls.items old.bytes.items c.in-Ok.next.items old.sound old.shown c.args.at c.args.bytes.now (Ok tt)
    (c.in-Ok.ensures.next ∙ ap (λ (f : List ℕ). overwritten f c.args.at c.args.bytes.now) c.deref.ensures.value) kept.0 _ kept.1 kept.2
