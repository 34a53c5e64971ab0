use Rattle.std.proofs.Common.{◌≡◌, ◌≤◌, ◌∙◌, ap, ℕ, length, arith}
use Rattle.tb_file_journal.specs.declared.hops.Hop.TheVariants as hops
use Rattle.tb_file_journal.proofs.Finding.{sought_same, sought_next, sought_onward, sought_closed, sought_broken}
use Rattle.tb_file_journal.proofs.snapshots.find_end.Goals as goal

pub loop-end-preserved-in-Ok-default-Further : goal.loop-end-preserved-in-Ok-default-Further
loop-end-preserved-in-Ok-default-Further g c =
    let some : 11 ≤ length c.hop_sized.new.piece = omega (arith, c.loop-end.invariant.some, c.hop_sized.auto.piece) in
    sought_next (g.G.Growing.grows c.args.file.now) (g.G.Growing.grows c.loop-end.file) (g.G.Growing.grows c.hop_sized.new.file) c.args.from c.loop-end.end c.loop-end.piece c.loop-end.invariant
    c.in-Ok-default-Further.field-0-0 c.in-Ok-default-Further.field-0-1 c.in-Ok-default-Further.ensures.leads c.in-Ok-default-Further.next c.hop_sized.new.piece c.in-Ok-default-Further.field-0-1-is some c.in-Ok-default-Further.ensures.same

pub loop-end-preserved : goal.loop-end-preserved
loop-end-preserved g c =
    let some : 11 ≤ length c.hop_sized.new.piece = omega (arith, c.loop-end.invariant.some, c.hop_sized.auto.piece) in
    sought_onward (g.G.Growing.grows c.args.file.now) (g.G.Growing.grows c.loop-end.file) (g.G.Growing.grows c.hop_sized.new.file) c.args.from c.loop-end.end c.loop-end.piece c.loop-end.invariant
    c.in-Ok-default-Closed.len c.in-Ok-default-Closed.field-0-1 c.in-Ok-default-Closed.ensures.leads c.in-Ok-default-Closed.at c.hop_sized.new.piece c.in-Ok-default-Closed.field-0-1-is some c.in-Ok-default-Closed.ensures.same

pub returns-then-at-end-clause-found : goal.returns-then-at-end-clause-found
returns-then-at-end-clause-found g c =
    let here : c.in-Ok-default-Closed.at ≡ c.loop-end.end = omega (arith, c.if-at-end.true, (c.in-Ok-default-Closed.ensures.closed c.in-Ok-default-Closed.at c.in-Ok-default-Closed.field-0-1-is).0) in
    sought_closed (g.G.Growing.grows c.args.file.now) (g.G.Growing.grows c.loop-end.file) (g.G.Growing.grows c.hop_sized.new.file) c.args.from c.loop-end.end c.loop-end.piece c.loop-end.invariant
    c.in-Ok-default-Closed.len c.in-Ok-default-Closed.field-0-1 c.in-Ok-default-Closed.ensures.leads (c.in-Ok-default-Closed.field-0-1-is ∙ ap (λ (k : ℕ). hops.Closed k) here)

pub returns-then-at-end-clause-same : goal.returns-then-at-end-clause-same
returns-then-at-end-clause-same g c = sought_same (g.G.Growing.grows c.args.file.now) (g.G.Growing.grows c.loop-end.file) (g.G.Growing.grows c.hop_sized.new.file) c.args.from c.loop-end.end c.loop-end.piece c.loop-end.invariant c.in-Ok-default-Closed.ensures.same

pub returns-in-Ok-default-Broken-clause-found : goal.returns-in-Ok-default-Broken-clause-found
returns-in-Ok-default-Broken-clause-found g c =
    sought_broken (g.G.Growing.grows c.args.file.now) (g.G.Growing.grows c.loop-end.file) (g.G.Growing.grows c.hop_sized.new.file) c.args.from c.loop-end.end c.loop-end.piece c.loop-end.invariant
    c.in-Ok-default-Broken.field-0-0 c.in-Ok-default-Broken.field-0-1 c.in-Ok-default-Broken.ensures.leads c.in-Ok-default-Broken.field-0-1-is

pub returns-in-Ok-default-Broken-clause-same : goal.returns-in-Ok-default-Broken-clause-same
returns-in-Ok-default-Broken-clause-same g c = sought_same (g.G.Growing.grows c.args.file.now) (g.G.Growing.grows c.loop-end.file) (g.G.Growing.grows c.hop_sized.new.file) c.args.from c.loop-end.end c.loop-end.piece c.loop-end.invariant c.in-Ok-default-Broken.ensures.same

pub returns-in-Err-clause-same : goal.returns-in-Err-clause-same
returns-in-Err-clause-same g c = sought_same (g.G.Growing.grows c.args.file.now) (g.G.Growing.grows c.loop-end.file) (g.G.Growing.grows c.hop_sized.new.file) c.args.from c.loop-end.end c.loop-end.piece c.loop-end.invariant c.in-Err.ensures.same
