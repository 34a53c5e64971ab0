use Rattle.std.proofs.Common.{ℕ, ap, refl, subst, sym, ◌∙◌}
use Rattle.tb_file_journal.specs.Seeking.{IsSeeking, SeekState}
use Rattle.tb_file.specs.ReadingOn.{IsReadOn}
use Rattle.tb_file.specs.declared.reading_on.ReadOn.{ReadOn}
use Rattle.tb_file.proofs.Beyond.{read_on_done, committed_leaves, untaken_leaves, uncommitted, left}
use Rattle.tb_file.proofs.reading_on.read_on.Goals as goal

pub returns-in-Ok-commit_taken-clause-on : goal.returns-in-Ok-commit_taken-clause-on
returns-in-Ok-commit_taken-clause-on g c =
    let (records, taken) = c.in-Ok-look_through.ensures.takes in
    let first = c.in-Ok.ensures in
    subst (λ (a : ℕ). IsReadOn g.N.Device.tells g.N.Device.disk (g.D.Device.holds c.args.from.now) a c.args.keeper.now c.commit_taken.new.keeper) (ap (λ (s : SeekState). s.at) first)
    (read_on_done g.N.Device.disk g.N.Device.tells (g.D.Device.holds c.args.from.now) c.in-Ok.seek c.args.keeper.now records c.look_through.new.seek c.look_through.new.keeper taken c.commit_taken.new.keeper
    c.in-Ok-commit_taken.ensures.commits (λ file of. subst (IsSeeking file) (sym first) refl)
    (c.commit_taken.ensures.stays_used.0 ∙ c.look_through.ensures.stays_used.0 ∙ c.requires.usable.kept))

pub returns-in-Ok-commit_taken-clause-any_moment : goal.returns-in-Ok-commit_taken-clause-any_moment
returns-in-Ok-commit_taken-clause-any_moment g c t h keeps =
    let (records, taken) = c.in-Ok-look_through.ensures.takes in
    committed_leaves g.N.Device.disk g.N.Device.tells (g.D.Device.holds c.args.from.now) c.in-Ok.seek c.args.keeper.now records c.look_through.new.seek c.look_through.new.keeper taken c.commit_taken.new.keeper
    c.in-Ok-commit_taken.ensures.commits t h keeps

pub returns-in-Ok-look_through-clause-any_moment : goal.returns-in-Ok-look_through-clause-any_moment
returns-in-Ok-look_through-clause-any_moment g c t h keeps =
    let (records, taken) = c.in-Ok-look_through.ensures.takes in
    untaken_leaves g.N.Device.disk g.N.Device.tells (g.D.Device.holds c.args.from.now) c.in-Ok.seek c.args.keeper.now records c.look_through.new.seek c.look_through.new.keeper taken t h keeps c.in-Err-commit_taken.fault
    c.commit_taken.new.keeper
    (uncommitted g.N.Device.disk g.N.Device.tells (g.D.Device.holds c.args.from.now) c.in-Ok.seek c.args.keeper.now records c.look_through.new.seek c.look_through.new.keeper taken c.in-Err-commit_taken.fault
    c.commit_taken.new.keeper c.in-Err-commit_taken.ensures.commits)

pub returns-clause-any_moment : goal.returns-clause-any_moment
returns-clause-any_moment g c t h keeps =
    left g.N.Device.disk g.N.Device.tells (g.D.Device.holds c.args.from.now) c.in-Ok.seek c.args.keeper.now ReadOn c.in-Err.fault c.look_through.new.seek c.look_through.new.keeper c.in-Err.ensures.takes t h keeps
