use Rattle.std.proofs.Common.{ap, Ok}
use Rattle.tb_edge_file.proofs.CutCopies.{has_still, sound_still, written_since_ok}
use Rattle.tb_edge_file.proofs.cut_copies.save.Goals as goal

pub returns-in-Whole : goal.returns-in-Whole
returns-in-Whole g c = λ tells sound.
    let before = g.F.FileSystem.names c.args.files.now in
    let between = g.F.FileSystem.names c.find.new.files in
    let same = c.in_ok-find.ensures.same tells in
    let has = c.in_ok-find.ensures.whole tells (ap (λ found. Ok found) c.in-Whole.is) in
    written_since_ok before between (g.F.FileSystem.names c.sync.new.files) c.args.name.now c.args.bytes.now c.sync.result same
    (c.sync.ensures tells (sound_still before between c.args.name.now same sound) c.args.bytes.now (has_still before between c.args.name.now c.args.bytes.now same has))
