use Rattle.tb_edge_file.proofs.CutCopies.{filled_by, unsynced_by}
use Rattle.tb_edge_file.proofs.cut_copies.fill.Goals as goal

pub returns-in-Ok : goal.returns-in-Ok
returns-in-Ok g c = λ tells.
    let number = g.F.FileSystem.number in
    let names = g.F.FileSystem.names in
    filled_by (number c.args.file.now) (number c.write_all.new.file) c.args.bytes.now (names c.args.files.now) (names c.write_all.new.self) (names c.sync.new.self)
    c.in_default.field-0 c.in-Ok.field-0 (c.write_all.ensures.file tells) (c.in_default.ensures.writes tells) (c.in-Ok.ensures tells) tt

pub returns-in-Err-sync : goal.returns-in-Err-sync
returns-in-Err-sync g c = λ tells.
    let number = g.F.FileSystem.number in
    let names = g.F.FileSystem.names in
    unsynced_by (number c.args.file.now) (number c.write_all.new.file) c.args.bytes.now (names c.args.files.now) (names c.write_all.new.self) (names c.sync.new.self)
    c.in_default.field-0 c.in-Err-sync.error (c.write_all.ensures.file tells) (c.in_default.ensures.writes tells) (c.in-Err-sync.ensures tells) c.of_call-in-Err-sync.result
