use Rattle.std.proofs.Common.{◌++◌, arith, drop, length, length-append, length-drop, length-take}
use Rattle.tb_file_journal.proofs.Finding.{takes_found}
use Rattle.tb_file_journal.proofs.snapshots.Snapshot.new.Goals as goal

pub find-requires : goal.find-requires
find-requires g c = omega (arith, c.in-Ok.ensures.len, c.deref_mut.ensures.len)

pub returns-in-Ok-find-clause-taken : goal.returns-in-Ok-find-clause-taken
returns-in-Ok-find-clause-taken g c bytes is = takes_found g.G.Growing.grows bytes c.find.new.file c.in-Ok-find.found (c.in-Ok-find.ensures.found bytes is)

pub invariant_of-result : goal.invariant_of-result
invariant_of-result g c =
    let piece = c.in-Ok.piece in
    let read = c.find.new.piece in
    let rest = drop (length read) piece.items in
    (c.in-Ok-find.ensures.near, omega (arith, length-take piece.len (read ++ rest), length-append read rest, length-drop (length read) piece.items, c.find.auto.piece, c.deref_mut.ensures.len, c.in-Ok.ensures.len, piece.ok.0))
