use Rattle.left_right.specs.Sides.{view}
use Rattle.tb_published.proofs.Shown.{admits, forks, merges}
use Rattle.tb_published.proofs.copies.Copies.place.Goals as goal

pub reader-requires : goal.reader-requires
reader-requires g c = admits

pub tell-requires : goal.tell-requires
tell-requires g c = let writer = c.self.inside.writer in forks writer.desk.place.id (view writer.desk.place)

pub learn-requires-clause-rule : goal.learn-requires-clause-rule
learn-requires-clause-rule g c = merges c.in_ok-place.place.place.id (view c.in_ok-place.place.place) c.tell.result.id (view c.tell.result)
