use Rattle.tb_edge_file.specs.Mending.{mended_device}
use Rattle.tb_edge_file.proofs.Lives.{stays}
use Rattle.tb_edge_file.proofs.mending.MendedLive.refresh.Goals as goal

pub returns-clause-later : goal.returns-clause-later
returns-clause-later g c file held = stays (mended_device g.D.Device).holds _ file held
