use Rattle.tb_file_journal.proofs.Repairing.{room_behind, repaired}
use Rattle.tb_file_journal.proofs.opening.repair.Goals as goal

pub cut_kept-requires : goal.cut_kept-requires
cut_kept-requires g c = record { within = λ t. room_behind (g.D.Device.disk c.args.device.now) (c.requires.reads t) c.args.end (c.requires.ends t) }

pub returns-clause-repairs : goal.returns-clause-repairs
returns-clause-repairs g c t = repaired (g.D.Device.disk c.args.device.now) (c.requires.reads t) c.args.end (c.requires.ends t) (g.D.Device.disk c.cut_kept.new.device) c.cut_kept.result (c.cut_kept.ensures.cuts t)
