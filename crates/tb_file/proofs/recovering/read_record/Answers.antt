use Rattle.tb_file.proofs.Sources.{next_is}
use Rattle.tb_file.proofs.Entered.{stays_looked}
use Rattle.tb_file.proofs.recovering.read_record.Goals as goal

pub returns-clause-reads : goal.returns-clause-reads
returns-clause-reads g c file read holds has = next_is c.next.result read file c.args.scan.now c.next.new.self has (c.next.ensures.reads file holds read has)

pub returns-clause-stays : goal.returns-clause-stays
returns-clause-stays g c t = stays_looked (g.D.Device.disk c.args.device.now) (g.D.Device.disk c.next.new.device) (g.met.D.Device.only_now c.args.device.now) (c.next.ensures.looks t)
